-- Chunks that seats fill, and places in them.
use Rattle.std.specs.Prelude.{◌≡◌, ◌<◌, length}
use Rattle.boxcar.specs.Table.{id_at}
use Rattle.ooc_io.specs.declared.ticket.TicketMark as mark
use Rattle.page_pool.specs.declared.cells.Cells.{Cells}
use Rattle.page_pool.specs.declared.cells.Room.{Room}
use Rattle.page_pool.specs.declared.cells.Spot.{Spot}

module _ {M B : Type 0} {marks : mark.Ghosts M} where
  -- the chunk is one of these cells'
  pub record IsRoomOf (cells : Cells M B marks) (room : Room M B marks) : Type 0 where
    pub at : room.at < length cells.chunks.items
    pub of : room.chunk.of ≡ id_at cells.chunks.items room.at

  pub record IsSpotOf (cells : Cells M B marks) (spot : Spot M B marks) : Type 0 where
    pub at : spot.at < length cells.chunks.items
    pub of : spot.chunk.of ≡ id_at cells.chunks.items spot.at
