-- What contracts see of a pool and of its seats.
use Rattle.std.specs.Prelude.{◌≡◌, ℕ, ◌<◌, List, length, IfSome}
use Rattle.ooc_io.specs.declared.ticket.TicketMark as mark
use Rattle.number_bags.specs.Bags.{times}
use Rattle.evict_ring.specs.Seats.{IsSeatOf}
use Rattle.page_body.specs.declared.open.OpenPage.{OpenPage}
use Rattle.page_pool.specs.Cells.{IsFrame}
use Rattle.page_pool.specs.Pages.{IsCellOf}
use Rattle.page_pool.specs.Rooms.{IsRoomOf}
use Rattle.page_pool.specs.declared.page.PageRef.{PageRef}
use Rattle.page_pool.specs.declared.pool.Seen.{Seen}
use Rattle.page_pool.specs.declared.pool.Pool.{Pool}
use Rattle.page_pool.specs.declared.pool.PoolSeat.{PoolSeat}

module _ {M B : Type 0} {marks : mark.Ghosts M} where
  -- how many bytes a page has, and how many frames there are
  abbrev pub page_bytes : Pool M B marks → ℕ
  page_bytes pool = pool.cells.page

  abbrev pub frame_count : Pool M B marks → ℕ
  frame_count pool = pool.cells.frames

  -- the page is one of this pool
  abbrev pub IsPageOf : Pool M B marks → PageRef M B marks → Type 0
  IsPageOf pool page = IsCellOf pool.cells page

  -- the frames of the pages that the seat opened and that are still open
  abbrev pub open_frames : PoolSeat M B marks → List ℕ
  open_frames seat = seat.ring.held

  -- the frames whose turns the seat found out, one for each time
  abbrev pub frames_out : PoolSeat M B marks → List ℕ
  frames_out seat = seat.ring.refused

  abbrev pub looks_of : PoolSeat M B marks → List Seen
  looks_of seat = seat.looks.items

  -- the seat is one of this pool
  pub record IsPoolSeat (pool : Pool M B marks) (seat : PoolSeat M B marks) : Type 0 where
    pub own : IsSeatOf pool.ring seat.ring
    pub looks : length seat.looks.items ≡ pool.cells.frames
    pub room : IfSome seat.room (IsRoomOf pool.cells)

  -- the page was opened at this seat and is still open
  pub record IsOpenAt (pool : Pool M B marks) (seat : PoolSeat M B marks) (page : OpenPage) : Type 0 where
    pub own : 0 < times (open_frames seat) page.frame.number
    pub frame : IsFrame (page_bytes pool) (frame_count pool) page.frame
