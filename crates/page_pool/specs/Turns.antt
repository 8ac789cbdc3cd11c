-- What a turn at home has. The tag of a pool's ring has the bytes of a page, the count of frames, and the names of the slots of the pool's chunks.
use Rattle.std.specs.Prelude.{◌≡◌, ℕ, ◌<◌, List, [], ◌∷◌, map, length, slice_index, Option, Some, None}
use Rattle.ooc_io.specs.declared.ticket.TicketMark as mark
use Rattle.evict_ring.specs.declared.frame.Frame.{Frame}
use Rattle.evict_ring.specs.declared.turn.Turn.{Turn}
use Rattle.boxcar.specs.Slot.{Named}
use Rattle.page_pool.specs.Cells.{IsSized}
use Rattle.page_pool.specs.declared.page.PageRef.{PageRef}
use Rattle.page_pool.specs.declared.cells.Cells.{Cells}
use Rattle.page_pool.specs.declared.owner.Owner.{Owner}
use Rattle.page_pool.specs.declared.owner.Owner.TheVariants.{Free, Page}

abbrev pub page_in : List ℕ → ℕ
page_in about = slice_index about 0

abbrev pub frames_in : List ℕ → ℕ
frames_in about = slice_index about 1

abbrev pub ids_in : List ℕ → List ℕ
ids_in [] = []
ids_in (x ∷ []) = []
ids_in (x ∷ (y ∷ ids)) = ids

abbrev pub id_of : Named → ℕ
id_of n = n.id

module _ {M B : Type 0} {marks : mark.Ghosts M} where
  -- what the tag says of a pool's cells
  abbrev pub about_of : Cells M B marks → List ℕ
  about_of cells = cells.page ∷ (cells.frames ∷ map id_of cells.chunks.items)

  -- the page is one of the pool of the tag
  pub record IsPageBy (about : List ℕ) (p : PageRef M B marks) : Type 0 where
    pub page : p.shown.value.cell.page ≡ page_in about
    pub frames : p.shown.value.cell.frames ≡ frames_in about
    pub sized : IsSized p.shown.value.cell
    pub at : p.at < length (ids_in about)
    pub of : p.chunk.of ≡ slice_index (ids_in about) p.at

  -- a spare frame with its share, or the page that has the frame
  abbrev pub TurnIs : List ℕ → ℕ → Option Frame → Option (Owner M B marks) → Type 0
  TurnIs about number (Some frame) (Some (Free share)) = (frame.number ≡ number) × (length frame.bytes.items ≡ page_in about)
  TurnIs about number (Some frame) (Some (Page p)) = ⊥
  TurnIs about number (Some frame) None = ⊥
  TurnIs about number None (Some (Free share)) = ⊥
  TurnIs about number None (Some (Page p)) = IsPageBy about p
  TurnIs about number None None = ⊥

  abbrev pub TurnHolds : List ℕ → Turn (Owner M B marks) → Type 0
  TurnHolds about t = TurnIs about t.frame t.spare t.owner
