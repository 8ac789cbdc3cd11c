-- What came of a page that was to be pinned, and loaded where it rests.
use Rattle.std.specs.Prelude.{ℕ, Bool, ⊤}
use Rattle.ooc_io.specs.declared.ticket.TicketMark as mark
use Rattle.ooc_io.specs.Counts.{Rose}
use Rattle.row_image.specs.declared.image.ImageKind.{ImageKind}
use Rattle.page_body.specs.Refusals.{IsSpoilt}
use Rattle.page_pool.specs.Pages.{Shows}
use Rattle.page_pool.specs.Words.{ShowsClaim}
use Rattle.page_pool.specs.View.{frame_count, frames_out, looks_of}
use Rattle.page_pool.specs.declared.page.PageRef.{PageRef}
use Rattle.page_pool.specs.declared.page.Load.{Load}
use Rattle.page_pool.specs.declared.page.Load.TheVariants.{Pinned, Busy, Dead, NoFrame, Spill, Damaged, OutOfMemory}
use Rattle.page_pool.specs.declared.pool.Pool.{Pool}
use Rattle.page_pool.specs.declared.pool.PoolSeat.{PoolSeat}
use Rattle.page_pool.specs.Tried.{AllSeen}

module _ {M B : Type 0} {marks : mark.Ghosts M} where
  -- no frame was sought
  abbrev pub PinsLoad : Bool → PageRef M B marks → Load M B marks → Type 0
  PinsLoad told page (Pinned pin) = Shows told page pin
  PinsLoad told page (Busy word) = ShowsClaim word
  PinsLoad told page Dead = ⊤
  PinsLoad told page NoFrame = ⊥
  PinsLoad told page Spill = ⊥
  PinsLoad told page (Damaged damage) = ⊥
  PinsLoad told page OutOfMemory = ⊤

  -- a fault
  abbrev pub IsFault : Load M B marks → Type 0
  IsFault (Pinned pin) = ⊥
  IsFault (Busy word) = ⊥
  IsFault Dead = ⊥
  IsFault NoFrame = ⊥
  IsFault Spill = ⊤
  IsFault (Damaged damage) = ⊤
  IsFault OutOfMemory = ⊤

  -- a pin shows the page; a busy page's word shows a claim; where no frame could be had, the looks say why of each
  abbrev pub LoadIs : Bool → Pool M B marks → PageRef M B marks → PoolSeat M B marks → PoolSeat M B marks → Load M B marks → Type 0
  LoadIs told pool page old new (Pinned pin) = Shows told page pin
  LoadIs told pool page old new (Busy word) = ShowsClaim word
  LoadIs told pool page old new Dead = ⊤
  LoadIs told pool page old new NoFrame = AllSeen (frames_out old) (frames_out new) (looks_of new) 0 (frame_count pool)
  LoadIs told pool page old new Spill = ⊤
  LoadIs told pool page old new (Damaged damage) = ⊤
  LoadIs told pool page old new OutOfMemory = ⊤

  -- the lane failed only where its count of faults rose, and an image is refused only where the pool isn't told
  abbrev pub LoadFails : Bool → ImageKind → ℕ → ℕ → ℕ → Load M B marks → Type 0
  LoadFails told kind page before now (Pinned pin) = ⊤
  LoadFails told kind page before now (Busy word) = ⊤
  LoadFails told kind page before now Dead = ⊤
  LoadFails told kind page before now NoFrame = ⊤
  LoadFails told kind page before now Spill = Rose before now
  LoadFails told kind page before now (Damaged damage) = IsSpoilt told kind page damage
  LoadFails told kind page before now OutOfMemory = ⊤
