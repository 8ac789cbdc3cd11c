-- What a body was that was asked to change, and what a reader's claim shows.
use Rattle.std.specs.Prelude.{Option, Some, None}
use Rattle.ooc_io.specs.declared.ticket.TicketMark as mark
use Rattle.page_body.specs.declared.body.PageBody.{PageBody}
use Rattle.page_body.specs.Bodies.{IsResident, IsResting}
use Rattle.page_pool.specs.Bodies.{IsDead}
use Rattle.page_pool.specs.declared.moves.Was.{Was}
use Rattle.page_pool.specs.declared.moves.Was.TheVariants.{Resident, Resting, Dead}
use Rattle.page_pool.specs.declared.cell.Held.{Held}
use Rattle.page_pool.specs.declared.page.Hit.{Hit}
use Rattle.page_pool.specs.declared.page.Hit.TheVariants as hit

abbrev pub WasIs : PageBody → Was → Type 0
WasIs body Resident = IsResident body
WasIs body Resting = IsResting body
WasIs body Dead = IsDead body

module _ {M B : Type 0} {marks : mark.Ghosts M} where
  -- a page that a claim shows is answered as it is
  abbrev pub SeenAs : Option (Held M B marks) → Hit M B marks → Type 0
  SeenAs (Some held) (hit.Pinned pin) = IsResident held.body
  SeenAs (Some held) (hit.Busy word) = ⊥
  SeenAs (Some held) hit.Resting = IsResting held.body
  SeenAs (Some held) hit.Dead = IsDead held.body
  SeenAs None answer = ⊥
