-- What a claim shows of a page.
use Rattle.std.specs.Prelude.{ℕ, Bool, true, false, List, [], Option, Some, None}
use Rattle.page_body.specs.declared.body.PageBody.{PageBody}
use Rattle.page_body.specs.declared.body.PageBody.TheVariants.{Resident, Resting, Dead}
use Rattle.page_body.specs.Bodies.{image_of}
use Rattle.ooc_io.specs.declared.ticket.TicketMark as mark
use Rattle.page_pool.specs.declared.cell.Held.{Held}

abbrev pub is_resident : PageBody → Bool
is_resident (Resident frame ticket) = true
is_resident (Resting ticket) = false
is_resident (Dead frame) = false

-- the number of the frame that readers see
abbrev pub number_in : PageBody → ℕ
number_in (Resident frame ticket) = frame.number
number_in (Resting ticket) = 0
number_in (Dead frame) = 0

module _ {M B : Type 0} {marks : mark.Ghosts M} where
  abbrev pub shown_number : Option (Held M B marks) → ℕ
  shown_number (Some x) = number_in x.body
  shown_number None = 0

  abbrev pub shown_image : Option (Held M B marks) → List ℕ
  shown_image (Some x) = image_of x.body
  shown_image None = []

  abbrev pub shows_frame : Option (Held M B marks) → Bool
  shows_frame (Some x) = is_resident x.body
  shows_frame None = false
