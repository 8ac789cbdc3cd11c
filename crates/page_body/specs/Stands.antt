-- When an image, a ticket and a body stand for a content. A content is what a page says wherever its heap pages lie.
-- A pool is told where its lanes tell what their tickets hold; no code can read whether it is.
use Rattle.std.specs.Prelude.{◌≡◌, ℕ, Bool, IsTrue, List, Option, Some, None, ⊤, IfSome, length}
use Rattle.ooc_io.specs.declared.ticket.Ticket.{Ticket}
use Rattle.row_image.specs.declared.image.ImageKind.{ImageKind}
use Rattle.row_image.specs.Rules.{IsAccepted}
use Rattle.row_image.specs.Flat.{flat}
use Rattle.page_body.specs.declared.body.PageBody.{PageBody}
use Rattle.page_body.specs.declared.body.PageBody.TheVariants.{Resident, Resting, Dead}

-- an image that is accepted in the page's kind; in a told pool it says the content
pub record ImageStands (told : Bool) (kind : ImageKind) (content image : List ℕ) : Type 0 where
  pub accepted : IsAccepted kind image
  pub same : IsTrue told → flat kind image ≡ content

-- in a told pool a ticket keeps an image that stands for the content and is as long
abbrev pub KeptStands : Bool → ImageKind → List ℕ → Option (List ℕ) → Type 0
KeptStands told kind content None = ⊥
KeptStands told kind content (Some image) = ImageStands told kind content image × (length image ≡ length content)

abbrev pub TicketStands : Bool → ImageKind → List ℕ → Ticket → Type 0
TicketStands told kind content ticket = IsTrue told → KeptStands told kind content ticket.kept

-- a body stands for a content by its image and by its ticket; a dead one stands for every content
abbrev pub StandsFor : Bool → ImageKind → List ℕ → PageBody → Type 0
StandsFor told kind content (Resident frame ticket) = ImageStands told kind content frame.bytes.items × IfSome ticket (TicketStands told kind content)
StandsFor told kind content (Resting ticket) = TicketStands told kind content ticket
StandsFor told kind content (Dead frame) = ⊤
