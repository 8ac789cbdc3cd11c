-- When a ticket stands for a content, and what it then has.
use Rattle.std.proofs.Common.{◌≡◌, ℕ, ◌≤◌, Bool, List, length, Option, Some, None, refl, sym, subst, ◌∙◌}
use Rattle.std.specs.Prelude.{IsSome, IfSome, IsTrue}
use Rattle.ooc_io.specs.declared.ticket.Ticket.{Ticket}
use Rattle.row_image.specs.declared.image.ImageKind.{ImageKind}
use Rattle.row_image.specs.Rules.{IsAccepted}
use Rattle.row_image.specs.Bytes.{IsPage}
use Rattle.evict_ring.specs.declared.frame.Frame.{Frame}
use Rattle.page_body.specs.Bodies.{frame_of}
use Rattle.page_body.specs.ContentLength.{stands_long}
use Rattle.page_body.specs.Stands.{KeptStands, TicketStands, StandsFor}
use Rattle.page_body.specs.declared.body.PageBody.{PageBody}
use Rattle.page_body.specs.declared.body.PageBody.TheVariants.{Resident}

kept_some : (told : Bool) (kind : ImageKind) (content : List ℕ) (o : Option (List ℕ)) → KeptStands told kind content o → IsSome o
kept_some told kind content None k = absurd k
kept_some told kind content (Some image) k = refl

kept_long : (told : Bool) (kind : ImageKind) (content : List ℕ) (n : ℕ) (o : Option (List ℕ)) → length content ≡ n → KeptStands told kind content o → IfSome o (λ bytes. n ≡ length bytes)
kept_long told kind content n None long k = absurd k
kept_long told kind content n (Some image) long k = sym (k.1 ∙ long)

kept_accepted : (told : Bool) (kind : ImageKind) (content : List ℕ) (o : Option (List ℕ)) → KeptStands told kind content o → IfSome o (IsAccepted kind)
kept_accepted told kind content None k = absurd k
kept_accepted told kind content (Some image) k = k.0.accepted

module _ (told : Bool) (kind : ImageKind) (content : List ℕ) (ticket : Ticket) (stands : TicketStands told kind content ticket) where
  pub ticket_tells : IsTrue told → IsSome ticket.kept
  ticket_tells yes_told = kept_some told kind content ticket.kept (stands yes_told)

  pub ticket_fits : (n : ℕ) → length content ≡ n → IsTrue told → IfSome ticket.kept (λ bytes. n ≡ length bytes)
  ticket_fits n long yes_told = kept_long told kind content n ticket.kept long (stands yes_told)

  pub ticket_accepted : IsTrue told → IfSome ticket.kept (IsAccepted kind)
  ticket_accepted yes_told = kept_accepted told kind content ticket.kept (stands yes_told)

-- a ticket that keeps a resident page's image
pub image_kept : (told : Bool) (kind : ImageKind) (content image : List ℕ) (body : PageBody) (frame : Frame) (own : Option Ticket) (ticket : Ticket) → body ≡ Resident frame own → image ≡ frame.bytes.items → IfSome (frame_of body) (λ f. IsPage (length f.bytes.items)) → (IsTrue told → ticket.kept ≡ Some image) → StandsFor told kind content body → TicketStands told kind content ticket
image_kept told kind content image body frame own ticket is read page kept stands yes_told =
    let here : StandsFor told kind content (Resident frame own) = subst (StandsFor told kind content) is stands in
    let long : IsPage (length frame.bytes.items) = subst (λ b. IfSome (frame_of b) (λ f. IsPage (length f.bytes.items))) is page in
    let there : KeptStands told kind content (Some frame.bytes.items) = (here.0, stands_long told kind content frame.bytes.items here.0 yes_told long.least) in
    subst (KeptStands told kind content) (sym (kept yes_told)) (subst (λ z. KeptStands told kind content (Some z)) (sym read) there)
