-- A page's body keeps its frame and stands for its content, after each change.
use Rattle.std.proofs.Common.{◌≡◌, ℕ, ◌≤◌, List, length, true, Option, Some, None, refl, sym, ap, subst, ◌∙◌}
use Rattle.std.specs.Prelude.{IfSome}
use Rattle.std.specs.Option.{ForSome}
use Rattle.std.proofs.lemmas.List.{with_items_is}
use Rattle.ooc_io.specs.declared.ticket.Ticket.{Ticket}
use Rattle.evict_ring.specs.declared.frame.Frame.{Frame}
use Rattle.evict_ring.specs.Lending.{frame_with}
use Rattle.row_image.specs.declared.layout.CellKind.{CellKind}
use Rattle.row_image.specs.declared.image.ImageKind.{ImageKind}
use Rattle.row_image.specs.declared.image.ImageKind.TheVariants.{Rows, Heap, Plain}
use Rattle.page_body.specs.declared.body.PageBody.{PageBody}
use Rattle.page_body.specs.declared.body.PageBody.TheVariants.{Resident, Resting, Dead}
use Rattle.page_body.specs.Bodies.{IsResident, frame_of, image_of, ticket_of, installed, rested, killed, IsRebased}
use Rattle.page_body.specs.Stands.{StandsFor, ImageStands, KeptStands, TicketStands}
use Rattle.page_body.specs.ContentLength.{stands_long}
use Rattle.pool_core.specs.Effects.{given_ticket, keeping, kept_of, Rebases}
use Rattle.pool_core.specs.Sound.{HasFrame}
use Rattle.pool_core.proofs.Frames.{KeepsFrame}

-- a body stands for its content, and a ticket's image has as many bytes as a page
pub record BodyStands (bytes : ℕ) (kind : ImageKind) (content : List ℕ) (body : PageBody) : Type 0 where
  pub stands : StandsFor true kind content body
  pub kept : ForSome (ticket_of body) (λ t. ForSome t.kept (λ image. length image ≡ bytes))

pub same_frame : (body : PageBody) → KeepsFrame body body
same_frame body = record { has = λ n h. h; had = λ f e. (f, e, refl, refl) }

-- an end
pub killed_frame : (body : PageBody) → KeepsFrame body (killed body)
killed_frame body = record { has = λ n h. h; had = λ f e. (f, e, refl, refl) }

pub killed_stands : (bytes : ℕ) (kind : ImageKind) (content : List ℕ) (body : PageBody) → BodyStands bytes kind content (killed body)
killed_stands bytes kind content body = record { stands = tt; kept = λ t e. absurd (let h : ⊥ = cc in h) }

-- a move of texts
moved_frame : (kinds : List CellKind) (part base : ℕ) (old new : PageBody) → IsRebased kinds part base old new → KeepsFrame old new
moved_frame kinds part base (Resident f t) (Resident g u) h = record {
  has = λ n e. h.0 ∙ e;
  had = λ x e.
      let P : Frame → Type 0 = λ y. (z : Frame) × (frame_of (Resident f t) ≡ Some z) × (y.number ≡ z.number) × (length y.bytes.items ≡ length z.bytes.items) in
      let is : g ≡ x = cc in
      subst P is (f, refl, h.0, h.2);
}
moved_frame kinds part base (Resident f t) (Resting u) h = absurd h
moved_frame kinds part base (Resident f t) (Dead g) h = absurd h
moved_frame kinds part base (Resting t) new h = absurd h
moved_frame kinds part base (Dead f) new h = absurd h

moved_stands : (bytes : ℕ) (kinds : List CellKind) (part base : ℕ) (content : List ℕ) (old new : PageBody) → IsRebased kinds part base old new → BodyStands bytes (Rows kinds) content old → BodyStands bytes (Rows kinds) content new
moved_stands bytes kinds part base content (Resident f t) (Resident g u) h s =
    let T : Option Ticket → Type 0 = λ ticket. IfSome ticket (TicketStands true (Rows kinds) content) in
    let K : Option Ticket → Type 0 = λ ticket. ForSome ticket (λ t. ForSome t.kept (λ image. length image ≡ bytes)) in
    record {
      stands = (record { accepted = h.3; same = λ told. h.4 ∙ s.stands.0.same told }, subst T (sym h.1) s.stands.1);
      kept = subst K (sym h.1) s.kept;
    }
moved_stands bytes kinds part base content (Resident f t) (Resting u) h s = absurd h
moved_stands bytes kinds part base content (Resident f t) (Dead g) h s = absurd h
moved_stands bytes kinds part base content (Resting t) new h s = absurd h
moved_stands bytes kinds part base content (Dead f) new h s = absurd h

pub rebased_frame : (kind : ImageKind) (part base : ℕ) (old new : PageBody) → Rebases kind part base old new → KeepsFrame old new
rebased_frame (Rows kinds) part base old new h = moved_frame kinds part base old new h
rebased_frame Heap part base old new h = absurd h
rebased_frame Plain part base old new h = absurd h

pub rebased_stands : (bytes : ℕ) (kind : ImageKind) (part base : ℕ) (content : List ℕ) (old new : PageBody) → Rebases kind part base old new → BodyStands bytes kind content old → BodyStands bytes kind content new
rebased_stands bytes (Rows kinds) part base content old new h s = moved_stands bytes kinds part base content old new h s
rebased_stands bytes Heap part base content old new h s = absurd h
rebased_stands bytes Plain part base content old new h s = absurd h

-- a rest
given_kept : (bytes : ℕ) (page : ℕ) (image : List ℕ) → length image ≡ bytes → ForSome (Some (keeping page image)) (λ t. ForSome t.kept (λ image. length image ≡ bytes))
given_kept bytes page image long t e kept has =
    let P : List ℕ → Type 0 = λ image. length image ≡ bytes in
    let ticket : keeping page image ≡ t = cc in
    let same : Some image ≡ t.kept = ap (λ (x : Ticket). x.kept) ticket in
    let is : image ≡ kept = cc in
    subst P is long

pub rested_stands : (bytes page : ℕ) (kind : ImageKind) (content : List ℕ) (body : PageBody) → 4096 ≤ bytes → BodyStands bytes kind content body → (IsResident body → length (image_of body) ≡ bytes)
    → BodyStands bytes kind content (rested body (given_ticket page body))
rested_stands bytes page kind content (Resident f (Some ticket)) least s long = record { stands = s.stands.1; kept = s.kept }
rested_stands bytes page kind content (Resident f None) least s long = record {
  stands = λ told. (s.stands.0, stands_long true kind content f.bytes.items s.stands.0 told (subst (λ n. 4096 ≤ n) (sym (long tt)) least));
  kept = given_kept bytes page f.bytes.items (long tt);
}
rested_stands bytes page kind content (Resting ticket) least s long = s
rested_stands bytes page kind content (Dead f) least s long = record { stands = tt; kept = λ t e. absurd (let h : ⊥ = cc in h) }

pub rested_frame : (page : ℕ) (body : PageBody) → frame_of (rested body (given_ticket page body)) ≡ None
rested_frame page (Resident f (Some ticket)) = refl
rested_frame page (Resident f None) = refl
rested_frame page (Resting ticket) = refl
rested_frame page (Dead f) = refl

-- an install
pub framed : (f : Frame) (image : List ℕ) → length image ≡ length f.bytes.items → (frame_with f image).bytes.items ≡ image
framed f image long = with_items_is f.bytes image (long ∙ sym f.bytes.ok.0)

pub installed_stands : (bytes : ℕ) (kind : ImageKind) (content : List ℕ) (body : PageBody) (f : Frame) (image : List ℕ) → BodyStands bytes kind content body → kept_of body ≡ Some image → length image ≡ length f.bytes.items
    → BodyStands bytes kind content (installed body (frame_with f image))
installed_stands bytes kind content (Resident old ticket) f image s e long = absurd (let h : ⊥ = cc in h)
installed_stands bytes kind content (Resting ticket) f image s e long =
    let K : Option (List ℕ) → Type 0 = λ kept. KeptStands true kind content kept in
    let I : List ℕ → Type 0 = λ image. ImageStands true kind content image in
    let mine : KeptStands true kind content (Some image) = subst K e (s.stands refl) in
    record { stands = (subst I (sym (framed f image long)) mine.0, s.stands); kept = s.kept }
installed_stands bytes kind content (Dead frame) f image s e long = absurd (let h : ⊥ = cc in h)

pub installed_frame : (body : PageBody) (f : Frame) (image : List ℕ) → kept_of body ≡ Some image → frame_of (installed body f) ≡ Some f
installed_frame (Resident old ticket) f image e = absurd (let h : ⊥ = cc in h)
installed_frame (Resting ticket) f image e = refl
installed_frame (Dead frame) f image e = absurd (let h : ⊥ = cc in h)

-- before it, no frame
pub resting_frame : (body : PageBody) (image : List ℕ) → kept_of body ≡ Some image → (n : ℕ) → HasFrame n body → ⊥
resting_frame (Resident old ticket) image e n h = let h : ⊥ = cc in h
resting_frame (Resting ticket) image e n h = h
resting_frame (Dead frame) image e n h = let h : ⊥ = cc in h
