-- What a live page's entry has.
use Rattle.std.proofs.Common.{◌≡◌, ℕ, ◌+◌, ◌<◌, ◌≤◌, List, length, refl, sym, ap, ◌∙◌, subst, arith, Option, Some, None, get_or, Bool, true}
use Rattle.std.specs.Prelude.{slice_index, IsSome, IfSome, IsTrue}
use Rattle.std.proofs.lemmas.Option.{slice_get_read, slice_get_within, slice_get_past}
use Rattle.std.proofs.Math.Decide.{dec_le}
use Rattle.std.proofs.Math.Nat.{lt_of_not-le}
use mathlib.Core.Logic.{dite}
use Rattle.ooc_io.specs.declared.ticket.Ticket.{Ticket}
use Rattle.page_body.specs.Bodies.{IsResting}
use Rattle.solo_pool.specs.Weights.{shown, is_alive}
use Rattle.row_image.specs.Rules.{IsAccepted}
use Rattle.row_image.specs.Flat.{flat}
use Rattle.page_body.specs.Stands.{StandsFor, TicketStands, KeptStands, ImageStands}
use Rattle.row_image.specs.declared.image.ImageKind.{ImageKind}
use Rattle.evict_ring.specs.declared.frame.Frame.{Frame}
use Rattle.page_body.specs.declared.body.PageBody.{PageBody}
use Rattle.page_body.specs.declared.body.PageBody.TheVariants.{Resident, Resting, Dead}
use Rattle.page_body.proofs.Tickets as tickets
use Rattle.page_body.specs.Refusals.{ReadFails, RoomFails, IsSpoilt}
use Rattle.page_body.specs.declared.fault.PoolFault.{PoolFault}
use Rattle.page_body.specs.declared.fault.PoolFault.TheVariants.{Spill, Damaged, OutOfMemory}
use Rattle.solo_pool.specs.declared.entry.Place.{Place}
use Rattle.solo_pool.specs.declared.entry.Place.TheVariants.{Owned}
use Rattle.solo_pool.specs.declared.entry.Entry.{Entry}
use Rattle.solo_pool.specs.declared.page.SoloPage.{SoloPage}
use Rattle.solo_pool.specs.State.{shown_in, used_in, frame_at, pins_at}
use Rattle.solo_pool.specs.Sound.{Sound}
use Rattle.solo_pool.specs.Views.{LiveAt, LiveIn, IsEntryOf, RestsAt, RestsIn, PutStands, PutIn, kind_of, content_of}

pub live_within : (told : Bool) (page : ℕ) (es : List Entry) (p : SoloPage) → LiveAt told page es p → p.at < length es
live_within told page es p v = dite (dec_le (length es) p.at) (λ past. absurd (subst (LiveIn told page p) (slice_get_past es p.at past) v)) (λ n. lt_of_not-le n)

pub live_entry : (told : Bool) (page : ℕ) (es : List Entry) (p : SoloPage) (e : Entry) → LiveAt told page es p → e ≡ get_or es p.at e → IsEntryOf told page p e
live_entry told page es p e v is = subst (LiveIn told page p) (slice_get_read es (length es) p.at e refl (live_within told page es p v) is) v

pub number_small : {page held : ℕ} {es : List Entry} {ps : List Place} {us : List ℕ} (x : ℕ) (f : Frame) → Sound page es ps us held → frame_at es x ≡ Some f → length ps ≤ 16777216 → f.number < 16777216
number_small {page} {held} {es} {ps} {us} x f s at most = let k : f.number < length ps = slice_get_within ps f.number (Owned x) (s.owned x f at) in omega (arith, k, most)

pub pins_used : (es : List Entry) (us : List ℕ) (x : ℕ) (f : Frame) → frame_at es x ≡ Some f → 0 < pins_at es us x → 0 < slice_index us f.number
pins_used es us x f at h = subst (λ o. 0 < used_in us o) at h

-- what is asked of a ticket before it is read
module _ (told : Bool) (page : ℕ) (low : 4096 ≤ page) (p : SoloPage) (e : Entry) (v : IsEntryOf told page p e) (ticket : Ticket) (body : e.body ≡ Resting ticket) where
  st : TicketStands told e.kind (content_of p) ticket
  st = subst (λ z. TicketStands told z (content_of p) ticket) (sym v.kind) (subst (StandsFor told (kind_of p) (content_of p)) body v.stands)

  pub ticket_tells : IsTrue told → IsSome ticket.kept
  ticket_tells = tickets.ticket_tells told e.kind (content_of p) ticket st

  pub ticket_accepted : IsTrue told → IfSome ticket.kept (IsAccepted e.kind)
  ticket_accepted = tickets.ticket_accepted told e.kind (content_of p) ticket st

  pub ticket_fits : (n : ℕ) → n ≡ page → IsTrue told → IfSome ticket.kept (λ bytes. n ≡ length bytes)
  ticket_fits n k = tickets.ticket_fits told e.kind (content_of p) ticket st n (v.long ∙ sym k)

pub put_stands : (told : Bool) (es : List Entry) (x : ℕ) (e : Entry) (f : Frame) (ticket : Ticket) → x < length es → e ≡ get_or es x e → e.body ≡ Resting ticket → ((content : List ℕ) → TicketStands told e.kind content ticket → ImageStands told e.kind content f.bytes.items) → PutStands told es x f
put_stands told es x e f ticket h is body st = subst (PutIn told f) (sym (slice_get_read es (length es) x e refl h is)) (λ content k. st content (subst (StandsFor told e.kind content) body k))

pub rests_at : (es : List Entry) (x : ℕ) (e : Entry) (ticket : Ticket) → x < length es → e ≡ get_or es x e → e.body ≡ Resting ticket → RestsAt es x
rests_at es x e ticket h is body = subst RestsIn (sym (slice_get_read es (length es) x e refl h is)) (subst IsResting (sym body) tt)

none_resting : (b : PageBody) → is_alive b ≡ true → shown b ≡ None → ((t : Ticket) → b ≡ Resting t → ⊥) → ⊥
none_resting (Resident f t) a n k = absurd (cc)
none_resting (Resting t) a n k = k t refl
none_resting (Dead f) a n k = absurd (cc)

pub never_else : (told : Bool) (page : ℕ) (es : List Entry) (p : SoloPage) (e : Entry) → LiveAt told page es p → e ≡ get_or es p.at e → frame_at es p.at ≡ None → ((t : Ticket) → e.body ≡ Resting t → ⊥) → ⊥
never_else told page es p e v is none k = none_resting e.body (live_entry told page es p e v is).alive (sym (ap shown_in (slice_get_read es (length es) p.at e refl (live_within told page es p v) is)) ∙ none) k

pub entries_same : (es : List Entry) (x : ℕ) (a b : Entry) → x < length es → a ≡ get_or es x a → b ≡ get_or es x b → a ≡ b
entries_same es x a b h isa isb = let p = slice_get_read es (length es) x a refl h isa in let q = slice_get_read es (length es) x b refl h isb in cc (p, q)

-- an open frame is among the open ones
pub open_own : (old new i j : ℕ) (one : ℕ) → new ≡ old + one → one ≡ 1 → 0 < new
open_own old new i j one e k = omega (arith, e, k)

pub reads_later : (told : Bool) (kind kind' : ImageKind) (page page' b b' n n' : ℕ) (fault : PoolFault) → kind' ≡ kind → page' ≡ page → b ≤ b' → n' ≤ n → ReadFails told kind' page' b' n' fault → ReadFails told kind page b n fault
reads_later told kind kind' page page' b b' n n' Spill k q l m h = omega (arith, l, m, h)
reads_later told kind kind' page page' b b' n n' (Damaged d) k q l m h = subst (λ z. IsSpoilt told kind z d) q (subst (λ z. IsSpoilt told z page' d) k h)
reads_later told kind kind' page page' b b' n n' OutOfMemory k q l m h = tt

-- a frame was sought before a page was read
pub room_later : (told : Bool) (kind : ImageKind) (page b n : ℕ) (fault : PoolFault) → RoomFails b n fault → ReadFails told kind page b n fault
room_later told kind page b n Spill h = h
room_later told kind page b n (Damaged d) h = absurd h
room_later told kind page b n OutOfMemory h = tt
