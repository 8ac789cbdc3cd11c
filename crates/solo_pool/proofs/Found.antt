-- What was read of a list.
use Rattle.std.proofs.Common.{◌≡◌, ℕ, ◌+◌, ◌-◌, ◌<◌, ◌≤◌, ◌^◌, List, length, refl, sym, ap, ◌∙◌, subst, arith, Option, Some, None, get_or, Bool}
use Rattle.std.specs.Prelude.{slice_get, slice_index, slice_set, IsSome}
use Rattle.std.specs.Option.{is_some}
use Rattle.std.proofs.lemmas.Option.{slice_get_read, slice_get_past, slice_get_within, get_or_from_slice_get}
use Rattle.std.proofs.Math.Decide.{dec_le}
use Rattle.std.proofs.Math.Nat.{lt_of_not-le}
use mathlib.Core.Logic.{dite}
use Rattle.ooc_io.specs.declared.ticket.Ticket.{Ticket}
use Rattle.solo_pool.specs.Weights.{shown}
use Rattle.evict_ring.specs.declared.frame.Frame.{Frame}
use Rattle.page_body.specs.declared.body.PageBody.{PageBody}
use Rattle.page_body.specs.declared.body.PageBody.TheVariants.{Resident, Resting, Dead}
use Rattle.solo_pool.specs.declared.entry.Place.{Place}
use Rattle.solo_pool.specs.declared.entry.Place.TheVariants.{Owned}
use Rattle.solo_pool.specs.declared.entry.Entry.{Entry}
use Rattle.solo_pool.specs.State.{shown_in, frame_at, used_in, pins_at}
use Rattle.solo_pool.specs.Sound.{Sound}
use Rattle.solo_pool.specs.Turned.{Pinned, Unpinned}
use Rattle.solo_pool.specs.Sums.{one_among}
use Rattle.solo_pool.proofs.Turns.{pin_more, pin_less}

pub read_at : {A : Type 0} (xs : List A) (i : ℕ) (x y : A) → i < length xs → x ≡ get_or xs i x → y ≡ x → slice_get xs i ≡ Some y
read_at xs i x y h is same = slice_get_read xs (length xs) i x refl h is ∙ ap Some (sym same)

pub read_number : (us : List ℕ) (i u : ℕ) → i < length us → u ≡ get_or us i u → slice_index us i ≡ u
read_number us i u h is = get_or_from_slice_get us i u 0 (slice_get_read us (length us) i u refl h is)

none_not : {A : Type 0} {o : Option A} → IsSome o → o ≡ None → ⊥
none_not k e = cc (k, ap is_some e)

pub some_within : (es : List Entry) (x : ℕ) → IsSome (frame_at es x) → x < length es
some_within es x k = dite (dec_le (length es) x) (λ past. absurd (none_not k (ap shown_in (slice_get_past es x past)))) (λ n. lt_of_not-le n)

pub pins_some : (us : List ℕ) (o : Option Frame) → 0 < used_in us o → IsSome o
pins_some us None h = absurd (omega (arith, h))
pins_some us (Some f) h = refl

-- what a match on a body shows of the frame there
pub shown_here : (es : List Entry) (x : ℕ) (e : Entry) (f : Frame) (t : Option Ticket) → x < length es → e ≡ get_or es x e → e.body ≡ Resident f t → frame_at es x ≡ Some f
shown_here es x e f t h is body = ap shown_in (slice_get_read es (length es) x e refl h is) ∙ ap shown body

not_shown : (b : PageBody) → ((f : Frame) (t : Option Ticket) → b ≡ Resident f t → ⊥) → IsSome (shown b) → ⊥
not_shown (Resident f t) n k = n f t refl
not_shown (Resting t) n k = cc k
not_shown (Dead f) n k = cc k

pub shown_not : (es : List Entry) (x : ℕ) (e : Entry) → x < length es → e ≡ get_or es x e → ((f : Frame) (t : Option Ticket) → e.body ≡ Resident f t → ⊥) → IsSome (frame_at es x) → ⊥
shown_not es x e h is n k = not_shown e.body n (subst (λ o. IsSome (shown_in o)) (slice_get_read es (length es) x e refl h is) k)

pub frame_within : (x : ℕ) {page held : ℕ} {es : List Entry} {ps : List Place} {us : List ℕ} {f : Frame} → Sound page es ps us held → frame_at es x ≡ Some f → f.number < length us
frame_within x {page} {held} {es} {ps} {us} {f} s at = let l = s.long in let k : f.number < length ps = slice_get_within ps f.number (Owned x) (s.owned x f at) in omega (arith, l, k)

module _ (told : Bool) (x page held : ℕ) (es : List Entry) (ps : List Place) (us : List ℕ) (s : Sound page es ps us held) (f : Frame) (at : frame_at es x ≡ Some f) (u : ℕ) (is : u ≡ get_or us f.number u) where
  pub used_within : f.number < length us
  used_within = let l = s.long in let k : f.number < length ps = slice_get_within ps f.number (Owned x) (s.owned x f at) in omega (arith, l, k)

  pub pin_more_as : Pinned told x page es es ps ps us (slice_set us f.number (u + 1)) (held + 1)
  pin_more_as = subst (λ z. Pinned told x page es es ps ps us (slice_set us f.number (z + 1)) (held + 1)) (read_number us f.number u used_within is) (pin_more told x page held es ps us s f at)

  pub pin_less_as : 0 < pins_at es us x → Unpinned told x page es ps us (slice_set us f.number (u - 1)) (held - 1)
  pin_less_as h = let k : 0 < slice_index us f.number = subst (λ o. 0 < used_in us o) at h in
      subst (λ z. Unpinned told x page es ps us (slice_set us f.number (z - 1)) (held - 1)) (read_number us f.number u used_within is) (pin_less told x page held es ps us s f at k)

  pub count_small : held < length ps → length ps ≤ 16777216 → u + 1 < 2 ^ 32
  count_small room most = let t = s.total in let r = read_number us f.number u used_within is in omega (arith, one_among us f.number, t, r, room, most)
