-- The laws of a pool's pins.
use Rattle.std.proofs.Common.{◌≡◌, ◌≢◌, ◌∙◌, ℕ, ◌+◌, ◌<◌, ◌≤◌, List, [], ◌∷◌, suc, zero, refl, sym, subst, arith, Option, Some, None, Bool, length}
use Rattle.std.specs.Prelude.{slice_index, slice_get, sum}
use Rattle.std.proofs.lemmas.List.Sums.{sum_by-cons}
use Rattle.std.proofs.lemmas.Option.{slice_get_within}
use Rattle.evict_ring.specs.declared.frame.Frame.{Frame}
use Rattle.row_image.specs.declared.layout.CellKind.{CellKind}
use Rattle.row_image.specs.declared.image.ImageKind.{ImageKind}
use Rattle.row_image.specs.declared.image.ImageKind.TheVariants.{Rows, Heap}
use Rattle.page_body.specs.Shows.{Shows}
use Rattle.page_body.specs.Stands.{StandsFor, ImageStands}
use Rattle.page_body.specs.declared.body.PageBody.{PageBody}
use Rattle.page_body.specs.declared.body.PageBody.TheVariants.{Resident, Resting, Dead}
use Rattle.solo_pool.specs.declared.entry.Entry.{Entry}
use Rattle.solo_pool.specs.declared.entry.Place.{Place}
use Rattle.solo_pool.specs.declared.entry.Place.TheVariants.{Spare, Open, Owned}
use Rattle.solo_pool.specs.declared.page.SoloPage.{SoloPage}
use Rattle.solo_pool.specs.declared.page.SoloPin.{SoloPin}
use Rattle.ooc_io.specs.declared.lane.SpillLane.{Ghosts}
use Rattle.ooc_io.specs.declared.ticket.TicketMark as mark
use Rattle.solo_pool.specs.declared.solo_tables.SoloTables.{SoloTables}
use Rattle.solo_pool.specs.Weights.{shown}
use Rattle.solo_pool.specs.State.{shown_in, frame_at, used_in, pins_at, open_in, opens_at}
use Rattle.solo_pool.specs.Sound.{Sound}
use Rattle.solo_pool.specs.Views.{IsPin, LiveAt, LiveIn, kind_of, content_of, solo_terms}

one_of_sum : (us : List ℕ) (i : ℕ) → slice_index us i ≤ sum us
one_of_sum [] i = omega arith
one_of_sum (x ∷ xs) zero = omega (arith, sum_by-cons (λ y. y) x xs)
one_of_sum (x ∷ xs) (suc i) = omega (arith, sum_by-cons (λ y. y) x xs, one_of_sum xs i)

two_of_sum : (us : List ℕ) (i j : ℕ) → i ≢ j → slice_index us i + slice_index us j ≤ sum us
two_of_sum [] i j n = omega arith
two_of_sum (x ∷ xs) zero zero n = absurd (n refl)
two_of_sum (x ∷ xs) zero (suc j) n = omega (arith, sum_by-cons (λ y. y) x xs, one_of_sum xs j)
two_of_sum (x ∷ xs) (suc i) zero n = omega (arith, sum_by-cons (λ y. y) x xs, one_of_sum xs i)
two_of_sum (x ∷ xs) (suc i) (suc j) n = omega (arith, sum_by-cons (λ y. y) x xs, two_of_sum xs i j (λ e. n (omega (arith, e))))

used_least : (us : List ℕ) (o : Option Frame) → used_in us o ≤ sum us
used_least us None = omega arith
used_least us (Some f) = one_of_sum us f.number

-- the pins on the page in a frame, and an open page in another
used_open : (us : List ℕ) (o : Option Frame) (y : ℕ) → slice_index us y ≡ 1 → ((f : Frame) → o ≡ Some f → f.number ≢ y) → used_in us o + 1 ≤ sum us
used_open us None y one n = omega (arith, one_of_sum us y, one)
used_open us (Some f) y one n = omega (arith, two_of_sum us f.number y (n f refl), one)

open_among : (page held : ℕ) (es : List Entry) (ps : List Place) (us : List ℕ) → Sound page es ps us held → (x y : ℕ) (o : Option Place) → slice_get ps y ≡ o → pins_at es us x + open_in o ≤ held
open_among page held es ps us s x y None at = let t = s.total in omega (arith, used_least us (frame_at es x), t)
open_among page held es ps us s x y (Some (Spare f)) at = let t = s.total in omega (arith, used_least us (frame_at es x), t)
open_among page held es ps us s x y (Some (Owned z)) at = let t = s.total in omega (arith, used_least us (frame_at es x), t)
open_among page held es ps us s x y (Some Open) at =
    let t = s.total in
    let other : (f : Frame) → frame_at es x ≡ Some f → f.number ≢ y = λ f is same. let k : slice_get ps y ≡ Some (Owned x) = subst (λ z. slice_get ps z ≡ Some (Owned x)) same (s.owned x f is) in let both : Some Open ≡ Some (Owned x) = sym at ∙ k in absurd (cc both) in
    omega (arith, used_open us (frame_at es x) y (s.opened y at) other, t)

both_in : (told : Bool) (page : ℕ) (p q : SoloPage) (kinds : List CellKind) (o : Option Entry) → LiveIn told page p o → LiveIn told page q o → kind_of p ≡ Rows kinds → kind_of q ≡ Heap → ⊥
both_in told page p q kinds None v w rows heap = absurd v
both_in told page p q kinds (Some e) v w rows heap = let a = v.kind in let b = w.kind in let c : Rows kinds ≡ Heap = sym rows ∙ sym a ∙ b ∙ heap in absurd (cc c)

stands_shown : (told : Bool) (kind : ImageKind) (content : List ℕ) (b : PageBody) (f : Frame) → StandsFor told kind content b → shown b ≡ Some f → ImageStands told kind content f.bytes.items
stands_shown told kind content (Resident g t) f st k = let same : g ≡ f = cc in subst (λ (z : Frame). ImageStands told kind content z.bytes.items) same st.0
stands_shown told kind content (Resting t) f st k = absurd (cc)
stands_shown told kind content (Dead g) f st k = absurd (cc)

in_shown : (told : Bool) (page : ℕ) (p : SoloPage) (o : Option Entry) (f : Frame) → LiveIn told page p o → shown_in o ≡ Some f → ImageStands told (kind_of p) (content_of p) f.bytes.items
in_shown told page p None f v k = absurd v
in_shown told page p (Some e) f v k = stands_shown told (kind_of p) (content_of p) e.body f v.stands k

pub live_shown : (told : Bool) (page : ℕ) (es : List Entry) (p : SoloPage) (f : Frame) → LiveAt told page es p → frame_at es p.at ≡ Some f → ImageStands told (kind_of p) (content_of p) f.bytes.items
live_shown told page es p f v k = in_shown told page p (slice_get es p.at) f v k

-- a pin of the pool shows its page
pub pin_shown : (told : Bool) (page held : ℕ) (es : List Entry) (ps : List Place) (us : List ℕ) → Sound page es ps us held → length ps ≤ 16777216 → (q : SoloPin) → IsPin told page es us q → Shows (solo_terms told) page q.page.value q
pin_shown told page held es ps us s most q v =
    let at : frame_at es q.page.value.at ≡ Some q.frame.value = subst (λ z. frame_at es z ≡ Some q.frame.value) (sym v.at) v.shown in
    let place = slice_get_within ps q.frame.value.number (Owned q.at) (s.owned q.at q.frame.value v.shown) in
    record {
      under = refl;
      stands = live_shown told page es q.page.value q.frame.value v.live at;
      long = s.full q.at q.frame.value v.shown;
      number = omega (arith, place, most);
    }

long_in : (told : Bool) (page : ℕ) (p : SoloPage) (o : Option Entry) → LiveIn told page p o → length (content_of p) ≡ page
long_in told page p None v = absurd v
long_in told page p (Some e) v = v.long

module _ {L M : Type 0} {lane : Ghosts L M} {marks : mark.Ghosts M} where
  pub all_held : (s : SoloTables L M lane marks) (x y : ℕ) → pins_at s.entries.items s.uses.items x + opens_at s.places.items y ≤ s.held
  all_held s x y = open_among s.page s.held s.entries.items s.places.items s.uses.items s.sound x y (slice_get s.places.items y) refl

  pub pin_counts : (told : Bool) (s : SoloTables L M lane marks) (q : SoloPin) → IsPin told s.page s.entries.items s.uses.items q → 0 < pins_at s.entries.items s.uses.items q.page.value.at
  pin_counts told s q v = subst (λ z. 0 < pins_at s.entries.items s.uses.items z) (sym v.at) (subst (λ o. 0 < used_in s.uses.items o) (sym v.shown) v.used)

  pub pin_shows : (told : Bool) (s : SoloTables L M lane marks) (q : SoloPin) → IsPin told s.page s.entries.items s.uses.items q → Shows (solo_terms told) s.page q.page.value q
  pin_shows told s q v = pin_shown told s.page s.held s.entries.items s.places.items s.uses.items s.sound s.most q v

  pub pages_apart : (told : Bool) (s : SoloTables L M lane marks) (p q : SoloPage) (kinds : List CellKind) → LiveAt told s.page s.entries.items p → LiveAt told s.page s.entries.items q → kind_of p ≡ Rows kinds → kind_of q ≡ Heap → q.at ≢ p.at
  pages_apart told s p q kinds v w rows heap same = both_in told s.page p q kinds (slice_get s.entries.items p.at) v (subst (λ z. LiveIn told s.page q (slice_get s.entries.items z)) same w) rows heap

  -- a live page's content is as long as a page
  pub live_long : (told : Bool) (s : SoloTables L M lane marks) (p : SoloPage) → LiveAt told s.page s.entries.items p → length (content_of p) ≡ s.page
  live_long told s p v = long_in told s.page p (slice_get s.entries.items p.at) v
