-- The day of a text is the one whose text it is.
use Rattle.std.proofs.Common.{◌≡◌, ◌≤◌, ◌<◌, ℕ, zero, suc, ◌+◌, ◌-◌, inl, inr, Bool, true, false, Option, Some, None, List, refl, sym, ap, ◌∙◌, arith, ℤ, pos, negsuc}
use Rattle.std.specs.Prelude.{if◌then◌else◌, IfSome, IsNone, ◌≤ℤ◌}
use Rattle.std.specs.Str.{bytes_eq}
use Rattle.std.proofs.lemmas.Slice.Eq.{bytes_eq-Decides}
use Rattle.std.proofs.lemmas.Int.{ints}
use Rattle.std.proofs.lemmas.Bool.Decides.{leb_tells}
use Rattle.ooc_types.specs.Meets.{first_day, last_day, IsDay}
use Rattle.date_values.specs.DateText.{day_text}
use Rattle.date_values.proofs.Texts.{day_texts_same}
use Rattle.csv_load.specs.Dates.{day_after, day_within, day_of}

-- how many days there are
abbrev all : ℕ
all = 3652059

pub day_in_range : (n : ℕ) → n < all → IsDay (day_after n)
day_in_range n h = (omega (arith, ints), omega (arith, ints))

pub record Counted (day : ℤ) : Type 0 where
  pub count : ℕ
  pub few : count < all
  pub same : day ≡ day_after count

counted : (day : ℤ) → IsDay day → Counted day
counted (pos k) h =
    let top : pos k ≤ℤ last_day = h.1 in
    record { count = k + 719162; few = omega (arith, ints); same = omega (arith, ints) }
counted (negsuc k) h =
    let low : first_day ≤ℤ negsuc k = h.0 in
    let few : k ≤ 719161 = omega (arith, ints) in
    record { count = 719161 - k; few = omega arith; same = omega (arith, ints) }

day-none : (n : ℕ) (bytes : List ℕ) → n ≤ all → ((day : ℤ) → IsDay day → bytes ≡ day_text day → ⊥) → day_within n bytes ≡ None
unfolding day_within
day-none zero bytes few none = refl
day-none (suc n) bytes few none = by (bytes_eq (day_text (day_after n)) bytes) refl (day-none n bytes (omega arith) none)
  where
    by : (b : Bool) → bytes_eq (day_text (day_after n)) bytes ≡ b → day_within n bytes ≡ None → ◌≡◌ {A = Option ℤ} (if b then Some (day_after n) else day_within n bytes) None
    by true e more = absurd (none (day_after n) (day_in_range n (omega arith)) (sym ((bytes_eq-Decides (day_text (day_after n)) bytes).0 e)))
    by false e more = more

day-some : (n : ℕ) (bytes : List ℕ) (m : ℕ) → n ≤ all → m < n → bytes ≡ day_text (day_after m) → day_within n bytes ≡ Some (day_after m)
unfolding day_within
day-some zero bytes m few h e = absurd (omega arith)
day-some (suc n) bytes m few h e = by (bytes_eq (day_text (day_after n)) bytes) refl (λ lt. day-some n bytes m (omega arith) lt e)
  where
    by : (b : Bool) → bytes_eq (day_text (day_after n)) bytes ≡ b → (m < n → day_within n bytes ≡ Some (day_after m)) → (if b then Some (day_after n) else day_within n bytes) ≡ Some (day_after m)
    by true t more = ap Some (day_texts_same (day_after n) (day_after m) (day_in_range n (omega arith)) (day_in_range m (omega arith)) ((bytes_eq-Decides (day_text (day_after n)) bytes).0 t ∙ e))
    by false t more = elim (leb_tells n m) [
      | inl ge ↦
          let same : m ≡ n = omega (arith, ge.1) in
          let wrong : true ≡ false = sym ((bytes_eq-Decides (day_text (day_after n)) bytes).1 (ap (λ k. day_text (day_after k)) (sym same) ∙ sym e)) ∙ t in
          cc wrong
      | inr lt ↦ more lt.1
    ]

-- what is read as a date is the day of the text
pub day_is : (bytes : List ℕ) (outcome : Option ℤ) → IfSome outcome (λ day. IsDay day × (bytes ≡ day_text day)) → (IsNone outcome → (day : ℤ) → IsDay day → bytes ≡ day_text day → ⊥) → outcome ≡ day_of bytes
unfolding day_of
day_is bytes None some none = sym (day-none all bytes (omega arith) (none refl))
day_is bytes (Some day) some none =
    let c = counted day some.0 in
    ap Some c.same ∙ sym (day-some all bytes c.count (omega arith) c.few (some.1 ∙ ap day_text c.same))
