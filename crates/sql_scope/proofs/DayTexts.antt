-- A day is found by its text.
use Rattle.std.proofs.Common.{◌≡◌, ℕ, zero, suc, ◌+◌, ◌<◌, ◌≤◌, Bool, true, false, cond, List, refl, sym, ap, ◌∙◌, arith}
use Rattle.std.specs.Prelude.{ℤ, pos, ◌+ℤ◌, ◌-ℤ◌, Option, Some, None, IfSome, IsNone}
use Rattle.std.specs.Str.{bytes_eq}
use Rattle.std.proofs.lemmas.Slice.Eq.{bytes_eq-Decides}
use Rattle.std.proofs.lemmas.Int.{ints}
use Rattle.std.specs.Int.RustNames.{unsigned_abs}
use Rattle.ooc_types.specs.Meets.{first_day, IsDay}
use Rattle.date_values.specs.DateText.{day_text}
use Rattle.date_values.proofs.Texts.{day_texts_same}
use Rattle.sql_scope.specs.Dates.{all_days, day_from, day_of}

is_day : (n : ℕ) → n < all_days → IsDay (first_day +ℤ pos n)
is_day n h = (omega (arith, ints), omega (arith, ints))

behind : (day : ℤ) → IsDay day → (n : ℕ) × (n < all_days) × (day ≡ first_day +ℤ pos n)
behind day h = (unsigned_abs (day -ℤ first_day), omega (arith, ints), omega (arith, ints))

none_chosen : (b : Bool) (day : ℤ) (rest : Option ℤ) → (b ≡ true → ⊥) → rest ≡ None → cond b (Some day) rest ≡ None
none_chosen true day rest never is = absurd (never refl)
none_chosen false day rest never is = is

-- where no day has the text, none is found
none_from : (more days : ℕ) (text : List ℕ) → days + more ≤ all_days → ((day : ℤ) → IsDay day → text ≡ day_text day → ⊥) → day_from more days text ≡ None
unfolding day_from
none_from zero days text h never = refl
none_from (suc more) days text h never =
    none_chosen (bytes_eq (day_text (first_day +ℤ pos days)) text) (first_day +ℤ pos days) (day_from more (days + 1) text)
    (λ e. never (first_day +ℤ pos days) (is_day days (omega arith)) (sym ((bytes_eq-Decides (day_text (first_day +ℤ pos days)) text).0 e)))
    (none_from more (days + 1) text (omega arith) never)

some_chosen : (b : Bool) (other day : ℤ) (rest : Option ℤ) → (b ≡ true → other ≡ day) → (b ≡ false → rest ≡ Some day) → cond b (Some other) rest ≡ Some day
some_chosen true other day rest same later = ap Some (same refl)
some_chosen false other day rest same later = later refl

later_day : (n days more : ℕ) (day : ℤ) (b : Bool) → n < days + suc more → days ≤ n → day ≡ first_day +ℤ pos n → (day ≡ first_day +ℤ pos days → b ≡ true) → b ≡ false → days + 1 ≤ n
later_day n days more day true h low is here never = cc
later_day n days more day false h low is here never = at_or n days low (λ e. let x : false ≡ true = here (is ∙ ap (λ m. first_day +ℤ pos m) e) in cc)
  where
    at_or : (n days : ℕ) → days ≤ n → (n ≡ days → ⊥) → days + 1 ≤ n
    at_or n days low never = grind arith

-- the day is found whose text it is
some_from : (more days n : ℕ) (day : ℤ) (text : List ℕ) → days + more ≤ all_days → days ≤ n → n < days + more → IsDay day → day ≡ first_day +ℤ pos n → text ≡ day_text day
    → day_from more days text ≡ Some day
unfolding day_from
some_from zero days n day text h low high is at same = absurd (omega arith)
some_from (suc more) days n day text h low high is at same =
    some_chosen (bytes_eq (day_text (first_day +ℤ pos days)) text) (first_day +ℤ pos days) day (day_from more (days + 1) text)
    (λ e. day_texts_same (first_day +ℤ pos days) day (is_day days (omega arith)) is ((bytes_eq-Decides (day_text (first_day +ℤ pos days)) text).0 e ∙ same))
    (λ e. some_from more (days + 1) n day text (omega arith)
    (later_day n days more day (bytes_eq (day_text (first_day +ℤ pos days)) text) high low at
    (λ here. (bytes_eq-Decides (day_text (first_day +ℤ pos days)) text).1 (ap day_text (sym here) ∙ sym same)) e)
    (omega arith) is at same)

pub found_day : (got : Option ℤ) (text : List ℕ) → IfSome got (λ day. IsDay day × (text ≡ day_text day)) → (IsNone got → (day : ℤ) → IsDay day → text ≡ day_text day → ⊥) → got ≡ day_of text
unfolding day_of
found_day None text some none = sym (none_from all_days 0 text (omega arith) (none refl))
found_day (Some day) text some none =
    let n : (n : ℕ) × (n < all_days) × (day ≡ first_day +ℤ pos n) = behind day some.0 in
    sym (some_from all_days 0 n.0 day text (omega arith) (omega arith) (omega (arith, n.1)) some.0 n.2 some.1)
