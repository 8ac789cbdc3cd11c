-- Digits, their zeros and their value.
use Rattle.std.proofs.Common.{◌≡◌, ℕ, ◌+◌, ◌*◌, ◌-◌, ◌<◌, ◌≤◌, ◌^◌, List, [], ◌∷◌, length, take, get_or, true, false, Bool, eqb, arith, refl, ap, ◌∙◌, subst, inl, inr, nat_lt, Some, None}
use Rattle.std.specs.Prelude.{if◌then◌else◌}
use Rattle.std.specs.List.{prefix_len}
use Rattle.std.specs.Char.{is_ascii_digit}
use Rattle.std.specs.Str.Parse.{digits_value}
use Rattle.std.proofs.lemmas.Bool.{lt-ltb, eqb-true, cases_Bool}
use Rattle.std.proofs.lemmas.Bool.Decides.{nat_tests}
use Rattle.std.proofs.lemmas.List.{length-take, get_or-take, take_all}
use Rattle.std.proofs.lemmas.List.Sums.{prefix_len_passes}
use Rattle.std.proofs.lemmas.Int.Digits.{digits_value_more}
use Rattle.std.proofs.lemmas.Str.Parse.{digits_value-take-le}

-- where a test passes what another does, at least as many pass from the front on
pub prefix_len-weaker : (p q : ℕ → Bool) → ((c : ℕ) → p c ≡ true → q c ≡ true) → (text : List ℕ) → prefix_len p text ≤ prefix_len q text
prefix_len-weaker p q weaker [] = omega arith
prefix_len-weaker p q weaker (c ∷ rest) = elim (cases_Bool (p c)) [
  | inl passes ↦ rw (passes, weaker c passes) (omega (arith, prefix_len-weaker p q weaker rest))
  | inr fails ↦ rw fails (omega arith)
]

-- zeros are digits
pub zeros-digits : (text : List ℕ) → prefix_len (λ c. eqb c 48) text ≤ prefix_len is_ascii_digit text
zeros-digits text = prefix_len-weaker (λ c. eqb c 48) is_ascii_digit (λ c zero_digit. ap is_ascii_digit (eqb-true c 48 zero_digit)) text

-- the value of one more digit
pub digit_value-more : (digits : List ℕ) (at : ℕ) → at < length digits → is_ascii_digit (get_or digits at 0) ≡ true
    → digits_value 10 (take (at + 1) digits) + 48 ≡ digits_value 10 (take at digits) * 10 + get_or digits at 0
digit_value-more digits at within is_digit = grind (arith, digits_value_more 10 digits at within)

-- a digit's code is at least 48
pub digit-above : (c : ℕ) → is_ascii_digit c ≡ true → 48 ≤ c
digit-above c is_digit = grind (arith, nat_tests)

-- once the digits so far write too much, all of them do
pub too_much : (digits : List ℕ) (at : ℕ) → 2 ^ 127 ≤ digits_value 10 (take at digits) → nat_lt (digits_value 10 digits) (2 ^ 127) ≡ false
too_much digits at much = let less : digits_value 10 (take at digits) ≤ digits_value 10 digits = digits_value-take-le 10 digits at (omega arith) in grind arith

-- the digits at the front are digits
pub digits-front : (text : List ℕ) (n k : ℕ) → n ≡ prefix_len is_ascii_digit text → k < length (take n text) → is_ascii_digit (get_or (take n text) k 0) ≡ true
digits-front text n k front within =
    let below : k < n = omega (arith, length-take n text) in
    let same : get_or (take n text) k 0 ≡ get_or text k 0 = get_or-take n text k 0 below in
    ap is_ascii_digit same ∙ prefix_len_passes is_ascii_digit text k 0 (omega arith)

-- the value with the digit at a place behind the digits before it
pub next_value : (digits : List ℕ) (at value : ℕ) → at < length digits → is_ascii_digit (get_or digits at 0) ≡ true → value ≡ digits_value 10 (take at digits)
    → value * 10 + (get_or digits at 0 - 48) ≡ digits_value 10 (take (at + 1) digits)
next_value digits at value within is_digit so_far =
    let more : digits_value 10 (take (at + 1) digits) + 48 ≡ digits_value 10 (take at digits) * 10 + get_or digits at 0 = digit_value-more digits at within is_digit in
    let above : 48 ≤ get_or digits at 0 = digit-above (get_or digits at 0) is_digit in
    omega arith

-- the integer of digits that write too much, and of those that don't
pub no_integer : (digits : List ℕ) (at : ℕ) → 2 ^ 127 ≤ digits_value 10 (take at digits) → None ≡ (if nat_lt (digits_value 10 digits) (2 ^ 127) then Some (digits_value 10 digits) else None)
no_integer digits at much = rw (too_much digits at much) refl

pub an_integer : (digits : List ℕ) (at value : ℕ) → length digits ≤ at → value ≡ digits_value 10 (take at digits) → value < 2 ^ 127 → Some value ≡ (if nat_lt (digits_value 10 digits) (2 ^ 127) then Some (digits_value 10 digits) else None)
an_integer digits at value all is small =
    let same : value ≡ digits_value 10 digits = is ∙ ap (digits_value 10) (take_all at digits all) in
    let P : ℕ → Type 0 = λ v. Some value ≡ (if nat_lt v (2 ^ 127) then Some v else None) in
    subst P same (rw (lt-ltb value (2 ^ 127) small) refl)

-- digits throughout are digits at each place
pub all_digits : (text : List ℕ) (k : ℕ) → length text ≤ prefix_len is_ascii_digit text → k < length text → is_ascii_digit (get_or text k 0) ≡ true
all_digits text k all within = prefix_len_passes is_ascii_digit text k 0 (omega arith)
