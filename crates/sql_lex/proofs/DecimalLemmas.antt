-- The digits of a decimal write less than ten to the power of its width.
use Rattle.std.proofs.Common.{◌≡◌, ℕ, zero, suc, ◌+◌, ◌-◌, ◌*◌, ◌<◌, ◌≤◌, ◌^◌, List, [], ◌∷◌, ◌++◌, length, take, drop, get_or, true, false, Bool, eqb, arith, refl, ap, sym, ◌∙◌, subst, inl, inr, ◌&&◌, add-one, drop-cons, length-take, length-drop, one-add, Some, None}
use Rattle.std.specs.Prelude.{Option, if◌then◌else◌, pos}
use Rattle.std.proofs.lemmas.List.{get_or-take, get_or-drop, take_rest}
use Rattle.sql_lex.specs.declared.values.DecimalValue.{DecimalValue}
use Rattle.std.proofs.Math.Dec.{leb}
use Rattle.std.proofs.Math.Nat.{one-le-pow, pow-le-pow_right, mul-le-mul_right, mul-le-mul_left}
use Rattle.std.proofs.lemmas.Nat.{pow-add}
use Rattle.std.specs.List.{prefix_len}
use Rattle.std.specs.Char.{is_ascii_digit, digit_value}
use Rattle.std.specs.Str.Parse.{digits_value, digits_value_after}
use Rattle.std.proofs.lemmas.Bool.{cases_Bool, eqb-true, leb-true}
use Rattle.std.proofs.lemmas.Bool.Decides.{nat_tests}
use Rattle.std.proofs.lemmas.List.Sums.{prefix_len_passes}
use Rattle.sql_lex.specs.Numbers.{begins_with_point, begins_with_number, digits_length, zeros_length, decimal_width}
use Rattle.sql_lex.specs.Values.{is_decimal, decimal_value}
use Rattle.sql_lex.proofs.Parts.{point_some}
use Rattle.sql_lex.proofs.NumbersLemmas.{zeros-digits}

pub digit-bounds : (c : ℕ) → is_ascii_digit c ≡ true → (48 ≤ c) × (c ≤ 57) × (digit_value c ≡ c - 48)
digit-bounds c is_digit = (grind (arith, nat_tests), grind (arith, nat_tests), grind (arith, nat_tests))

-- one more digit
pub behind-step : (digits : List ℕ) (at number digit : ℕ) → at < length digits → is_ascii_digit (get_or digits at 0) ≡ true → digit ≡ get_or digits at 0 - 48
    → digits_value_after 10 (number * 10 + digit) (drop (at + 1) digits) ≡ digits_value_after 10 number (drop at digits)
behind-step digits at number digit within is_digit is = sym (
    let cut : drop at digits ≡ get_or digits at 0 ∷ drop (at + 1) digits = rw (add-one, drop-cons digits at 0) in
    ap (digits_value_after 10 number) cut ∙ ap (λ (d : ℕ). digits_value_after 10 (number * 10 + d) (drop (at + 1) digits)) ((digit-bounds (get_or digits at 0) is_digit).2 ∙ sym is))

-- with one digit more there is room for one digit less
pub small-step : (number digit left bound : ℕ) → digit ≤ 9 → (number + 1) * 10 ^ (left + 1) ≤ bound → (number * 10 + digit + 1) * 10 ^ left ≤ bound
small-step number digit left bound one_digit fits =
    let power : 10 ^ (left + 1) ≡ 10 ^ left * 10 = pow-add 10 left 1 in
    let more : number * 10 + digit + 1 ≤ (number + 1) * 10 = omega arith in
    let scaled : (number * 10 + digit + 1) * 10 ^ left ≤ (number + 1) * 10 * 10 ^ left = mul-le-mul_right (10 ^ left) more in
    let same : (number + 1) * (10 ^ left * 10) ≤ bound = rw power at fits in
    omega arith

pub room-for_one : (number left bound : ℕ) → (number + 1) * 10 ^ (left + 1) ≤ bound → (number + 1) * 10 ≤ bound
room-for_one number left bound fits =
    let power : 10 ^ (left + 1) ≡ 10 ^ left * 10 = pow-add 10 left 1 in
    let some : 1 ≤ 10 ^ left = one-le-pow left 10 (omega arith) in
    let scaled : (number + 1) * 10 * 1 ≤ (number + 1) * 10 * 10 ^ left = mul-le-mul_left ((number + 1) * 10) some in
    let same : (number + 1) * (10 ^ left * 10) ≤ bound = rw power at fits in
    omega arith

-- the same at a place
pub room-at : (number at size bound : ℕ) → at < size → (number + 1) * 10 ^ (size - at) ≤ bound → (number + 1) * 10 ≤ bound
room-at number at size bound within fits =
    let left : size - at ≡ size - (at + 1) + 1 = omega arith in
    let P : ℕ → Type 0 = λ k. (number + 1) * 10 ^ k ≤ bound in
    room-for_one number (size - (at + 1)) bound (subst P left fits)

pub small-at : (number digit at size bound : ℕ) → digit ≤ 9 → at < size → (number + 1) * 10 ^ (size - at) ≤ bound → (number * 10 + digit + 1) * 10 ^ (size - (at + 1)) ≤ bound
small-at number digit at size bound one_digit within fits =
    let left : size - at ≡ size - (at + 1) + 1 = omega arith in
    let P : ℕ → Type 0 = λ k. (number + 1) * 10 ^ k ≤ bound in
    small-step number digit (size - (at + 1)) bound one_digit (subst P left fits)

-- a zero in front
pub zeros-first : (rest : List ℕ) (n : ℕ) → (prefix_len (λ c. eqb c 48) rest ≤ n → digits_value_after 10 0 (take n rest) ≡ digits_value_after 10 0 (take (n - prefix_len (λ c. eqb c 48) rest) (drop (prefix_len (λ c. eqb c 48) rest) rest)))
    → 1 + prefix_len (λ c. eqb c 48) rest ≤ suc n
    → digits_value_after 10 0 (take n rest) ≡ digits_value_after 10 0 (take (suc n - (1 + prefix_len (λ c. eqb c 48) rest)) (drop (1 + prefix_len (λ c. eqb c 48) rest) (48 ∷ rest)))
zeros-first rest n later within =
    let q : ℕ = prefix_len (λ c. eqb c 48) rest in
    later (omega arith)
    ∙ ap (λ (k : ℕ). digits_value_after 10 0 (take k (drop (prefix_len (λ c. eqb c 48) rest) rest))) (omega arith)
    ∙ ap (λ (m : ℕ). digits_value_after 10 0 (take (suc n - m) (drop m (48 ∷ rest)))) (sym (one-add (prefix_len (λ c. eqb c 48) rest)))

-- leading zeros write nothing
pub zeros-nothing : (text : List ℕ) (n : ℕ) → prefix_len (λ c. eqb c 48) text ≤ n
    → digits_value_after 10 0 (take n text) ≡ digits_value_after 10 0 (take (n - prefix_len (λ c. eqb c 48) text) (drop (prefix_len (λ c. eqb c 48) text) text))
zeros-nothing [] n within = ap (λ (k : ℕ). digits_value_after 10 0 (take k [])) (omega arith)
zeros-nothing (c ∷ rest) zero within =
    let none : 0 ≡ 0 - prefix_len (λ c. eqb c 48) (c ∷ rest) = omega arith in
    ap (λ (k : ℕ). digits_value_after 10 0 (take k (drop (prefix_len (λ c. eqb c 48) (c ∷ rest)) (c ∷ rest)))) none
zeros-nothing (c ∷ rest) (suc n) within = elim (cases_Bool (eqb c 48)) [
  | inl zero_digit ↦
      let is : 48 ≡ c = sym (eqb-true c 48 zero_digit) in
      let P : ℕ → Type 0 = λ d. prefix_len (λ c. eqb c 48) (d ∷ rest) ≤ suc n → digits_value_after 10 0 (take (suc n) (d ∷ rest))
      ≡ digits_value_after 10 0 (take (suc n - prefix_len (λ c. eqb c 48) (d ∷ rest)) (drop (prefix_len (λ c. eqb c 48) (d ∷ rest)) (d ∷ rest))) in
      subst P is (zeros-first rest n (zeros-nothing rest n)) within
  | inr other ↦
      let none : 0 ≡ prefix_len (λ c. eqb c 48) (c ∷ rest) = rw other refl in
      let same : suc n ≡ suc n - 0 = omega arith in
      let first : digits_value_after 10 0 (take (suc n) (c ∷ rest)) ≡ digits_value_after 10 0 (take (suc n - 0) (c ∷ rest)) = ap (λ (k : ℕ). digits_value_after 10 0 (take k (c ∷ rest))) same in
      first ∙ ap (λ (m : ℕ). digits_value_after 10 0 (take (suc n - m) (drop m (c ∷ rest)))) none
]

-- the digits of two lists in a row
pub after-append : (number : ℕ) (xs ys : List ℕ) → digits_value_after 10 number (xs ++ ys) ≡ digits_value_after 10 (digits_value_after 10 number xs) ys
after-append number [] ys = refl
after-append number (c ∷ xs) ys = after-append (number * 10 + digit_value c) xs ys

pub both : (x y : Bool) → (x && y) ≡ true → (x ≡ true) × (y ≡ true)
both true y holds = (refl, holds)
both false y holds = cc

-- what a decimal is
pub record DecimalFacts (text : List ℕ) : Type 0 where
  pub point : digits_length text + 1 ≤ length text
  pub throughout : digits_length (drop (digits_length text + 1) text) ≡ length (drop (digits_length text + 1) text)
  pub narrow : (digits_length text - zeros_length text) + length (drop (digits_length text + 1) text) ≤ 38

pub decimal-facts : (text : List ℕ) → is_decimal text ≡ true → DecimalFacts text
decimal-facts text is =
    let n : ℕ = digits_length text in
    let parts = both (begins_with_number text && begins_with_point (drop n text)) ((eqb (digits_length (drop (n + 1) text)) (length (drop (n + 1) text))) && leb (decimal_width text (drop (n + 1) text)) 38) is in
    let front = both (begins_with_number text) (begins_with_point (drop n text)) parts.0 in
    let back = both (eqb (digits_length (drop (n + 1) text)) (length (drop (n + 1) text))) (leb (decimal_width text (drop (n + 1) text)) 38) parts.1 in
    let some : 0 < length (drop n text) = point_some (drop n text) front.1 in
    let all : digits_length (drop (n + 1) text) ≡ length (drop (n + 1) text) = eqb-true (digits_length (drop (n + 1) text)) (length (drop (n + 1) text)) back.0 in
    let width : decimal_width text (drop (n + 1) text) ≤ 38 = leb-true (decimal_width text (drop (n + 1) text)) 38 back.1 in
    record {
      point = omega (arith, length-drop n text);
      throughout = all;
      narrow = omega (arith, width, all);
    }

-- ten to the power of 38 is less than 2^127
pub room-38 : (k : ℕ) → k ≤ 38 → 10 ^ k ≤ 2 ^ 127
room-38 k narrow = let below : 10 ^ k ≤ 10 ^ 38 = pow-le-pow_right {n = 10} (omega arith) narrow in omega arith

-- the digits before the point without leading zeros
pub kept-digits : (text : List ℕ) (zeros n k : ℕ) → n ≡ prefix_len is_ascii_digit text → zeros ≤ n → k < length (take (n - zeros) (drop zeros text)) → is_ascii_digit (get_or (take (n - zeros) (drop zeros text)) k 0) ≡ true
kept-digits text zeros n k front few within =
    let below : k < n - zeros = omega (arith, length-take (n - zeros) (drop zeros text)) in
    let same : get_or (take (n - zeros) (drop zeros text)) k 0 ≡ get_or text (zeros + k) 0 = get_or-take (n - zeros) (drop zeros text) k 0 below ∙ get_or-drop zeros text k 0 in
    ap is_ascii_digit same ∙ prefix_len_passes is_ascii_digit text (zeros + k) 0 (omega arith)

pub kept-room : (text : List ℕ) (zeros n : ℕ) → is_decimal text ≡ true → n ≡ digits_length text → zeros ≡ zeros_length text → 1 * 10 ^ length (take (n - zeros) (drop zeros text)) ≤ 2 ^ 127
kept-room text zeros n is front few =
    let facts = decimal-facts text is in
    let size : length (take (n - zeros) (drop zeros text)) ≤ 38 = omega (arith, length-take (n - zeros) (drop zeros text), facts.narrow) in
    omega (arith, room-38 (length (take (n - zeros) (drop zeros text))) size)

pub fraction-digits : (text fraction : List ℕ) (n k : ℕ) → is_decimal text ≡ true → n ≡ digits_length text → fraction ≡ take (length text - (n + 1)) (drop (n + 1) text) → k < length fraction → is_ascii_digit (get_or fraction k 0) ≡ true
fraction-digits text fraction n k is front seen within =
    let facts = decimal-facts text is in
    let rest : fraction ≡ drop (digits_length text + 1) text = seen ∙ take_rest text (n + 1) ∙ ap (λ (m : ℕ). drop (m + 1) text) front in
    let P : List ℕ → Type 0 = λ s. k < length s → is_ascii_digit (get_or s k 0) ≡ true in
    let there : k < length (drop (digits_length text + 1) text) → is_ascii_digit (get_or (drop (digits_length text + 1) text) k 0) ≡ true =
    λ below. prefix_len_passes is_ascii_digit (drop (digits_length text + 1) text) k 0 (omega (arith, facts.throughout)) in
    subst P (sym rest) there within

pub fraction-room : (text fraction kept : List ℕ) (zeros n before : ℕ) → is_decimal text ≡ true → n ≡ digits_length text → zeros ≡ zeros_length text
    → fraction ≡ take (length text - (n + 1)) (drop (n + 1) text) → kept ≡ take (n - zeros) (drop zeros text) → before + 1 ≤ 1 * 10 ^ length kept → (before + 1) * 10 ^ length fraction ≤ 2 ^ 127
fraction-room text fraction kept zeros n before is front few seen kept_is small =
    let facts = decimal-facts text is in
    let rest : fraction ≡ drop (digits_length text + 1) text = seen ∙ take_rest text (n + 1) ∙ ap (λ (m : ℕ). drop (m + 1) text) front in
    let size : length kept + length fraction ≤ 38 = omega (arith, ap length kept_is, length-take (n - zeros) (drop zeros text), ap length rest, facts.narrow) in
    let scaled : (before + 1) * 10 ^ length fraction ≤ (1 * 10 ^ length kept) * 10 ^ length fraction = mul-le-mul_right (10 ^ length fraction) small in
    let power : 10 ^ (length kept + length fraction) ≡ 10 ^ length kept * 10 ^ length fraction = pow-add 10 (length kept) (length fraction) in
    omega (arith, room-38 (length kept + length fraction) size)

-- a decimal's value
abbrev pub decimal_of : ℕ → ℕ → ℕ → Option DecimalValue
decimal_of number scale width = Some (record { digits = pos number; scale = scale; width = width })

pub decimal-chosen : (b : Bool) (value : Option DecimalValue) → b ≡ true → value ≡ (if b then value else None)
decimal-chosen b value holds = rw holds refl

pub decimal-is : (text fraction kept : List ℕ) (zeros n before number width : ℕ) → is_decimal text ≡ true → n ≡ digits_length text → zeros ≡ zeros_length text
    → fraction ≡ take (length text - (n + 1)) (drop (n + 1) text) → kept ≡ take (n - zeros) (drop zeros text) → before ≡ digits_value_after 10 0 kept → number ≡ digits_value_after 10 before fraction
    → width ≡ decimal_width text fraction → decimal_of number (length fraction) width ≡ decimal_value text
decimal-is text fraction kept zeros n before number width is front few seen kept_is before_is number_is width_is =
    let rest : fraction ≡ drop (digits_length text + 1) text = seen ∙ take_rest text (n + 1) ∙ ap (λ (m : ℕ). drop (m + 1) text) front in
    let whole : digits_value_after 10 0 kept ≡ digits_value_after 10 0 (take (digits_length text) text) =
    ap (digits_value_after 10 0) (kept_is ∙ ap (λ (m : ℕ). take (m - zeros) (drop zeros text)) front ∙ ap (λ (m : ℕ). take (digits_length text - m) (drop m text)) few)
    ∙ sym (zeros-nothing text (digits_length text) (zeros-digits text)) in
    let value : number ≡ digits_value 10 (take (digits_length text) text ++ drop (digits_length text + 1) text) =
    number_is ∙ ap (λ (v : ℕ). digits_value_after 10 v fraction) (before_is ∙ whole) ∙ ap (digits_value_after 10 (digits_value_after 10 0 (take (digits_length text) text))) rest
    ∙ sym (after-append 0 (take (digits_length text) text) (drop (digits_length text + 1) text)) in
    ap (λ (v : ℕ). decimal_of v (length fraction) width) value
    ∙ ap (λ (w : ℕ). decimal_of (digits_value 10 (take (digits_length text) text ++ drop (digits_length text + 1) text)) (length fraction) w) width_is
    ∙ ap (λ (s : List ℕ). decimal_of (digits_value 10 (take (digits_length text) text ++ drop (digits_length text + 1) text)) (length s) (decimal_width text s)) rest
    ∙ decimal-chosen (is_decimal text) (decimal_of (digits_value 10 (take (digits_length text) text ++ drop (digits_length text + 1) text)) (length (drop (digits_length text + 1) text)) (decimal_width text (drop (digits_length text + 1) text))) is
