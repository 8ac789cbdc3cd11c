-- The value of a decimal has the least width that its digits need.
use Rattle.std.proofs.Common.{◌≡◌, ℕ, zero, suc, ◌+◌, ◌-◌, ◌*◌, ◌<◌, ◌≤◌, ◌^◌, List, [], ◌∷◌, ◌++◌, length, take, drop, get_or, true, false, Bool, eqb, max, arith, refl, ap, sym, ◌∙◌, inl, inr, drop-cons, length-take, length-drop, length-append, Some, None}
use Rattle.std.specs.Prelude.{if◌then◌else◌, pos}
use Rattle.std.proofs.lemmas.Bool.Decides.{nat_tests}
use Rattle.std.proofs.lemmas.List.Sums.{prefix_len_passes, prefix_len_stops}
use Rattle.std.proofs.Math.Nat.{mul-le-mul_right}
use Rattle.std.proofs.lemmas.Nat.{pow-add}
use Rattle.std.specs.Char.{is_ascii_digit, digit_value}
use Rattle.std.specs.Str.Parse.{digits_value, digits_value_after}
use Rattle.sql_lex.specs.declared.values.DecimalValue.{DecimalValue}
use Rattle.sql_lex.specs.Numbers.{digits_length, zeros_length, decimal_width}
use Rattle.sql_lex.specs.Values.{is_decimal, decimal_value, IsProperDecimal}
use Rattle.sql_lex.proofs.NumbersLemmas.{zeros-digits}
use Rattle.sql_lex.proofs.DecimalLemmas.{digit-bounds, small-step, zeros-nothing, after-append, kept-digits, decimal-facts}

-- digits throughout
AreDigits : List ℕ → Type 0
AreDigits ds = (k : ℕ) → k < length ds → is_ascii_digit (get_or ds k 0) ≡ true

-- what digits write behind a number is at least the number with zeros behind it
at_least : (number : ℕ) (ds : List ℕ) → number * 10 ^ length ds ≤ digits_value_after 10 number ds
at_least number [] = omega arith
at_least number (c ∷ cs) =
    let power : 10 ^ (length cs + 1) ≡ 10 ^ length cs * 10 = pow-add 10 (length cs) 1 in
    let same : 10 ^ length (c ∷ cs) ≡ 10 ^ (length cs + 1) = ap (λ (k : ℕ). 10 ^ k) (omega arith) in
    let more : number * 10 * 10 ^ length cs ≤ (number * 10 + digit_value c) * 10 ^ length cs = mul-le-mul_right (10 ^ length cs) (omega arith) in
    let later : (number * 10 + digit_value c) * 10 ^ length cs ≤ digits_value_after 10 (number * 10 + digit_value c) cs = at_least (number * 10 + digit_value c) cs in
    let whole : number * 10 ^ length (c ∷ cs) ≡ number * 10 * 10 ^ length cs = ap (λ (k : ℕ). number * k) (same ∙ power) ∙ omega arith in
    omega (arith, more, later, whole)

-- and less than the next number with zeros behind it
below_next : (number : ℕ) (ds : List ℕ) → AreDigits ds → digits_value_after 10 number ds + 1 ≤ (number + 1) * 10 ^ length ds
unfolding AreDigits
below_next number [] digits = omega arith
below_next number (c ∷ cs) digits =
    let first : is_ascii_digit c ≡ true = digits 0 (omega arith) in
    let bounds = digit-bounds c first in
    let d : ℕ = digit_value c in
    let one_digit : digit_value c ≤ 9 = omega (arith, bounds.1, bounds.2) in
    let same : (number + 1) * 10 ^ (length cs + 1) ≡ (number + 1) * 10 ^ length (c ∷ cs) = ap (λ (k : ℕ). (number + 1) * 10 ^ k) (omega arith) in
    let later : digits_value_after 10 (number * 10 + digit_value c) cs + 1 ≤ (number * 10 + digit_value c + 1) * 10 ^ length cs = below_next (number * 10 + digit_value c) cs (λ k within. digits (suc k) (omega arith)) in
    let step : (number * 10 + digit_value c + 1) * 10 ^ length cs ≤ (number + 1) * 10 ^ length (c ∷ cs) = small-step number (digit_value c) (length cs) ((number + 1) * 10 ^ length (c ∷ cs)) one_digit (omega (arith, same)) in
    omega (arith, later, step)

-- digits behind digits
both_digits : (xs ys : List ℕ) → AreDigits xs → AreDigits ys → AreDigits (xs ++ ys)
unfolding AreDigits
both_digits [] ys a b k within = b k within
both_digits (x ∷ xs) ys a b zero within = a 0 (omega arith)
both_digits (x ∷ xs) ys a b (suc k) within = both_digits xs ys (λ j less. a (suc j) (omega arith)) b k (omega arith)

-- a digit that isn't zero writes at least one
not_zero : (c : ℕ) → is_ascii_digit c ≡ true → eqb c 48 ≡ false → 1 ≤ digit_value c
not_zero c digit other = let bounds = digit-bounds c digit in let apart : 49 ≤ c = grind (arith, nat_tests, bounds) in omega (arith, bounds.2)

-- the digits of a decimal without leading zeros
kept : List ℕ → List ℕ
kept text = take (digits_length text - zeros_length text) (drop (zeros_length text) text)

behind : List ℕ → List ℕ
behind text = drop (digits_length text + 1) text

-- they write what all of them do
kept_value : (text : List ℕ) → digits_value 10 (take (digits_length text) text ++ drop (digits_length text + 1) text) ≡ digits_value_after 10 0 (kept text ++ behind text)
unfolding kept behind
kept_value text =
    after-append 0 (take (digits_length text) text) (drop (digits_length text + 1) text)
    ∙ ap (λ (v : ℕ). digits_value_after 10 v (drop (digits_length text + 1) text)) (zeros-nothing text (digits_length text) (zeros-digits text))
    ∙ sym (after-append 0 (take (digits_length text - zeros_length text) (drop (zeros_length text) text)) (drop (digits_length text + 1) text))

module _ (text : List ℕ) (is : is_decimal text ≡ true) where
  kept_length : length (kept text) ≡ digits_length text - zeros_length text
  unfolding kept
  kept_length = let facts = decimal-facts text is in omega (arith, facts.point, zeros-digits text, length-take (digits_length text - zeros_length text) (drop (zeros_length text) text), length-drop (zeros_length text) text)

  all_length : length (kept text ++ behind text) ≡ (digits_length text - zeros_length text) + length (behind text)
  all_length = length-append (kept text) (behind text) ∙ ap (λ (k : ℕ). k + length (behind text)) kept_length

  all_digits : AreDigits (kept text ++ behind text)
  unfolding AreDigits kept behind
  all_digits = let facts = decimal-facts text is in
      both_digits (kept text) (behind text)
      (λ k within. kept-digits text (zeros_length text) (digits_length text) k refl (zeros-digits text) within)
      (λ k within. prefix_len_passes is_ascii_digit (drop (digits_length text + 1) text) k 0 (omega (arith, facts.throughout, within)))

  small : digits_value_after 10 0 (kept text ++ behind text) < 10 ^ ((digits_length text - zeros_length text) + length (behind text))
  small = let less = below_next 0 (kept text ++ behind text) all_digits in
      let same : 10 ^ length (kept text ++ behind text) ≡ 10 ^ ((digits_length text - zeros_length text) + length (behind text)) = ap (λ (k : ℕ). 10 ^ k) all_length in
      omega (arith, less, same)

  -- where a digit stands before the point that is no leading zero, the number is at least as long as its width
  long : (m : ℕ) → digits_length text - zeros_length text ≡ suc m → 10 ^ (m + length (behind text)) ≤ digits_value_after 10 0 (kept text ++ behind text)
  unfolding kept behind
  long m some =
      let facts = decimal-facts text is in
      let z : ℕ = zeros_length text in
      let c : ℕ = get_or text (zeros_length text) 0 in
      let before : zeros_length text < digits_length text = omega (arith, some) in
      let inside : zeros_length text < length text = omega (arith, facts.point, before) in
      let digit : is_ascii_digit (get_or text (zeros_length text) 0) ≡ true = prefix_len_passes is_ascii_digit text (zeros_length text) 0 before in
      let other : eqb (get_or text (zeros_length text) 0) 48 ≡ false = prefix_len_stops (λ c. eqb c 48) text 0 inside in
      let one : 1 ≤ digit_value (get_or text (zeros_length text) 0) = not_zero (get_or text (zeros_length text) 0) digit other in
      let cut : drop (zeros_length text) text ≡ get_or text (zeros_length text) 0 ∷ drop (suc (zeros_length text)) text = drop-cons text (zeros_length text) 0 inside in
      let later : List ℕ = take m (drop (suc (zeros_length text)) text) in
      let first : take (digits_length text - zeros_length text) (drop (zeros_length text) text) ≡ get_or text (zeros_length text) 0 ∷ take m (drop (suc (zeros_length text)) text)
      = ap (λ (k : ℕ). take k (drop (zeros_length text) text)) some ∙ ap (take (suc m)) cut in
      let size : length (take m (drop (suc (zeros_length text)) text)) ≡ m = omega (arith, facts.point, some, length-take m (drop (suc (zeros_length text)) text), length-drop (suc (zeros_length text)) text) in
      let value : digits_value_after 10 0 (take (digits_length text - zeros_length text) (drop (zeros_length text) text) ++ drop (digits_length text + 1) text)
      ≡ digits_value_after 10 (0 * 10 + digit_value (get_or text (zeros_length text) 0)) (take m (drop (suc (zeros_length text)) text) ++ drop (digits_length text + 1) text)
      = ap (λ (l : List ℕ). digits_value_after 10 0 (l ++ drop (digits_length text + 1) text)) first in
      let least = at_least (0 * 10 + digit_value (get_or text (zeros_length text) 0)) (take m (drop (suc (zeros_length text)) text) ++ drop (digits_length text + 1) text) in
      let width : length (take m (drop (suc (zeros_length text)) text) ++ drop (digits_length text + 1) text) ≡ m + length (drop (digits_length text + 1) text)
      = length-append (take m (drop (suc (zeros_length text)) text)) (drop (digits_length text + 1) text) ∙ ap (λ (k : ℕ). k + length (drop (digits_length text + 1) text)) size in
      let power : 10 ^ length (take m (drop (suc (zeros_length text)) text) ++ drop (digits_length text + 1) text) ≡ 10 ^ (m + length (drop (digits_length text + 1) text)) = ap (λ (k : ℕ). 10 ^ k) width in
      let scaled : 1 * 10 ^ length (take m (drop (suc (zeros_length text)) text) ++ drop (digits_length text + 1) text) ≤ (0 * 10 + digit_value (get_or text (zeros_length text) 0)) * 10 ^ length (take m (drop (suc (zeros_length text)) text) ++ drop (digits_length text + 1) text)
      = mul-le-mul_right (10 ^ length (take m (drop (suc (zeros_length text)) text) ++ drop (digits_length text + 1) text)) (omega (arith, one)) in
      omega (arith, value, least, power, scaled)

-- what is left is arithmetic on these numbers
proper : (d : DecimalValue) (before scale number : ℕ) → d.digits ≡ pos number → d.scale ≡ scale → d.width ≡ max 1 (before + scale) → before + scale ≤ 38 → number < 10 ^ (before + scale)
    → ((m : ℕ) → before ≡ suc m → 10 ^ (m + scale) ≤ number) → IsProperDecimal d
proper d zero zero number digits is_scale is_width narrow less longer = record {
  number = number;
  written = digits;
  some_digit = omega (arith, is_width);
  places = omega (arith, is_scale);
  small = let width : d.width ≡ 1 = omega (arith, is_width) in let same : 10 ^ d.width ≡ 10 ^ 1 = ap (λ (k : ℕ). 10 ^ k) width in omega (arith, same, less);
  most = omega (arith, is_width);
  least = inl (omega (arith, is_width));
}
proper d zero (suc s) number digits is_scale is_width narrow less longer = record {
  number = number;
  written = digits;
  some_digit = omega (arith, is_width);
  places = omega (arith, is_scale, is_width);
  small = let width : d.width ≡ (0 + suc s) = omega (arith, is_width) in let same : 10 ^ d.width ≡ 10 ^ (0 + suc s) = ap (λ (k : ℕ). 10 ^ k) width in omega (arith, same, less);
  most = omega (arith, is_width, narrow);
  least = inr (inl (omega (arith, is_width, is_scale)));
}
proper d (suc m) scale number digits is_scale is_width narrow less longer = record {
  number = number;
  written = digits;
  some_digit = omega (arith, is_width);
  places = omega (arith, is_scale, is_width);
  small = let width : d.width ≡ (suc m + scale) = omega (arith, is_width) in let same : 10 ^ d.width ≡ 10 ^ (suc m + scale) = ap (λ (k : ℕ). 10 ^ k) width in omega (arith, same, less);
  most = omega (arith, is_width, narrow);
  least = let width : d.width - 1 ≡ m + scale = omega (arith, is_width) in let same : 10 ^ (d.width - 1) ≡ 10 ^ (m + scale) = ap (λ (k : ℕ). 10 ^ k) width in inr (inr (omega (arith, same, longer m refl)));
}

chosen : (b : Bool) (v d : DecimalValue) → (if b then Some v else None) ≡ Some d → (b ≡ true) × (v ≡ d)
chosen true v d e = (refl, cc)
chosen false v d e = cc

pub decimal-proper : (text : List ℕ) (d : DecimalValue) → decimal_value text ≡ Some d → IsProperDecimal d
unfolding behind
decimal-proper text d e =
    let number : ℕ = digits_value 10 (take (digits_length text) text ++ drop (digits_length text + 1) text) in
    let v : DecimalValue = record { digits = pos (digits_value 10 (take (digits_length text) text ++ drop (digits_length text + 1) text)); scale = length (drop (digits_length text + 1) text); width = decimal_width text (drop (digits_length text + 1) text) } in
    let k = chosen (is_decimal text) v d e in
    let facts = decimal-facts text k.0 in
    let value = kept_value text in
    let wide : decimal_width text (drop (digits_length text + 1) text) ≡ max 1 ((digits_length text - zeros_length text) + length (drop (digits_length text + 1) text))
    = ap (λ (s : ℕ). max 1 ((digits_length text - zeros_length text) + s)) facts.throughout in
    proper d (digits_length text - zeros_length text) (length (drop (digits_length text + 1) text)) (digits_value 10 (take (digits_length text) text ++ drop (digits_length text + 1) text))
    (sym (ap (λ (z : DecimalValue). z.digits) k.1)) (sym (ap (λ (z : DecimalValue). z.scale) k.1)) (sym (ap (λ (z : DecimalValue). z.width) k.1) ∙ wide) facts.narrow
    (omega (arith, value, small text k.0)) (λ m some. omega (arith, value, long text k.0 m some))
