-- Rounding a number by the first of the digits that are dropped.
use Rattle.std.proofs.Common.{◌≡◌, ℕ, suc, ◌+◌, ◌-◌, ◌*◌, ◌/◌, ◌^◌, ◌<◌, ◌≤◌, Bool, true, false, List, [], ◌∷◌, ◌++◌, length, get_or, refl, ◌∙◌, ap, sym, arith, ltb, Option, Some, None}
use Rattle.std.specs.Option.{SomeIff}
use Rattle.std.proofs.lemmas.Bool.{ltb-true, ltb-false, false≢true}
use Rattle.std.proofs.lemmas.Nat.{div-mul-add, pow-add}
use Rattle.std.proofs.Math.Nat.{pow-suc, mul-le-mul_right, mul-le-mul_left}
use Rattle.std.specs.Str.{all_ascii_digits}
use Rattle.std.specs.Char.{is_ascii_digit}
use Rattle.ooc_decimal.specs.Numeral.{number_after, rounded}
use Rattle.ooc_decimal.proofs.Point.{unit_above}
use Rattle.ooc_decimal.proofs.NumberAfter.{number_after-append, and_true, digits_in_both, is_digit}

-- no digit is dropped
pub exact : (n places scale : ℕ) → places ≤ scale → n * 10 ^ (scale - places) ≡ rounded n places scale
unfolding rounded
exact n places scale few =
    let p = 10 ^ places in
    let t = 10 ^ (scale - places) in
    let some : 0 < p = unit_above places in
    let power : 10 ^ scale ≡ t * p = ap (λ k. 10 ^ k) (omega arith) ∙ pow-add 10 (scale - places) places in
    let split : 2 * n * 10 ^ scale + p ≡ n * t * (2 * p) + p = ap (λ u. 2 * n * u + p) power ∙ omega arith in
    sym (ap (λ x. x / (2 * p)) split ∙ div-mul-add (n * t) (2 * p) p (omega arith))

-- v and a rest below a half
down : (v rest k q : ℕ) → 0 < k → 2 * rest < q → (2 * (v * q + rest) * k + k * q) / (2 * (k * q)) ≡ v
down v rest k q some below =
    let more = mul-le-mul_left {m = 2 * rest + 1} {n = q} k (omega arith) in
    let low : 2 * rest * k + k * q < 2 * (k * q) = omega arith in
    ap (λ x. x / (2 * (k * q))) (omega arith) ∙ div-mul-add v (2 * (k * q)) (2 * rest * k + k * q) low

-- v and a rest of a half or more
up : (v rest k q : ℕ) → 0 < k → q ≤ 2 * rest → rest < q → (2 * (v * q + rest) * k + k * q) / (2 * (k * q)) ≡ v + 1
up v rest k q some half below =
    let first = mul-le-mul_left {m = q} {n = 2 * rest} k half in
    let last = mul-le-mul_left {m = rest + 1} {n = q} k (omega arith) in
    let over : 2 * rest * k - k * q < 2 * (k * q) = omega arith in
    ap (λ x. x / (2 * (k * q))) (omega arith) ∙ div-mul-add (v + 1) (2 * (k * q)) (2 * rest * k - k * q) over

shift : (n digit power rest : ℕ) → (n * 10 + digit) * power + rest ≡ n * (power * 10) + (digit * power + rest)
shift n digit power rest = omega arith

shifted : (n : ℕ) (digits : List ℕ) → number_after n digits ≡ n * 10 ^ length digits + number_after 0 digits
shifted n [] = omega arith
shifted n (digit ∷ digits) =
    let power = 10 ^ length digits in
    let bare : 0 * 10 + (digit - 48) ≡ digit - 48 = omega arith in
    shifted (n * 10 + (digit - 48)) digits
    ∙ shift n (digit - 48) power (number_after 0 digits)
    ∙ ap (λ w. n * w + ((digit - 48) * power + number_after 0 digits)) (sym (pow-suc 10 (length digits)))
    ∙ ap (λ rest. n * 10 ^ suc (length digits) + rest) (sym (ap (λ m. number_after m digits) bare ∙ shifted (digit - 48) digits))

leading : (digit : ℕ) (digits : List ℕ) → number_after 0 (digit ∷ digits) ≡ (digit - 48) * 10 ^ length digits + number_after 0 digits
leading digit digits =
    let bare : 0 * 10 + (digit - 48) ≡ digit - 48 = omega arith in
    ap (λ n. number_after n digits) bare ∙ shifted (digit - 48) digits

pub below_power : (digits : List ℕ) → all_ascii_digits digits ≡ true → number_after 0 digits < 10 ^ length digits
below_power [] e = omega arith
below_power (digit ∷ digits) e =
    let parts = and_true (is_ascii_digit digit) (all_ascii_digits digits) e in
    let range = is_digit digit parts.0 in
    let most = mul-le-mul_right {m = digit - 48} {n = 9} (10 ^ length digits) (omega (arith, range.1)) in
    omega (arith, below_power digits parts.1, leading digit digits, pow-suc 10 (length digits), most)

below_half : (digit : ℕ) (digits : List ℕ) → all_ascii_digits (digit ∷ digits) ≡ true → digit < 53 → 2 * number_after 0 (digit ∷ digits) < 10 ^ length (digit ∷ digits)
below_half digit digits e low =
    let parts = and_true (is_ascii_digit digit) (all_ascii_digits digits) e in
    let most = mul-le-mul_right {m = digit - 48} {n = 4} (10 ^ length digits) (omega arith) in
    omega (arith, below_power digits parts.1, leading digit digits, pow-suc 10 (length digits), most)

above_half : (digit : ℕ) (digits : List ℕ) → 53 ≤ digit → 10 ^ length (digit ∷ digits) ≤ 2 * number_after 0 (digit ∷ digits)
above_half digit digits high =
    let least = mul-le-mul_right {m = 5} {n = digit - 48} (10 ^ length digits) (omega arith) in
    omega (arith, leading digit digits, pow-suc 10 (length digits), least)

-- a number in two parts, rounded between them
in_parts : (kept dropped : List ℕ) (scale : ℕ) → rounded (number_after 0 (kept ++ dropped)) (scale + length dropped) scale ≡ (2 * (number_after 0 kept * 10 ^ length dropped + number_after 0 dropped) * 10 ^ scale + 10 ^ scale * 10 ^ length dropped) / (2 * (10 ^ scale * 10 ^ length dropped))
unfolding rounded
in_parts kept dropped scale =
    let number = number_after-append 0 kept dropped ∙ shifted (number_after 0 kept) dropped in
    ap (λ n. (2 * n * 10 ^ scale + 10 ^ (scale + length dropped)) / (2 * 10 ^ (scale + length dropped))) number
    ∙ ap (λ w. (2 * (number_after 0 kept * 10 ^ length dropped + number_after 0 dropped) * 10 ^ scale + w) / (2 * w)) (pow-add 10 scale (length dropped))

pub rounds_down : (kept dropped : List ℕ) (scale : ℕ) → 0 < length dropped → all_ascii_digits dropped ≡ true → get_or dropped 0 0 < 53 → number_after 0 kept ≡ rounded (number_after 0 (kept ++ dropped)) (scale + length dropped) scale
rounds_down kept [] scale some digits low = absurd (omega arith)
rounds_down kept (digit ∷ digits) scale some are low =
    sym (in_parts kept (digit ∷ digits) scale ∙ down (number_after 0 kept) (number_after 0 (digit ∷ digits)) (10 ^ scale) (10 ^ length (digit ∷ digits)) (unit_above scale) (below_half digit digits are low))

pub rounds_up : (kept dropped : List ℕ) (scale : ℕ) → 0 < length dropped → all_ascii_digits dropped ≡ true → 53 ≤ get_or dropped 0 0 → number_after 0 kept + 1 ≡ rounded (number_after 0 (kept ++ dropped)) (scale + length dropped) scale
rounds_up kept [] scale some digits high = absurd (omega arith)
rounds_up kept (digit ∷ digits) scale some are high =
    sym (in_parts kept (digit ∷ digits) scale ∙ up (number_after 0 kept) (number_after 0 (digit ∷ digits)) (10 ^ scale) (10 ^ length (digit ∷ digits)) (unit_above scale) (above_half digit digits high) (below_power (digit ∷ digits) are))

-- no number is rounded below the digits that are kept
pub at_least : (kept dropped : List ℕ) (scale : ℕ) → 0 < length dropped → all_ascii_digits dropped ≡ true → number_after 0 kept ≤ rounded (number_after 0 (kept ++ dropped)) (scale + length dropped) scale
at_least kept dropped scale some digits =
    elim (ltb (get_or dropped 0 0) 53) as (λ t. ltb (get_or dropped 0 0) 53 ≡ t → number_after 0 kept ≤ rounded (number_after 0 (kept ++ dropped)) (scale + length dropped) scale) [
      | true ↦ λ e. omega (arith, rounds_down kept dropped scale some digits (ltb-true (get_or dropped 0 0) 53 e))
      | false ↦ λ e. omega (arith, rounds_up kept dropped scale some digits (ltb-false (get_or dropped 0 0) 53 e))
    ] refl

pub not_rounded : (kept dropped : List ℕ) (scale : ℕ) → 0 < length dropped → ((all_ascii_digits kept ≡ true) × (number_after 0 kept < 2 ^ 128) → ⊥) → (all_ascii_digits (kept ++ dropped) ≡ true) × (rounded (number_after 0 (kept ++ dropped)) (scale + length dropped) scale < 2 ^ 128) → ⊥
not_rounded kept dropped scale some none both =
    let parts = digits_in_both kept dropped both.0 in
    none (parts.0, omega (arith, at_least kept dropped scale some parts.1, both.1))

pub not_digits : (kept dropped : List ℕ) → all_ascii_digits dropped ≡ false → all_ascii_digits (kept ++ dropped) ≡ true → ⊥
not_digits kept dropped none are = false≢true (sym none ∙ (digits_in_both kept dropped are).1)

-- one more, where it fits
pub one_more : (o : Option ℕ) (value number : ℕ) (digits : Bool) → digits ≡ true → value + 1 ≡ number → SomeIff o (value + 1 < 2 ^ 128) (value + 1) → SomeIff o ((digits ≡ true) × (number < 2 ^ 128)) number
one_more None value number digits e next known = λ both. known (omega (arith, both.1))
one_more (Some x) value number digits e next known = ((e, omega (arith, known.0)), known.1 ∙ next)
