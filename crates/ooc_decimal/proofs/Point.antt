-- The parts of a number before and behind its point, and its text.
use Rattle.std.proofs.Common.{◌≡◌, ℕ, suc, ◌+◌, ◌/◌, ◌%◌, ◌^◌, ◌<◌, ◌≤◌, [], ◌∷◌, ◌++◌, refl, ◌∙◌, ap, sym, arith, append_assoc, length, length-append, decimal}
use Rattle.std.proofs.Math.Nat.{one-le-pow, pow-le-pow_right, div-eq_of_lt, mod-eq_of_lt}
use Prim.Native.Nat.{zero}
use Rattle.ooc_decimal.specs.Printed.{places, magnitude_text}
use Rattle.ooc_decimal.proofs.LastPlaces.{of_rest, length-places}

pub unit_above : (scale : ℕ) → 0 < 10 ^ scale
unit_above scale = one-le-pow scale 10 (omega arith)

pub unit_below : (scale most : ℕ) → scale ≤ most → 10 ^ scale ≤ 10 ^ most
unit_below scale most h = pow-le-pow_right {n = 10} (omega arith) {i = scale} {j = most} h

below_unit : (n most scale : ℕ) → n < 10 ^ most → most ≤ scale → n < 10 ^ scale
below_unit n most scale low h = omega (arith, unit_below most scale h)

-- a number with fewer digits than the scale has no integer part
pub no_whole : (n most scale : ℕ) → n < 10 ^ most → most ≤ scale → 0 ≡ n / 10 ^ scale
no_whole n most scale low h =
    sym (div-eq_of_lt (below_unit n most scale low h))

pub all_part : (n most scale : ℕ) → n < 10 ^ most → most ≤ scale → n ≡ n % 10 ^ scale
all_part n most scale low h =
    sym (mod-eq_of_lt (below_unit n most scale low h))

pub whole_text : (n : ℕ) → decimal n ≡ magnitude_text n 0
unfolding magnitude_text
whole_text n = refl

pub pointed_text : (n scale : ℕ) → (scale ≡ 0 → ⊥) → (decimal (n / 10 ^ scale) ++ 46 ∷ []) ++ places scale (n % 10 ^ scale) ≡ magnitude_text n scale
unfolding magnitude_text
pointed_text n zero some = absurd (some refl)
pointed_text n (suc scale) some =
    append_assoc (decimal (n / 10 ^ suc scale)) (46 ∷ []) (places (suc scale) (n % 10 ^ suc scale))
    ∙ ap (λ ds. decimal (n / 10 ^ suc scale) ++ 46 ∷ ds) (of_rest (suc scale) n)

pub length_whole : (n count : ℕ) → decimal n ≡ places count n → count ≡ length (magnitude_text n 0)
unfolding magnitude_text
length_whole n count e = sym (ap length e ∙ length-places count n)

pub length_pointed : (n count scale : ℕ) → (scale ≡ 0 → ⊥) → decimal (n / 10 ^ scale) ≡ places count (n / 10 ^ scale) → count + 1 + scale ≡ length (magnitude_text n scale)
unfolding magnitude_text
length_pointed n count zero some e = absurd (some refl)
length_pointed n count (suc scale) some e =
    omega (arith, length-append (decimal (n / 10 ^ suc scale)) (46 ∷ places (suc scale) n), ap length e, length-places count (n / 10 ^ suc scale), length-places (suc scale) n)
