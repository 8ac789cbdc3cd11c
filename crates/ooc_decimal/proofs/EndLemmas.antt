-- The ends of DECIMAL.
use Rattle.std.proofs.Common.{◌≡◌, ℕ, suc, ◌-◌, ◌^◌, ◌≤◌, ◌<◌, true, cond, nat_le, ap, arith, pos, SFits}
use Rattle.std.specs.Prelude.{neg_ℤ}
use Rattle.std.specs.Int.{w128}
use Rattle.std.proofs.lemmas.Bool.Decides.{nat_tests}
use Prim.Native.Nat.{zero}
use Rattle.ooc_types.specs.declared.schema.SqlType.TheVariants.{Decimal}
use Rattle.ooc_decimal.specs.Ends.{most_of, below_of}
use Rattle.ooc_decimal.proofs.Point.{unit_below}

is_width : (w : ℕ) → w ≤ 38 → nat_le w 38 ≡ true
is_width w h = grind (arith, nat_tests)

pub most-Decimal : (w s : ℕ) → w ≤ 38 → most_of (Decimal w s) ≡ 10 ^ w - 1
most-Decimal w s h = ap (λ b. cond b (10 ^ w - 1) 170_141_183_460_469_231_731_687_303_715_884_105_727) (is_width w h)

pub below-Decimal : (w s : ℕ) → w ≤ 38 → below_of (Decimal w s) ≡ 10 ^ w - 1
below-Decimal w s h = ap (λ b. cond b (10 ^ w - 1) 170_141_183_460_469_231_731_687_303_715_884_105_728) (is_width w h)

pub width_fits : (w : ℕ) → w ≤ 38 → SFits w128 (pos (10 ^ w - 1))
width_fits w h = record { sfits = omega (arith, unit_below w 38 h) }

pub width_fits_below : (w : ℕ) → w ≤ 38 → SFits w128 (neg_ℤ (pos (10 ^ w - 1)))
width_fits_below w h = go (10 ^ w - 1) (omega (arith, unit_below w 38 h))
  where
    go : (n : ℕ) → n < 2 ^ 127 → SFits w128 (neg_ℤ (pos n))
    go zero small = record { sfits = omega arith }
    go (suc n) small = record { sfits = omega arith }
