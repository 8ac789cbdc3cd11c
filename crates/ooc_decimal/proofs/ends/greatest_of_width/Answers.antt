use Rattle.std.proofs.Common.{◌≡◌, ℕ, ◌-◌, ◌^◌, ◌<◌, arith, pos, ap, sym, subst, SFits, ℤ, to_z}
use Rattle.std.specs.Prelude.{neg_ℤ}
use Rattle.std.specs.Int.{w128}
use Rattle.std.proofs.lemmas.Int.{ints}
use Rattle.ooc_decimal.proofs.EndLemmas.{width_fits, width_fits_below}
use Rattle.ooc_decimal.proofs.ends.greatest_of_width.Goals as goal

pub overflow_cast-result : goal.overflow_cast-result
overflow_cast-result c = subst (λ (p : ℕ). SFits w128 (pos (p - 1))) (sym c.power_of_ten.ensures.value) (width_fits c.args.width c.requires)

pub returns-clause-value : goal.returns-clause-value
returns-clause-value c =
    let fits = width_fits c.args.width c.requires in
    let small : c.power_of_ten.result - 1 < 2 ^ 127 = omega (arith, fits.sfits, c.power_of_ten.ensures.value) in
    omega (arith, ints, c.power_of_ten.ensures.value)

pub returns-clause-positive : goal.returns-clause-positive
returns-clause-positive c =
    let fits = width_fits c.args.width c.requires in
    let small : c.power_of_ten.result - 1 < 2 ^ 127 = omega (arith, fits.sfits, c.power_of_ten.ensures.value) in
    let e : to_z w128 (c.power_of_ten.result - 1) ≡ pos (10 ^ c.args.width - 1) = omega (arith, ints, c.power_of_ten.ensures.value) in
    subst (λ (z : ℤ). SFits w128 (neg_ℤ z)) (sym e) (width_fits_below c.args.width c.requires)
