use Rattle.std.proofs.Common.{ℤ, SFits, ◌∙◌, ap, subst}
use Rattle.std.specs.Prelude.{◌+ℤ◌}
use Rattle.std.specs.Int.{w128}
use Rattle.std.proofs.lemmas.Int.{to_z-of_z}
use Rattle.ooc_decimal.specs.Numeric.{scale_of}
use Rattle.ooc_decimal.specs.Exact.{IsExact, at_scale}
use Rattle.ooc_decimal.proofs.Signs.{at_own_scale}
use Rattle.ooc_decimal.proofs.arithmetic.add.Goals as goal

pub returns-then-b_scale-to : goal.returns-then-b_scale-to
returns-then-b_scale-to c =
    let a : SFits w128 c.args.a = c.ranges.a in
    let b : SFits w128 c.args.b = c.ranges.b in
    let to = scale_of c.args.kind in
    let first = at_own_scale c.args.a c.args.a_scale to (c.if-a_scale-to.true ∙ c.scale-to.ensures) in
    let second = at_own_scale c.args.b c.args.b_scale to (c.if-b_scale-to.true ∙ c.scale-to.ensures) in
    let P : ℤ → Type 0 = λ z. IsExact c.args.kind z c.add_digits.result in
    subst P (ap (λ z. z +ℤ c.args.b) first ∙ ap (λ z. at_scale c.args.a c.args.a_scale to +ℤ z) second) (simp to_z-of_z at c.add_digits.ensures)
