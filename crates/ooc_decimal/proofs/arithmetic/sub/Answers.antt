use Rattle.std.proofs.Common.{ℤ, SFits, ◌∙◌, ap, subst}
use Rattle.std.specs.Prelude.{◌-ℤ◌}
use Rattle.std.specs.Int.{w128}
use Rattle.std.proofs.lemmas.Int.{to_z-of_z}
use Rattle.ooc_decimal.specs.Numeric.{scale_of, signed}
use Rattle.ooc_decimal.specs.Exact.{IsExact, at_scale}
use Rattle.ooc_decimal.proofs.Signs.{at_own_scale, difference}
use Rattle.ooc_decimal.proofs.arithmetic.sub.Goals as goal

pub returns-then-b_scale-to : goal.returns-then-b_scale-to
returns-then-b_scale-to c =
    let a : SFits w128 c.args.a = c.ranges.a in
    let b : SFits w128 c.args.b = c.ranges.b in
    let to = scale_of c.args.kind in
    let first = at_own_scale c.args.a c.args.a_scale to (c.if-a_scale-to.true ∙ c.scale-to.ensures) in
    let second = at_own_scale c.args.b c.args.b_scale to (c.if-b_scale-to.true ∙ c.scale-to.ensures) in
    let P : ℤ → Type 0 = λ z. IsExact c.args.kind z c.sub_digits.result in
    subst P (ap (λ z. z -ℤ c.args.b) first ∙ ap (λ z. at_scale c.args.a c.args.a_scale to -ℤ z) second) (simp to_z-of_z at c.sub_digits.ensures)

pub returns : goal.returns
returns c =
    let a : SFits w128 c.args.a = c.ranges.a in
    let b : SFits w128 c.args.b = c.ranges.b in
    let first = c.from_digits.result in
    let second = c.from_digits-2.result in
    let taken = c.opposite.result in
    let P : ℤ → Type 0 = λ z. IsExact c.args.kind z c.scaled_sum.result in
    subst P (difference c.args.a c.args.b (signed first.negative first.magnitude) (signed second.negative second.magnitude) (signed taken.negative taken.magnitude)
    c.scale-to.result (scale_of c.args.kind) c.args.a_scale c.args.b_scale
    (simp to_z-of_z at c.from_digits.ensures.value) (simp to_z-of_z at c.from_digits-2.ensures.value) c.opposite.ensures.value c.scale-to.ensures) c.scaled_sum.ensures
