use Rattle.std.proofs.Common.{ℤ, pos, ◌^◌, ◌∙◌, subst, arith}
use Rattle.std.specs.Prelude.{◌*ℤ◌}
use Rattle.std.proofs.Math.IntN.{+ℤ_comm}
use Rattle.ooc_decimal.specs.Numeric.{signed}
use Rattle.ooc_decimal.specs.Exact.{IsExact}
use Rattle.ooc_decimal.proofs.Signs.{at_one_scale}
use Rattle.ooc_decimal.proofs.signed.scaled_sum.Goals as goal

pub returns-then-a_places-b_places : goal.returns-then-a_places-b_places
returns-then-a_places-b_places c =
    let a = c.args.a in
    let b = c.args.b in
    let P : ℤ → Type 0 = λ z. IsExact c.args.kind z c.raised_twice.result in
    subst P (at_one_scale a.negative a.magnitude b.negative b.magnitude c.args.a_places c.args.b_places c.if-a_places-b_places.true) c.raised_twice.ensures

pub returns-else-a_places-b_places : goal.returns-else-a_places-b_places
returns-else-a_places-b_places c =
    let a = c.args.a in
    let b = c.args.b in
    let P : ℤ → Type 0 = λ z. IsExact c.args.kind z c.raised_twice-else-a_places-b_places.result in
    subst P (at_one_scale b.negative b.magnitude a.negative a.magnitude c.args.b_places c.args.a_places (omega arith)
    ∙ +ℤ_comm (signed b.negative b.magnitude *ℤ pos (10 ^ c.args.b_places)) (signed a.negative a.magnitude *ℤ pos (10 ^ c.args.a_places))) c.raised_twice-else-a_places-b_places.ensures
