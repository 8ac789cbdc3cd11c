use Rattle.std.proofs.Common.{SFits}
use Rattle.std.specs.Prelude.{int_div}
use Rattle.std.specs.Int.{w128, CanDivide}
use Rattle.std.proofs.lemmas.Int.{to_z-of_z}
use Rattle.ooc_decimal.proofs.OutOfRange.{unfit, not_zero}
use Rattle.ooc_decimal.proofs.arithmetic.quotient.Goals as goal

pub returns-in-None : goal.returns-in-None
returns-in-None c =
    let a : SFits w128 c.args.a = c.ranges.a in
    let b : SFits w128 c.args.b = c.ranges.b in
    let none : CanDivide w128 c.args.a c.args.b → ⊥ = simp to_z-of_z at c.in-None.ensures in
    unfit c.args.kind c.requires.numeric (int_div c.args.a c.args.b) (λ fits. none (not_zero c.args.b b c.requires.divisor, fits))
