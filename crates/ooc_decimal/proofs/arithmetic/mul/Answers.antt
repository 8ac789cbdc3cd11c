use Rattle.std.proofs.Common.{SFits}
use Rattle.std.specs.Prelude.{◌*ℤ◌}
use Rattle.std.specs.Int.{w128}
use Rattle.std.proofs.lemmas.Int.{to_z-of_z}
use Rattle.ooc_decimal.proofs.OutOfRange.{unfit}
use Rattle.ooc_decimal.proofs.arithmetic.mul.Goals as goal

pub returns-in-None : goal.returns-in-None
returns-in-None c =
    let a : SFits w128 c.args.a = c.ranges.a in
    let b : SFits w128 c.args.b = c.ranges.b in
    unfit c.args.kind c.requires.numeric (c.args.a *ℤ c.args.b) (simp to_z-of_z at c.in-None.ensures)
