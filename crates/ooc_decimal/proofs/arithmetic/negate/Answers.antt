use Rattle.std.proofs.Common.{SFits}
use Rattle.std.specs.Prelude.{neg_ℤ}
use Rattle.std.specs.Int.{w128}
use Rattle.std.proofs.lemmas.Int.{to_z-of_z}
use Rattle.ooc_decimal.proofs.OutOfRange.{unfit}
use Rattle.ooc_decimal.proofs.arithmetic.negate.Goals as goal

pub returns-in-None : goal.returns-in-None
returns-in-None c =
    let a : SFits w128 c.args.a = c.ranges.a in
    unfit c.args.kind c.requires (neg_ℤ c.args.a) (simp to_z-of_z at c.in-None.ensures)
