use Rattle.std.proofs.Common.{◌-◌, length, arith}
use Rattle.ooc_decimal.proofs.Point.{unit_above, unit_below}
use Rattle.ooc_decimal.proofs.Rounding.{below_power}
use Rattle.ooc_decimal.proofs.NumberAfter.{narrow_pair_read, digits_in_both}
use Rattle.ooc_decimal.proofs.read.read_narrow_pair.Goals as goal

pub read_narrow-requires-clause-small : goal.read_narrow-requires-clause-small
read_narrow-requires-clause-small c = unit_above (18 - length c.args.front.now)

pub read_narrow-requires-in-Some-clause-small : goal.read_narrow-requires-in-Some-clause-small
read_narrow-requires-in-Some-clause-small c =
    let front = c.args.front.now in
    omega (arith, below_power front c.in-Some.ensures.0, c.in-Some.ensures.1, unit_below (length front) (18 - length c.args.back.now) (omega arith))

pub returns-in-Some : goal.returns-in-Some
returns-in-Some c = narrow_pair_read c.args.front.now c.args.back.now c.in-Some.value c.read_narrow-in-Some.result c.in-Some.ensures.0 c.in-Some.ensures.1 c.read_narrow-in-Some.ensures

pub returns-in-None : goal.returns-in-None
returns-in-None c = λ both. c.in-None.ensures (digits_in_both c.args.front.now c.args.back.now both).0
