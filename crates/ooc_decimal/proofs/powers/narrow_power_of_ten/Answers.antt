use Rattle.std.proofs.Common.{arith}
use Rattle.ooc_decimal.proofs.Point.{unit_below}
use Rattle.ooc_decimal.proofs.powers.narrow_power_of_ten.Goals as goal

pub overflow_cast-result : goal.overflow_cast-result
overflow_cast-result c = omega (arith, unit_below c.args.places 19 c.requires)
