use Rattle.std.proofs.Common.{◌<◌, arith}
use Rattle.ooc_decimal.proofs.NumberAfter.{far}
use Rattle.ooc_decimal.proofs.digits.times_power.Goals as goal

pub returns-then-places-gt38 : goal.returns-then-places-gt38
returns-then-places-gt38 c =
    let some : 0 < c.args.number = grind arith in
    far c.args.number c.args.places some c.if-places-gt38.true
