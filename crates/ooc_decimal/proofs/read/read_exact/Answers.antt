use Rattle.std.proofs.Common.{◌++◌}
use Rattle.ooc_decimal.proofs.NumberAfter.{not_scaled}
use Rattle.ooc_decimal.proofs.read.read_exact.Goals as goal

pub returns-in-None : goal.returns-in-None
returns-in-None c = not_scaled (c.args.whole.now ++ c.args.part.now) c.args.zeros c.in-None.ensures
