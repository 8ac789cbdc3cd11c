use Rattle.ooc_decimal.proofs.NumberAfter.{pair_read, no_pair}
use Rattle.ooc_decimal.proofs.read.read_pair.Goals as goal

pub returns-in-Some : goal.returns-in-Some
returns-in-Some c = pair_read c.args.front.now c.args.back.now c.in-Some.value c.read_digits-in-Some.result c.in-Some.ensures.0.0 c.in-Some.ensures.1 c.read_digits-in-Some.ensures

pub returns-in-None : goal.returns-in-None
returns-in-None c = no_pair c.args.front.now c.args.back.now c.in-None.ensures
