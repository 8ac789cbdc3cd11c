use Rattle.ooc_bags.proofs.Bags.{bag-loops}
use Rattle.ooc_bags.proofs.laws.loops_stand_in_either_order.Goals as goal

pub returns : goal.returns
returns g c = bag-loops
