use Rattle.number_bags.proofs.Bags.{times_both}
use Rattle.number_bags.proofs.lists_put_together_are_summed.Goals as goal

pub returns : goal.returns
returns c = times_both
