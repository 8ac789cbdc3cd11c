use Rattle.number_bags.proofs.Few.{few_below}
use Rattle.number_bags.proofs.different_numbers_below_a_bound_are_few.Goals as goal

pub returns : goal.returns
returns c = few_below
