use Rattle.number_bags.proofs.Bags.{one_same, one_other}
use Rattle.number_bags.proofs.one_number_stands_alone.Goals as goal

pub returns-clause-there : goal.returns-clause-there
returns-clause-there c = one_same

pub returns-clause-alone : goal.returns-clause-alone
returns-clause-alone c = one_other
