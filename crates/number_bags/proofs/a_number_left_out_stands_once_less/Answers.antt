use Rattle.number_bags.proofs.Bags.{times_without, length_without}
use Rattle.number_bags.proofs.a_number_left_out_stands_once_less.Goals as goal

pub returns-clause-bag : goal.returns-clause-bag
returns-clause-bag c xs x y has = times_without x xs has y

pub returns-clause-count : goal.returns-clause-count
returns-clause-count c xs x has = length_without x xs has
