use Rattle.ooc_bags.proofs.Rearranged.{fold-rearranged}
use Rattle.ooc_bags.proofs.laws.folds_ignore_order.Goals as goal

pub returns : goal.returns
returns g c = λ f start xs ys commutes. fold-rearranged f commutes start xs ys
