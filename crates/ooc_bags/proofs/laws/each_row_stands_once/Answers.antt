use Rattle.ooc_bags.proofs.Firsts.{firsts-once, firsts-SameBag, firsts-filter}
use Rattle.ooc_bags.proofs.laws.each_row_stands_once.Goals as goal

pub returns : goal.returns
returns c = record { once = firsts-once; same = firsts-SameBag; filter = firsts-filter }
