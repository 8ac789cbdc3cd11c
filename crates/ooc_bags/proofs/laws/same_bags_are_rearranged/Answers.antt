use Rattle.ooc_bags.proofs.Rearranged.{rearranged, rearranged-same}
use Rattle.ooc_bags.proofs.laws.same_bags_are_rearranged.Goals as goal

pub returns : goal.returns
returns g c = λ equals xs ys decides. (rearranged equals decides xs ys, rearranged-same xs ys)
