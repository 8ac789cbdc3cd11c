use Rattle.ooc_bags.proofs.Sums.{sum-SameBag}
use Rattle.ooc_bags.proofs.Bags.{bag-append, bag-swap, bag-map, bag-filter, bag-flat_map}
use Rattle.ooc_bags.proofs.laws.bags_stay_the_same.Goals as goal

pub returns : goal.returns
returns g c = record { append = bag-append; swap = bag-swap; map = bag-map; filter = bag-filter; flat_map = bag-flat_map; sum = sum-SameBag }
