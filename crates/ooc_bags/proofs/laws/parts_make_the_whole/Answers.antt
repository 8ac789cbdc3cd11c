use Rattle.ooc_bags.proofs.Parts.{bag-parts, bag-part_by_part}
use Rattle.ooc_bags.proofs.laws.parts_make_the_whole.Goals as goal

pub returns : goal.returns
returns g c = record { whole = λ number ks xs parts. bag-parts number ks parts xs; each = λ f h number ks xs parts own. bag-part_by_part f h number ks parts own xs }
