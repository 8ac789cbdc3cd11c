use Rattle.formed_binding.proofs.ItemLemmas.{alone-next, having-next, unmixed-next, without-next}
use Rattle.formed_binding.proofs.laws.having_is_well_formed.Goals as goal

pub returns : goal.returns
returns c = record { having = having-next; none = without-next; unmixed = unmixed-next; alone = alone-next }
