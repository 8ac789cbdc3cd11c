use Rattle.formed_binding.proofs.ItemLemmas.{none-shown, source-next, star-next, value-next}
use Rattle.formed_binding.proofs.laws.items_are_well_formed.Goals as goal

pub returns : goal.returns
returns c = record { none = none-shown; value = value-next; star = star-next; source = source-next }
