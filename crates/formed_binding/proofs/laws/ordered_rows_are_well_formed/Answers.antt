use Rattle.formed_binding.proofs.OrderLemmas.{select-formed}
use Rattle.formed_binding.proofs.laws.ordered_rows_are_well_formed.Goals as goal

pub returns : goal.returns
returns c = select-formed
