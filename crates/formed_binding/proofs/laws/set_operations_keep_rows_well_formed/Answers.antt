use Rattle.formed_binding.proofs.SetLemmas.{combined-named}
use Rattle.formed_binding.proofs.laws.set_operations_keep_rows_well_formed.Goals as goal

pub returns : goal.returns
returns c = combined-named
