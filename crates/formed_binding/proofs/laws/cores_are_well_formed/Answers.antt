use Rattle.formed_binding.proofs.CoreLemmas.{core-formed}
use Rattle.formed_binding.proofs.laws.cores_are_well_formed.Goals as goal

pub returns : goal.returns
returns c = core-formed
