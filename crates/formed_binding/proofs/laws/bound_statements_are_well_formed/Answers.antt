use Rattle.formed_binding.proofs.StatementLemmas.{bound-formed}
use Rattle.formed_binding.proofs.laws.bound_statements_are_well_formed.Goals as goal

pub returns : goal.returns
returns c = bound-formed
