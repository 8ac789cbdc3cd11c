use Rattle.formed_binding.proofs.JoinLemmas.{conjuncts-formed, joined-on, plainly-joined}
use Rattle.formed_binding.proofs.laws.joins_are_well_formed.Goals as goal

pub returns : goal.returns
returns c = record { plainly = plainly-joined; on = joined-on; conjuncts = conjuncts-formed }
