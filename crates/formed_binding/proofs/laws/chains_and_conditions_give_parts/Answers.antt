use Rattle.formed_binding.proofs.OperationLemmas.{begun-chain, linked-chain, ended-part, started-conditions, joined-conditions, every-part, either-part}
use Rattle.formed_binding.proofs.laws.chains_and_conditions_give_parts.Goals as goal

pub returns : goal.returns
returns c = record { begun = begun-chain; linked = linked-chain; ended = ended-part; started = started-conditions; joined = joined-conditions; every = every-part; either = either-part }
