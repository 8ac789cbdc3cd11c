use Rattle.formed_binding.proofs.GatherLemmas.{all-different, all-formed, alone}
use Rattle.formed_binding.proofs.laws.gathered_aggregates_are_well_formed.Goals as goal

pub returns : goal.returns
returns c = record { different = all-different; formed = all-formed; alone = alone }
