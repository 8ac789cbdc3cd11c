use Rattle.formed_binding.proofs.SourceLemmas.{all-there, query-next, table-next}
use Rattle.formed_binding.proofs.laws.sources_are_well_formed.Goals as goal

pub returns : goal.returns
returns c = record { table = table-next; query = query-next; few = all-there }
