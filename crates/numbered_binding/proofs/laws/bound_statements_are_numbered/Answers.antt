use Rattle.numbered_binding.proofs.StatementLemmas.{bound-numbered}
use Rattle.numbered_binding.proofs.laws.bound_statements_are_numbered.Goals as goal

pub returns : goal.returns
returns c = bound-numbered
