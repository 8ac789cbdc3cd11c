use Rattle.apart_calls.proofs.ScriptLemmas.{tree-apart}
use Rattle.apart_calls.proofs.laws.parsed_statements_stand_apart.Goals as goal

pub returns : goal.returns
returns c = tree-apart
