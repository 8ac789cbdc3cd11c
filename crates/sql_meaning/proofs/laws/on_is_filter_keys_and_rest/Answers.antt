use Rattle.sql_meaning.proofs.OnLemmas.{on_splits}
use Rattle.sql_meaning.proofs.laws.on_is_filter_keys_and_rest.Goals as goal

pub returns : goal.returns
returns c = on_splits
