use Rattle.sql_meaning.proofs.TablesLemmas.{rows-same, select-same}
use Rattle.sql_meaning.proofs.laws.tables_come_in_any_order.Goals as goal

pub returns : goal.returns
returns c = record { rows = rows-same; select = select-same }
