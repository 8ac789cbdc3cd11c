use Rattle.bound_laws.proofs.RowLemmas.{rows-meet, rows-ranged}
use Rattle.bound_laws.proofs.laws.rows_have_their_columns_types.Goals as goal

pub returns : goal.returns
returns c = record { form = rows-meet; range = rows-ranged }
