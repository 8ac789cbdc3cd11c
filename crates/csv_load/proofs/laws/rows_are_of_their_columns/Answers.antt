use Rattle.csv_load.proofs.RowsOf.{row-is-of}
use Rattle.csv_load.proofs.laws.rows_are_of_their_columns.Goals as goal

pub returns : goal.returns
returns c = λ r bytes row typed e. row-is-of r bytes row typed e
