use Rattle.std.proofs.Common.{[], drop}
use Rattle.std.specs.Prelude.{Ok}
use Rattle.sql_scope.specs.Answer.{each}
use Rattle.sql_scope.proofs.Each.{SoFar}
use Rattle.sql_clauses.specs.Tables.{column_behind}
use Rattle.sql_clauses.proofs.tables.all_columns.Given as goal

abbrev pub invariant-loop-column : goal.invariant-loop-column
invariant-loop-column l = SoFar (column_behind l.scope) (each (column_behind l.scope) (Ok []) l.written) l.columns (drop l.column-index l.written)
