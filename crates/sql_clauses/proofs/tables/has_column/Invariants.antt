use Rattle.std.proofs.Common.{◌≡◌, drop}
use Rattle.sql_clauses.specs.Tables.{has_column}
use Rattle.sql_clauses.proofs.tables.has_column.Given as goal

abbrev pub invariant-loop-column : goal.invariant-loop-column
invariant-loop-column l = has_column l.name (drop l.column-index l.columns) ≡ has_column l.name l.columns
