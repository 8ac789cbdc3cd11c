use Rattle.std.proofs.Common.{◌≡◌, ◌++◌, drop}
use Rattle.sql_clauses.specs.Sources.{scope_columns}
use Rattle.sql_clauses.proofs.sources.with_columns.Given as goal

abbrev pub invariant-loop-column : goal.invariant-loop-column
invariant-loop-column l = l.all ++ scope_columns l.source (drop l.column-index l.columns) ≡ l.fn.before ++ scope_columns l.source l.columns
