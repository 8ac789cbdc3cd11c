use Rattle.std.proofs.Common.{◌≡◌, drop}
use Rattle.sql_clauses.specs.Items.{is_source}
use Rattle.sql_clauses.proofs.items.is_source.Given as goal

abbrev pub invariant-loop-column : goal.invariant-loop-column
invariant-loop-column l = is_source l.source (drop l.column-index l.columns) ≡ is_source l.source l.columns
