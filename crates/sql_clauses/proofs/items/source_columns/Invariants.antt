use Rattle.std.proofs.Common.{drop}
use Rattle.sql_scope.specs.Scopes.{spots}
use Rattle.sql_scope.proofs.Each.{SoFar}
use Rattle.sql_clauses.specs.Items.{column_item, source_columns, is_of_source}
use Rattle.sql_clauses.proofs.items.source_columns.Given as goal

abbrev pub invariant-loop-at : goal.invariant-loop-at
invariant-loop-at l =
    SoFar (column_item l.scope l.grouped l.place) (source_columns l.scope l.grouped l.place l.source l.fn.outputs) l.shown
    (spots (is_of_source l.source) l.at (drop l.at l.columns))
