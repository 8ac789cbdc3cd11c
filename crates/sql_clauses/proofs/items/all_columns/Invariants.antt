use Rattle.std.proofs.Common.{drop}
use Rattle.sql_scope.specs.Scopes.{spots}
use Rattle.sql_scope.proofs.Each.{SoFar}
use Rattle.sql_clauses.specs.Items.{column_item, star_item, is_any}
use Rattle.sql_clauses.proofs.items.all_columns.Given as goal

abbrev pub invariant-loop-at : goal.invariant-loop-at
invariant-loop-at l =
    SoFar (column_item l.scope l.grouped l.place) (star_item l.scope l.grouped l.place l.fn.outputs) l.shown (spots is_any l.at (drop l.at l.columns))
