use Rattle.std.proofs.Common.{◌≡◌, drop}
use Rattle.sql_scope.specs.Scopes.{columns_of}
use Rattle.sql_scope.proofs.scope.columns_of.Given as goal

abbrev pub invariant-loop-table : goal.invariant-loop-table
invariant-loop-table l = columns_of (drop l.table-index l.tables) l.name ≡ columns_of l.tables l.name
