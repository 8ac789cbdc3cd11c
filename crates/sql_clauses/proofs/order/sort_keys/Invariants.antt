use Rattle.std.proofs.Common.{drop}
use Rattle.sql_scope.proofs.Each.{SoFar}
use Rattle.sql_clauses.specs.Order.{key_behind, sort_keys}
use Rattle.sql_clauses.proofs.order.sort_keys.Given as goal

abbrev pub invariant-loop-key : goal.invariant-loop-key
invariant-loop-key l = SoFar (key_behind l.scope l.sources l.columns l.plain) (sort_keys l.scope l.sources l.columns l.plain l.order) l.keys (drop l.key-index l.order)
