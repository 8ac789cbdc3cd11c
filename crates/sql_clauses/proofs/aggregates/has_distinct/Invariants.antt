use Rattle.std.proofs.Common.{◌≡◌, drop}
use Rattle.sql_clauses.specs.Aggregates.{has_distinct}
use Rattle.sql_clauses.proofs.aggregates.has_distinct.Given as goal

abbrev pub invariant-loop-call : goal.invariant-loop-call
invariant-loop-call l = has_distinct (drop l.call-index l.calls) ≡ has_distinct l.calls
