use Rattle.std.proofs.Common.{◌≡◌, drop}
use Rattle.sql_clauses.specs.Aggregates.{has_other}
use Rattle.sql_clauses.proofs.aggregates.has_other.Given as goal

abbrev pub invariant-loop-call : goal.invariant-loop-call
invariant-loop-call l = has_other l.first (drop l.call-index l.calls) ≡ has_other l.first l.calls
