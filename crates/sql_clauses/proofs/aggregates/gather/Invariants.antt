use Rattle.std.proofs.Common.{◌≡◌, length, reverse}
use Rattle.sql_clauses.specs.Aggregates.{gathered, gathered_from}
use Rattle.sql_clauses.proofs.aggregates.gather.Given as goal

abbrev pub invariant-loop-call : goal.invariant-loop-call
invariant-loop-call l = gathered_from l.all (reverse l.rest) ≡ gathered l.fn.calls

abbrev pub decreases-loop-call : goal.decreases-loop-call
decreases-loop-call l = length l.rest
