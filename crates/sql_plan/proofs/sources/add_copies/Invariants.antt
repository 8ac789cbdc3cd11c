use Rattle.std.proofs.Common.{◌≡◌, ◌++◌, drop}
use Rattle.sql_plan.proofs.sources.add_copies.Given as goal

abbrev pub invariant-loop-expr : goal.invariant-loop-expr
invariant-loop-expr l = l.pool ++ drop l.expr-index l.on ≡ l.fn.pool ++ l.on
