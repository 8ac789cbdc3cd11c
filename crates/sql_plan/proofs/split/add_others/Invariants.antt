use Rattle.std.proofs.Common.{◌≡◌, ◌++◌, drop}
use Rattle.std.specs.Prelude.{filter, not}
use Rattle.plan_tree.specs.Split.{is_plain_expr}
use Rattle.sql_plan.proofs.split.add_others.Given as goal

abbrev pub invariant-loop-expr : goal.invariant-loop-expr
invariant-loop-expr l = l.rest ++ filter (λ expr. not (is_plain_expr expr)) (drop l.expr-index l.on) ≡ l.fn.rest ++ filter (λ expr. not (is_plain_expr expr)) l.on
