use Rattle.std.proofs.Common.{◌≡◌, drop}
use Rattle.std.specs.List.{list_all}
use Rattle.plan_tree.specs.Split.{is_plain_expr}
use Rattle.sql_plan.proofs.sources.are_plain.Given as goal

abbrev pub invariant-loop-expr : goal.invariant-loop-expr
invariant-loop-expr l = list_all is_plain_expr (drop l.expr-index l.on) ≡ list_all is_plain_expr l.on
