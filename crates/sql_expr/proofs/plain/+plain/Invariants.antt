use Rattle.std.proofs.Common.{◌≡◌, drop, map}
use Rattle.sql_expr.specs.Plain.{plainness, all_conditions}
use Rattle.sql_expr.proofs.plain.+plain.Given as goal

abbrev pub invariant-are_all_plain-loop-expr : goal.invariant-are_all_plain-loop-expr
invariant-are_all_plain-loop-expr l = all_conditions (map plainness (drop l.expr-index l.list)) ≡ all_conditions (map plainness l.list)
