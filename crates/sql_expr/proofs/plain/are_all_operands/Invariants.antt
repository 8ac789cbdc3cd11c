use Rattle.std.proofs.Common.{◌≡◌, drop, map}
use Rattle.sql_expr.specs.Plain.{plainness, all_operands}
use Rattle.sql_expr.proofs.plain.are_all_operands.Given as goal

abbrev pub invariant-loop-expr : goal.invariant-loop-expr
invariant-loop-expr l = all_operands (map plainness (drop l.expr-index l.list)) ≡ all_operands (map plainness l.list)
