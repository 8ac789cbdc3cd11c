use Rattle.std.proofs.Common.{◌≡◌, ◌≢◌, drop, map, Ok, true, false}
use Rattle.std.specs.Prelude.{max, ◌+◌, ◌*◌}
use Rattle.sql_expr.specs.declared.tree.Expr.{size-Expr}
use denote.Param.Weighed.{most}
use Rattle.ooc_types.specs.declared.truth.Truth.TheVariants.{Yes, No}
use Rattle.ooc_types.specs.declared.value.Value.TheVariants.{Truth}
use Rattle.sql_expr.specs.declared.tree.CompareSign.TheVariants.{Equal}
use Rattle.sql_expr.specs.Logic.{truth_value}
use Rattle.sql_expr.specs.Meaning.{value_of, every_from, either_from, comparison}
use Rattle.sql_expr.specs.Operands.{operand_value}
use Rattle.sql_expr.specs.Ready.{AreConditions, AreComparable}
use Rattle.sql_expr.proofs.truth.+truth.Given as goal

abbrev pub invariant-every-loop-operand : goal.invariant-every-loop-operand
invariant-every-loop-operand l = record {
  ready : AreConditions l.row (drop l.operand-index l.list);
  value : every_from (Ok (truth_value l.all)) (map (value_of l.row) (drop l.operand-index l.list)) ≡ every_from (Ok (Truth true)) (map (value_of l.row) l.list);
  going : l.all ≢ No;
}

abbrev pub invariant-either-loop-operand : goal.invariant-either-loop-operand
invariant-either-loop-operand l = record {
  ready : AreConditions l.row (drop l.operand-index l.list);
  value : either_from (Ok (truth_value l.any)) (map (value_of l.row) (drop l.operand-index l.list)) ≡ either_from (Ok (Truth false)) (map (value_of l.row) l.list);
  going : l.any ≢ Yes;
}

abbrev pub invariant-among-loop-constant : goal.invariant-among-loop-constant
invariant-among-loop-constant l = record {
  ready : AreComparable l.row l.kind (drop l.constant-index l.list);
  value : either_from (Ok (truth_value l.found)) (map (comparison Equal (Ok (operand_value l.of))) (map (value_of l.row) (drop l.constant-index l.list)))
      ≡ either_from (Ok (Truth false)) (map (comparison Equal (Ok (operand_value l.of))) (map (value_of l.row) l.list));
  going : l.found ≢ Yes;
}

abbrev pub decreases-truth_of : goal.decreases-truth_of
decreases-truth_of l = 8 * size-Expr l.expr.now

abbrev pub decreases-null_test : goal.decreases-null_test
decreases-null_test l = 8 * size-Expr l.of.now + 1

abbrev pub decreases-every : goal.decreases-every
decreases-every l = 8 * goal.size-every l + 1

abbrev pub decreases-either : goal.decreases-either
decreases-either l = 8 * goal.size-either l + 1

abbrev pub decreases-compare_conditions : goal.decreases-compare_conditions
decreases-compare_conditions l = 8 * max (size-Expr l.left.now) (size-Expr l.right.now) + 1

abbrev pub decreases-compare : goal.decreases-compare
decreases-compare l = 8 * max (size-Expr l.left.now) (size-Expr l.right.now) + 2

abbrev pub decreases-between : goal.decreases-between
decreases-between l = 8 * max (size-Expr l.of.now) (max (size-Expr l.low.now) (size-Expr l.high.now)) + 3

abbrev pub decreases-one_of : goal.decreases-one_of
decreases-one_of l = 8 * max (size-Expr l.of.now) (most size-Expr l.list.now) + 3

abbrev pub decreases-operand_of : goal.decreases-operand_of
decreases-operand_of l = 8 * size-Expr l.expr.now + 1

abbrev pub decreases-compare_operand : goal.decreases-compare_operand
decreases-compare_operand l = 8 * size-Expr l.right.now + 1

abbrev pub decreases-among : goal.decreases-among
decreases-among l = 8 * most size-Expr l.list.now + 2

abbrev pub decreases-within : goal.decreases-within
decreases-within l = 8 * max (size-Expr l.low.now) (size-Expr l.high.now) + 2
