use Rattle.plan_tree.specs.Split.{is_plain_expr}
use Rattle.sql_plan.proofs.SplitLemmas.{parts_done}
use Rattle.sql_plan.proofs.split.plain_parts.Goals as goal

pub returns : goal.returns
returns c =
    parts_done c.loop-expr.own-1 c.args.at c.args.width c.loop-expr.parts c.no_parts-parts.result is_plain_expr c.args.on.now c.loop-expr.expr-index c.loop-expr-test.false
    c.loop-expr.invariant.own c.no_parts-parts.ensures c.loop-expr.invariant.so_far
