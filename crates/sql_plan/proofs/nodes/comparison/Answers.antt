use Rattle.sql_expr.specs.declared.tree.Expr.TheVariants as tree
use Rattle.sql_plan.proofs.Going.{through_both}
use Rattle.sql_plan.proofs.nodes.comparison.Goals as goal

pub returns : goal.returns
returns c =
    through_both (tree.Compare c.args.sign) c.args.left c.boxed.result c.args.right c.boxed-2.result c.both.result c.comparison_of.result
    c.boxed.ensures c.boxed-2.ensures c.both.ensures c.comparison_of.ensures
