use Rattle.sql_expr.specs.declared.tree.Expr.TheVariants as tree
use Rattle.sql_plan.proofs.Going.{itself, through_both}
use Rattle.sql_plan.proofs.nodes.between.Goals as goal

pub returns : goal.returns
returns c =
    through_both (λ of bounds. tree.Between of bounds.0 bounds.1 c.args.negated) c.args.of c.boxed.result c.args.bounds c.args.bounds c.both.result c.between_of.result
    c.boxed.ensures (itself c.args.bounds) c.both.ensures c.between_of.ensures
