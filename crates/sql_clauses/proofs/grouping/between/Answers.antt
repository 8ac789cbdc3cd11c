use Rattle.sql_expr.specs.declared.tree.Expr.TheVariants as typed
use Rattle.sql_clauses.proofs.MakesLaws.{through_three}
use Rattle.sql_clauses.proofs.grouping.between.Goals as goal

pub returns : goal.returns
returns c =
    through_three (λ a b d. typed.Between a b d c.args.negated) c.args.of c.boxed.result c.args.low c.args.high c.bounds.result c.both.result c.between_of.result
    c.boxed.ensures c.bounds.ensures c.both.ensures c.between_of.ensures
