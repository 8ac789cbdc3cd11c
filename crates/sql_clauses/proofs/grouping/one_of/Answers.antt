use Rattle.sql_expr.specs.declared.tree.Expr.TheVariants as typed
use Rattle.sql_clauses.proofs.MakesLaws.{itself, through_both}
use Rattle.sql_clauses.proofs.grouping.one_of.Goals as goal

pub returns : goal.returns
returns c =
    through_both (λ a b. typed.OneOf a b c.args.negated) c.args.of c.boxed.result c.args.list c.args.list c.both.result c.one_of_parts.result
    c.boxed.ensures (itself c.args.list) c.both.ensures c.one_of_parts.ensures
