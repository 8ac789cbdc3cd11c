use Rattle.sql_expr.specs.declared.tree.Expr.TheVariants as typed
use Rattle.sql_clauses.proofs.MakesLaws.{itself, through_both}
use Rattle.sql_clauses.proofs.grouping.chain.Goals as goal

pub returns : goal.returns
returns c =
    through_both typed.Chain c.args.first c.boxed.result c.args.links c.args.links c.both.result c.chain_of.result
    c.boxed.ensures (itself c.args.links) c.both.ensures c.chain_of.ensures
