use Rattle.sql_clauses.proofs.MakesLaws.{through_pair}
use Rattle.sql_clauses.proofs.grouping.bounds.Goals as goal

pub returns : goal.returns
returns c =
    through_pair c.args.low c.boxed.result c.args.high c.boxed-2.result c.both.result c.boxed.ensures c.boxed-2.ensures c.both.ensures
