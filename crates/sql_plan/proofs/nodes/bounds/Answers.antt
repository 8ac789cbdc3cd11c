use Rattle.sql_plan.proofs.Going.{through_pair}
use Rattle.sql_plan.proofs.nodes.bounds.Goals as goal

pub returns : goal.returns
returns c =
    through_pair c.args.low c.boxed.result c.args.high c.boxed-2.result c.both.result c.boxed.ensures c.boxed-2.ensures c.both.ensures
