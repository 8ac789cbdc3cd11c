use Rattle.sql_clauses.specs.Cores.{with_having}
use Rattle.sql_clauses.proofs.Pairing.{through_pair}
use Rattle.sql_clauses.proofs.cores.with_having.Goals as goal

pub returns : goal.returns
returns c =
    through_pair (with_having c.args.place) c.args.outputs c.args.part c.both.result c.having_pair.result c.both.ensures c.having_pair.ensures
