use Rattle.sql_clauses.specs.Conditions.{joined}
use Rattle.sql_clauses.proofs.Pairing.{through_pair}
use Rattle.sql_clauses.proofs.conditions.joined.Goals as goal

pub returns : goal.returns
returns c =
    through_pair (joined c.args.place) c.args.filter c.args.operand c.both.result c.joined_pair.result c.both.ensures c.joined_pair.ensures
