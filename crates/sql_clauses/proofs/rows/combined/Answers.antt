use Rattle.sql_clauses.specs.Rows.{combined}
use Rattle.sql_clauses.proofs.Pairing.{through_pair}
use Rattle.sql_clauses.proofs.rows.combined.Goals as goal

pub returns : goal.returns
returns c =
    through_pair (combined c.args.kind c.args.all c.args.place) c.args.left c.args.right c.both.result c.combined_pair.result c.both.ensures c.combined_pair.ensures
