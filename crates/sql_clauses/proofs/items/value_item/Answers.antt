use Rattle.sql_clauses.specs.Items.{value_item}
use Rattle.sql_clauses.proofs.Pairing.{through_pair}
use Rattle.sql_clauses.proofs.items.value_item.Goals as goal

pub returns : goal.returns
returns c =
    through_pair (value_item c.args.scope.now c.args.grouped c.args.alias) c.args.outputs c.args.part c.both.result c.value_pair.result c.both.ensures c.value_pair.ensures
