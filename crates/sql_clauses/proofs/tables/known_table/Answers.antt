use Rattle.std.proofs.Common.{ap}
use Rattle.sql_scope.proofs.Going.{same_answer}
use Rattle.sql_clauses.specs.Tables.{known_name}
use Rattle.sql_clauses.proofs.tables.known_table.Goals as goal

pub returns : goal.returns
returns c =
    same_answer _ _ c.known_name.result (ap (known_name c.args.scope.now c.args.name.start) c.in_ok-text.ensures) c.known_name.ensures
