use Rattle.std.proofs.Common.{ap}
use Rattle.sql_scope.proofs.Going.{same_answer}
use Rattle.sql_clauses.specs.Tables.{new_name}
use Rattle.sql_clauses.proofs.tables.new_table.Goals as goal

pub returns : goal.returns
returns c =
    same_answer _ _ c.new_name.result (ap (new_name c.args.scope.now c.args.name.start) c.in_ok-text.ensures) c.new_name.ensures
