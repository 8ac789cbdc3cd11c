use Rattle.std.proofs.Common.{◌≡◌, map, take}
use Rattle.sql_meaning.specs.Groups.{values}
use Rattle.sql_meaning.specs.Select.{item_found}
use Rattle.sql_meaning.specs.Statements.{row_value_of}
use Rattle.sql_meaning.specs.Found.{collected}
use Rattle.plain_rows.specs.Answers.{found_in}
use Rattle.plain_rows.proofs.items.project.Given as goal

abbrev pub invariant-loop-row : goal.invariant-loop-row
invariant-loop-row l = found_in l.answer ≡ collected (λ row. item_found (values (map row_value_of l.items) row)) (take l.row-index l.rows)
