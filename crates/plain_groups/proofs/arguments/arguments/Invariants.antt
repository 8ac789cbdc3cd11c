use Rattle.std.proofs.Common.{◌≡◌, take}
use Rattle.std.specs.Option.{option_map}
use Rattle.sql_meaning.specs.Groups.{arguments}
use Rattle.sql_meaning.specs.Statements.{row_value_of}
use Rattle.plain_groups.specs.Arguments.{found_values}
use Rattle.plain_groups.proofs.arguments.arguments.Given as goal

abbrev pub invariant-loop-row : goal.invariant-loop-row
invariant-loop-row l = found_values l.found ≡ arguments (option_map row_value_of l.of) (take l.row-index l.rows)
