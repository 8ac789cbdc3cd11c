use Rattle.std.proofs.Common.{◌≡◌, map, take}
use Rattle.sql_meaning.specs.Groups.{keyed}
use Rattle.sql_meaning.specs.Statements.{row_value_of}
use Rattle.plain_groups.specs.Keys.{keyed_in}
use Rattle.plain_groups.proofs.keyed.key_rows.Given as goal

abbrev pub invariant-loop-row : goal.invariant-loop-row
invariant-loop-row l = keyed_in l.found ≡ keyed (map row_value_of l.keys) (take l.row-index l.rows)
