use Rattle.std.proofs.Common.{◌≡◌, take}
use Rattle.std.specs.Prelude.{flat_map}
use Rattle.sql_meaning.specs.Statements.{times_of}
use Rattle.plain_rows.specs.Places.{as_often}
use Rattle.plain_rows.proofs.sets.combine_each.Given as goal

abbrev pub invariant-loop-row : goal.invariant-loop-row
invariant-loop-row l = l.rows.items ≡ flat_map (as_often (times_of l.kind l.all) l.left l.right) (take l.row-index l.distinct)
