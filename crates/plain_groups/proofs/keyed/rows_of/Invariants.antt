use Rattle.std.proofs.Common.{◌≡◌, map, take}
use Rattle.sql_meaning.specs.Groups.{rows_of}
use Rattle.plain_groups.specs.Keys.{one_in}
use Rattle.plain_groups.proofs.keyed.rows_of.Given as goal

abbrev pub invariant-loop-one : goal.invariant-loop-one
invariant-loop-one l = l.rows.items ≡ rows_of l.key (map one_in (take l.one-index l.keyed))
