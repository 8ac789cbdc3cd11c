use Rattle.std.proofs.Common.{◌≡◌, map, take}
use Rattle.sql_meaning.specs.Ordered.{value_at}
use Rattle.plain_cores.proofs.known.first_values.Given as goal

abbrev pub invariant-loop-row : goal.invariant-loop-row
invariant-loop-row l = l.values.items ≡ map (value_at 0) (take l.row-index l.rows)
