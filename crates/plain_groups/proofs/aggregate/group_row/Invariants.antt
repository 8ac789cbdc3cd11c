use Rattle.std.proofs.Common.{◌≡◌, ◌++◌, map, take}
use Rattle.sql_meaning.specs.Groups.{aggregated}
use Rattle.sql_meaning.specs.Statements.{aggregation_of}
use Rattle.plain_groups.proofs.aggregate.group_row.Given as goal

abbrev pub invariant-loop-aggregate : goal.invariant-loop-aggregate
invariant-loop-aggregate l = l.row ≡ l.key ++ map (aggregated l.rows) (map aggregation_of (take l.aggregate-index l.aggregates))
