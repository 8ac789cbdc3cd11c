use Rattle.std.proofs.Common.{◌≡◌, ◌++◌, map, take}
use Rattle.std.specs.Prelude.{flat_map}
use Rattle.sql_meaning.specs.Groups.{arguments}
use Rattle.sql_meaning.specs.Statements.{aggregation_of}
use Rattle.plain_groups.proofs.noted.note_all_arguments.Given as goal

abbrev pub invariant-loop-aggregate : goal.invariant-loop-aggregate
invariant-loop-aggregate l = l.into.items ≡ l.fn.into.items ++ flat_map (λ aggregate. (arguments aggregate.of l.rows).faults) (map aggregation_of (take l.aggregate-index l.aggregates))
