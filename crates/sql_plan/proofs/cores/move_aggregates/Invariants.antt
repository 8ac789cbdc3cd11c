use Rattle.std.proofs.Common.{◌≡◌, ◌++◌, drop, map}
use Rattle.sql_plan.specs.Cores.{aggregate_by}
use Rattle.sql_plan.proofs.cores.move_aggregates.Given as goal

abbrev pub invariant-loop-aggregate : goal.invariant-loop-aggregate
invariant-loop-aggregate l = l.moved ++ map (aggregate_by l.places) (drop l.aggregate-index l.aggregates) ≡ map (aggregate_by l.places) l.aggregates
