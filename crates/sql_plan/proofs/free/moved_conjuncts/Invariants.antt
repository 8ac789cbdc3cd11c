use Rattle.std.proofs.Common.{◌≡◌, ◌++◌, drop, map}
use Rattle.std.specs.Prelude.{filter}
use Rattle.sql_plan.specs.Places.{moved_by}
use Rattle.sql_plan.specs.Stages.{is_named}
use Rattle.sql_plan.proofs.free.moved_conjuncts.Given as goal

abbrev pub invariant-loop-expr : goal.invariant-loop-expr
invariant-loop-expr l = l.moved ++ map (moved_by l.places) (filter (is_named l.named) (drop l.expr-index l.pool)) ≡ map (moved_by l.places) (filter (is_named l.named) l.pool)
