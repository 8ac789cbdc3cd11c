use Rattle.std.proofs.Common.{◌≡◌, ◌+◌, ◌++◌, drop}
use Rattle.sql_plan.specs.Chosen.{columns_chosen}
use Rattle.sql_plan.specs.Stages.{free_stages}
use Rattle.sql_plan.proofs.free.free_stages.Given as goal

abbrev pub invariant-loop-one : goal.invariant-loop-one
invariant-loop-one l = record {
  goes_on : l.stages ++ free_stages l.first l.sources l.low l.at (drop l.one-index l.chosen) l.conjuncts ≡ free_stages l.first l.sources 0 0 l.chosen l.conjuncts;
  columns : l.at + columns_chosen (drop l.one-index l.chosen) ≡ columns_chosen l.chosen;
}
