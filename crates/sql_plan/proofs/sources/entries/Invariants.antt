use Rattle.std.proofs.Common.{◌≡◌, ◌+◌, ◌++◌, drop, map}
use Rattle.plan_tree.specs.FreeFrom.{entries_from}
use Rattle.plan_tree.specs.Plannable.{columns_of_sources}
use Rattle.sql_plan.specs.Counted.{counts_in}
use Rattle.sql_plan.specs.Sources.{bound_table}
use Rattle.sql_plan.proofs.sources.entries.Given as goal

abbrev pub invariant-loop-place : goal.invariant-loop-place
invariant-loop-place l = record {
  goes_on : l.entries ++ entries_from l.place l.start (map (bound_table (counts_in l.counts)) (drop l.place l.sources)) ≡ entries_from 0 0 (map (bound_table (counts_in l.counts)) l.sources);
  columns : l.start + columns_of_sources (drop l.place l.sources) ≡ columns_of_sources l.sources;
}
