use Rattle.std.proofs.Common.{◌≡◌, ◌≤◌, take}
use Rattle.sql_meaning.specs.Aggregates.{state_of}
use Rattle.plain_groups.proofs.folds.count_present.Given as goal

abbrev pub invariant-loop-value : goal.invariant-loop-value
invariant-loop-value l = record {
  is : l.count ≡ (state_of (take l.value-index l.values)).present;
  within : l.count ≤ l.value-index;
}
