use Rattle.std.proofs.Common.{◌≡◌, ◌≤◌, length, drop}
use Rattle.ooc_bags.specs.Firsts.{firsts_by}
use Rattle.ooc_bags.specs.Rows.{value_eq}
use Rattle.plain_groups.proofs.arguments.distinct_values.Given as goal

abbrev pub invariant-loop-at : goal.invariant-loop-at
invariant-loop-at l = record {
  is : l.distinct.items ≡ firsts_by value_eq (drop l.at l.values);
  within : l.at ≤ length l.values;
}

abbrev pub decreases-loop-at : goal.decreases-loop-at
decreases-loop-at l = l.at
