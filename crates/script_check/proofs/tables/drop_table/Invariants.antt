use Rattle.std.proofs.Common.{◌≡◌, ◌≤◌, ◌-◌, length}
use Rattle.script_check.proofs.Dropping.{AreOthers}
use Rattle.script_check.proofs.tables.drop_table.Given as goal

abbrev pub invariant-loop-at : goal.invariant-loop-at
invariant-loop-at l = record {
  same : l.tables ≡ l.fn.tables;
  others : AreOthers l.at l.tables.items l.name;
}

abbrev pub decreases-loop-at : goal.decreases-loop-at
decreases-loop-at l = length l.tables.items - l.at
