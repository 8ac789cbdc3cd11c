use Rattle.std.proofs.Common.{◌≡◌, suc, ◌-◌, ◌<◌, ◌≤◌}
use Rattle.std.specs.Prelude.{◌⊎◌}
use Rattle.mem_division.specs.Level.{sum_at, AllBelow}
use Rattle.mem_division.proofs.level.level_of.Given as goal

abbrev pub invariant-loop-low : goal.invariant-loop-low
invariant-loop-low l = record {
  reached : sum_at l.low l.wants ≤ l.total;
  top : (l.total < sum_at (suc l.high) l.wants) ⊎ AllBelow l.high l.wants;
  order : l.low ≤ l.high;
}

abbrev pub decreases-loop-low : goal.decreases-loop-low
decreases-loop-low l = l.high - l.low
