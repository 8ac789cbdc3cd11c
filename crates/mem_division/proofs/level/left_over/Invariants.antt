use Rattle.std.proofs.Common.{◌≡◌, ◌+◌, drop}
use Rattle.mem_division.specs.Level.{sum_at}
use Rattle.mem_division.proofs.level.left_over.Given as goal

abbrev pub invariant-loop-i : goal.invariant-loop-i
invariant-loop-i l = l.total + sum_at l.level (drop l.i l.wants) ≡ l.left + sum_at l.level l.wants
