use Rattle.std.proofs.Common.{ℕ, ◌≤◌, drop}
use Rattle.mem_division.specs.Level.{AllBelow}
use Rattle.mem_division.proofs.level.greatest_most.Given as goal

abbrev pub invariant-loop-i : goal.invariant-loop-i
invariant-loop-i l = (n : ℕ) → l.greatest ≤ n → AllBelow n (drop l.i l.wants) → AllBelow n l.wants
