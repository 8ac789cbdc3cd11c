use Rattle.std.proofs.Common.{◌≡◌, length}
use Rattle.stage_runs.proofs.tests.numbers_to.Given as goal

abbrev pub invariant-loop-number : goal.invariant-loop-number
invariant-loop-number l = length l.numbers.items ≡ l.number
