use Rattle.std.proofs.Common.{◌≡◌, ◌+◌}
use Rattle.ooc_bags.proofs.tests.count_letters.Given as goal

abbrev pub invariant-loop-letter : goal.invariant-loop-letter
invariant-loop-letter g l = l.steps ≡ l.fn.steps + l._letter-index
