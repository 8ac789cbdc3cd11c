use Rattle.std.proofs.Common.{◌≡◌, ◌+◌, length}
use Rattle.solo_pool_runs.proofs.tests.lanes.lanes.Given as goal

abbrev pub invariant-loop : goal.invariant-loop
invariant-loop l = length l.lanes.items ≡ l.counter + 1
