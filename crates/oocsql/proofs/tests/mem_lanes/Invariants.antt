use Rattle.std.proofs.Common.{◌≡◌, length}
use Rattle.oocsql.proofs.tests.mem_lanes.Given as goal

abbrev pub invariant-loop : goal.invariant-loop
invariant-loop l = length l.lanes.items ≡ l.counter
