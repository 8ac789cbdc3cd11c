use Rattle.std.proofs.Common.{◌≡◌, ◌+◌, length}
use Rattle.engine_runs.proofs.runs.lanes.Given as goal

abbrev pub invariant-loop : goal.invariant-loop
invariant-loop l = length l.lanes.items ≡ l.counter + 1
