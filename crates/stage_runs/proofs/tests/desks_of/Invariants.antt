use Rattle.std.proofs.Common.{◌≡◌, length}
use Rattle.stage_runs.proofs.tests.desks_of.Given as goal

abbrev pub invariant-loop : goal.invariant-loop
invariant-loop g l = length l.desks.items ≡ l.counter
