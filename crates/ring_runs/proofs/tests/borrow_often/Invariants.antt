use Rattle.ring_runs.specs.Owners.{IsIdle}
use Rattle.ring_runs.proofs.tests.borrow_often.Given as goal

abbrev pub invariant-loop : goal.invariant-loop
invariant-loop l = IsIdle l.ring l.place.seat
