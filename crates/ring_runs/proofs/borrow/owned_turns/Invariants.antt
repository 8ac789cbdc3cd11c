use Rattle.std.proofs.Common.{◌≡◌, length}
use Rattle.ring_runs.specs.Owners.{AreHome}
use Rattle.ring_runs.proofs.borrow.owned_turns.Given as goal

abbrev pub invariant-loop-frame : goal.invariant-loop-frame
invariant-loop-frame l = (length l.turns.items ≡ l.frame) × AreHome l.turns.items
