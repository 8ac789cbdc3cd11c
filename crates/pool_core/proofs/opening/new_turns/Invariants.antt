use Rattle.std.proofs.Common.{◌≡◌, ℕ, ◌<◌, length}
use Rattle.pool_core.specs.State.{OnTurn}
use Rattle.pool_core.specs.Run.{IsNewTurn}
use Rattle.pool_core.proofs.opening.new_turns.Given as goal

abbrev pub invariant-loop-frame : goal.invariant-loop-frame
invariant-loop-frame l = record {
  count : length l.turns.items ≡ l.frame;
  each : (frame : ℕ) → frame < l.frame → OnTurn l.turns.items frame (λ t. IsNewTurn l.page frame t);
}
