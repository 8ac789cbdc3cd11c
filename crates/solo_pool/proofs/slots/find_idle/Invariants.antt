use Rattle.std.proofs.Common.{◌<◌, ◌≤◌, slice_index, ℕ}
use Rattle.solo_pool.proofs.slots.find_idle.Given as goal

abbrev pub invariant-loop-i : goal.invariant-loop-i
invariant-loop-i l = (k : ℕ) → l.hand-2 ≤ k → k < l.i → 0 < slice_index l.uses k

abbrev pub invariant-loop-i-2 : goal.invariant-loop-i-2
invariant-loop-i-2 l = (k : ℕ) → k < l.i → 0 < slice_index l.uses k
