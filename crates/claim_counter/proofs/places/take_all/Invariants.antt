use Rattle.std.proofs.Common.{◌≡◌, ℕ, ◌-◌, ◌<◌, ◌≤◌, true, false, take}
use Rattle.std.specs.Prelude.{vec_capacity, slice_index_or}
use Rattle.std.specs.Slots.{slots_len, slots_items, slots_filled}
use Rattle.claim_counter.proofs.places.take_all.Given as goal

abbrev pub invariant-loop-i : goal.invariant-loop-i
invariant-loop-i g l =
    (slots_items l.closed.slots ≡ slots_items l.initial.closed.slots)
    × (slots_len l.closed.slots ≡ slots_len l.initial.closed.slots)
    × (vec_capacity l.into ≡ vec_capacity l.initial.into)
    × (l.i ≤ slots_len l.closed.slots)
    × (l.into.items ≡ take l.i (slots_items l.initial.closed.slots))
    × ((k : ℕ) → k < l.i → slice_index_or (slots_filled l.closed.slots) k false ≡ false)
    × ((k : ℕ) → l.i ≤ k → k < slots_len l.closed.slots → slice_index_or (slots_filled l.closed.slots) k false ≡ true)

abbrev pub decreases-loop-i : goal.decreases-loop-i
decreases-loop-i g l = slots_len l.closed.slots - l.i
