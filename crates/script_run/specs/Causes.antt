-- When the statements of a script end by what is outside.
use Rattle.std.specs.Prelude.{ℕ, Bool, IsTrue, ⊤}
use Rattle.ooc_io.specs.Counts.{Rose}
use Rattle.run_settings.specs.declared.status.Status.{Status}
use Rattle.run_settings.specs.declared.status.Status.TheVariants.{Done, Refused, Usage, ReadFault, WriteFault, SpillFault, SpillDamaged, OutOfMemory}

-- A read fault comes only where the count of the files' faults rose, from f to g, a spill fault only where that of the lane
-- rose, from k to m, and a damaged page only where the pool doesn't tell what its pages hold. Words were read before.
abbrev pub HasRunCause : Bool → ℕ → ℕ → ℕ → ℕ → Status → Type 0
HasRunCause told f g k m Done = ⊤
HasRunCause told f g k m (Refused r) = ⊤
HasRunCause told f g k m ReadFault = Rose f g
HasRunCause told f g k m SpillFault = Rose k m
HasRunCause told f g k m (SpillDamaged damage) = IsTrue told → ⊥
HasRunCause told f g k m WriteFault = ⊤
HasRunCause told f g k m OutOfMemory = ⊤
HasRunCause told f g k m (Usage fault) = ⊥
