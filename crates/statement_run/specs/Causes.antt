-- When a statement is refused by what is outside.
use Rattle.std.specs.Prelude.{ℕ, ◌≡◌, Bool, IsTrue, ⊤}
use Rattle.ooc_io.specs.Counts.{Rose}
use Rattle.run_settings.specs.declared.status.Status.{Status}
use Rattle.run_settings.specs.declared.status.Status.TheVariants.{Done, Refused, Usage, ReadFault, WriteFault, SpillFault, SpillDamaged, OutOfMemory}

-- A read fault comes only where the count of the files' faults rose, from f to g, a spill fault only where that of the lane
-- rose, from k to m, and a damaged page only where the pool doesn't tell what its pages hold. A statement is neither done nor
-- refused for words or for the output.
abbrev pub HasStatementCause : Bool → ℕ → ℕ → ℕ → ℕ → Status → Type 0
HasStatementCause told f g k m (Refused r) = ⊤
HasStatementCause told f g k m ReadFault = Rose f g
HasStatementCause told f g k m SpillFault = Rose k m
HasStatementCause told f g k m (SpillDamaged damage) = IsTrue told → ⊥
HasStatementCause told f g k m OutOfMemory = ⊤
HasStatementCause told f g k m Done = ⊥
HasStatementCause told f g k m (Usage fault) = ⊥
HasStatementCause told f g k m WriteFault = ⊥

-- the same of a statement that reads no file
abbrev pub HasTableCause : Bool → ℕ → ℕ → Status → Type 0
HasTableCause told k m (Refused r) = ⊤
HasTableCause told k m ReadFault = ⊥
HasTableCause told k m SpillFault = Rose k m
HasTableCause told k m (SpillDamaged damage) = IsTrue told → ⊥
HasTableCause told k m OutOfMemory = ⊤
HasTableCause told k m Done = ⊥
HasTableCause told k m (Usage fault) = ⊥
HasTableCause told k m WriteFault = ⊥

-- and of one that calls neither files nor a pool
abbrev pub IsWantOfMemory : Status → Type 0
IsWantOfMemory status = status ≡ OutOfMemory
