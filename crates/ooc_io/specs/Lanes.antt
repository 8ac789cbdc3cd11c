-- The counts of a lane after a write.
use Rattle.std.specs.Prelude.{ℕ, ◌≤◌, ◌≡◌, Bool, true, false, Result, Ok, Err}
use Rattle.ooc_io.specs.Counts.{raised, Rose}
use Rattle.ooc_io.specs.declared.fault.LaneFault.{LaneFault}
use Rattle.ooc_io.specs.declared.fault.LaneFault.TheVariants.{Failed, OutOfMemory}

-- a failure raises the count of faults, and want of memory needn't
abbrev pub HasLaneCause : {X : Type 0} → ℕ → ℕ → Result X LaneFault → Type 0
HasLaneCause before now (Ok x) = before ≤ now
HasLaneCause before now (Err Failed) = (before ≤ now) × Rose before now
HasLaneCause before now (Err OutOfMemory) = before ≤ now

-- the count of successful writes
abbrev pub CountsWrites : {X : Type 0} → ℕ → ℕ → Result X LaneFault → Type 0
CountsWrites before now (Ok x) = (before ≤ now) × (now ≡ raised before)
CountsWrites before now (Err e) = now ≡ before

-- the lane failed; want of memory is no failure of the lane
abbrev pub is_failure : {X : Type 0} → Result X LaneFault → Bool
is_failure (Ok x) = false
is_failure (Err Failed) = true
is_failure (Err OutOfMemory) = false
