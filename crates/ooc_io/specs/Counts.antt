-- Counts of faults, which never fall, are kept as a u64 and stand still at its last value.
use Rattle.std.specs.Prelude.{ℕ, ◌+◌, ◌-◌, ◌^◌, ◌<◌, ◌≤◌, ◌≡◌, min, Bool, true, false, Result, Ok, Err}

-- one more, up to the last value of a u64
abbrev pub raised : ℕ → ℕ
raised count = min (count + 1) (2 ^ 64 - 1)

-- the count rose, or stands at its last value
abbrev pub Rose : ℕ → ℕ → Type 0
Rose before now = raised before ≤ now

-- the count stayed as it was, below its last value
abbrev pub Stayed : ℕ → ℕ → Type 0
Stayed before now = (now ≡ before) × (before < 2 ^ 64 - 1)

-- the count after a call that raises it where it fails, and else leaves it
abbrev pub faults_after : Bool → ℕ → ℕ
faults_after true before = raised before
faults_after false before = before

-- a call that may raise the count: an `Err` is answered only where it rose
abbrev pub HasCause : {X E : Type 0} → ℕ → ℕ → Result X E → Type 0
HasCause before now (Ok x) = before ≤ now
HasCause before now (Err e) = (before ≤ now) × Rose before now

-- the same, where an `Ok` leaves the count as it was
abbrev pub HasExactCause : {X E : Type 0} → ℕ → ℕ → Result X E → Type 0
HasExactCause before now (Ok x) = now ≡ before
HasExactCause before now (Err e) = (before ≤ now) × Rose before now
