-- What the opening of a file tells, and its cause.
use Rattle.std.specs.Prelude.{ℕ, ◌≤◌, ◌≡◌, List, Option, None, Some, Bool, true, false, Result, Ok, Err, ⊤}
use Rattle.std.specs.FinMap.{get}
use Rattle.ooc_io.specs.Counts.{Rose}
use Rattle.ooc_io.specs.Held.{Held}
use Rattle.ooc_io.specs.declared.fault.OpenFault.{OpenFault}
use Rattle.ooc_io.specs.declared.fault.OpenFault.TheVariants.{Missing, Failed}

-- At Ok the file is there and none of its bytes is read yet. It is missing exactly where no file has this name.
abbrev pub Opens : {X : Type 0} → Option Held → List ℕ → Result X OpenFault → Option (List ℕ) → Type 0
Opens None name result left = ⊤
Opens (Some held) name (Ok x) left = (bytes : List ℕ) × (get held name ≡ Some bytes) × (left ≡ Some bytes)
Opens (Some held) name (Err Missing) left = get held name ≡ None
Opens (Some held) name (Err Failed) left = (bytes : List ℕ) × (get held name ≡ Some bytes)

-- a missing file leaves the count as it was, and a failure raises it
abbrev pub HasOpenCause : {X : Type 0} → ℕ → ℕ → Result X OpenFault → Type 0
HasOpenCause before now (Ok x) = before ≤ now
HasOpenCause before now (Err Missing) = now ≡ before
HasOpenCause before now (Err Failed) = (before ≤ now) × Rose before now

-- the opening failed; a missing file is no failure
abbrev pub is_failure : {X : Type 0} → Result X OpenFault → Bool
is_failure (Ok x) = false
is_failure (Err Missing) = false
is_failure (Err Failed) = true
