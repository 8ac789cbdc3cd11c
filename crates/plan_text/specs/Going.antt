-- A text that is written part by part, each behind what was written before it.
use Rattle.std.specs.Prelude.{◌≡◌, ℕ, List, ◌++◌, Result, Ok, Err, ⊤}
use Rattle.ooc_decimal.specs.Kept.{KeepsFront}

-- nothing is missing for want of memory
abbrev pub IsWhole : {A E : Type 0} → Result A E → Type 0
IsWhole (Err e) = ⊥
IsWhole (Ok a) = ⊤

-- The part stands behind the old bytes where it and all before it was written; else a part of it may.
pub record Continues {A E : Type 0} (before : Result A E) (old part : List ℕ) (after : Result A E) (new : List ℕ) : Type 0 where
  pub whole : IsWhole after → IsWhole before × (new ≡ old ++ part)
  pub front : KeepsFront old new
