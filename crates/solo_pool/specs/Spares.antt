-- Places of which each has a spare frame.
use Rattle.std.specs.Prelude.{◌≡◌, ℕ, Some, List, length, slice_get}
use Rattle.solo_pool.specs.declared.entry.Place.{Place}
use Rattle.solo_pool.specs.declared.entry.Place.TheVariants.{Spare, Open, Owned}

abbrev pub IsSpare : ℕ → ℕ → Place → Type 0
IsSpare page i (Spare f) = (f.number ≡ i) × (length f.bytes.items ≡ page)
IsSpare page i Open = ⊥
IsSpare page i (Owned x) = ⊥

abbrev pub AllSpare : ℕ → List Place → Type 0
AllSpare page places = (i : ℕ) (p : Place) → slice_get places i ≡ Some p → IsSpare page i p
