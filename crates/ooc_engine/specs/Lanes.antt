-- What a run does to the lanes that it is lent.
use Rattle.std.specs.Prelude.{◌≡◌, ◌≢◌, ℕ, ◌<◌, List, map, length, slice_index, slice_get}
use Rattle.ooc_io.specs.Counts.{Rose, Stayed}

-- the count of the lane at a place
abbrev pub count_at : {L : Type 0} → (L → ℕ) → List L → ℕ → ℕ
count_at count lanes i = slice_index (map count lanes) i

-- the count of one of them rose
abbrev pub SomeRose : {L : Type 0} → (L → ℕ) → List L → List L → Type 0
SomeRose faults old new = (i : ℕ) × (i < length old) × Rose (count_at faults old i) (count_at faults new i)

-- the counts of all stayed
abbrev pub AllStayed : {L : Type 0} → (L → ℕ) → List L → List L → Type 0
AllStayed faults old new = (i : ℕ) → i < length old → Stayed (count_at faults old i) (count_at faults new i)

-- all lanes but the one at that place are as they were
abbrev pub OthersAs : {L : Type 0} → ℕ → List L → List L → Type 0
OthersAs place old new = (i : ℕ) → i ≢ place → slice_get new i ≡ slice_get old i
