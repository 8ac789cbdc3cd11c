-- What a change of the first lane is among all of them.
use Rattle.std.proofs.Common.{ℕ, ◌<◌, List, [], ◌∷◌, length, arith, slice_set, get_or}
use Rattle.ooc_io.specs.Counts.{Rose, Stayed}
use Rattle.ooc_engine.specs.Lanes.{count_at, AllStayed, SomeRose}

pub first_rose : {L : Type 0} (count : L → ℕ) (lanes : List L) (lane : L) → 0 < length lanes → Rose (count_at count lanes 0) (count lane) → SomeRose count lanes (slice_set lanes 0 lane)
first_rose count [] lane some rose = absurd (omega (arith, some))
first_rose count (l ∷ ls) lane some rose = (0, omega arith, rose)

pub first_stayed : {L : Type 0} (count : L → ℕ) (lanes : List L) (other new : L) → 0 < length lanes → AllStayed count lanes (slice_set lanes 0 new) → Stayed (count (get_or lanes 0 other)) (count new)
first_stayed count [] other new some stayed = absurd (omega (arith, some))
first_stayed count (l ∷ ls) other new some stayed = stayed 0 (omega arith)
