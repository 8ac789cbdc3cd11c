-- What a change of the first lane is among all of them.
use Rattle.std.proofs.Common.{◌≡◌, ℕ, ◌+◌, ◌-◌, ◌^◌, ◌<◌, ◌≤◌, List, [], ◌∷◌, length, arith, slice_set}
use Rattle.std.specs.Prelude.{map, sum}
use Rattle.std.proofs.lemmas.List.Sums.{sum_by-cons}
use Rattle.ooc_io.specs.Counts.{Rose}
use Rattle.solo_pool_runs.specs.Lanes.{count_at, total, AllBelow, SomeRose}

pub first_rose : {A : Type 0} (count : A → ℕ) (lanes : List A) (lane : A) → 0 < length lanes → Rose (count_at count lanes 0) (count lane) → SomeRose count lanes (slice_set lanes 0 lane)
first_rose count [] lane some rose = absurd (omega (arith, some))
first_rose count (l ∷ ls) lane some rose = (0, omega arith, rose)

first_total : {A : Type 0} (count : A → ℕ) (lanes : List A) (lane : A) → 0 < length lanes → total count (slice_set lanes 0 lane) + count_at count lanes 0 ≡ total count lanes + count lane
first_total count [] lane some = absurd (omega (arith, some))
first_total count (l ∷ ls) lane some = omega (arith, sum_by-cons (λ y. y) (count l) (map count ls), sum_by-cons (λ y. y) (count lane) (map count ls))

first_below : {A : Type 0} (count : A → ℕ) (lanes : List A) (lane : A) → 0 < length lanes → AllBelow count (slice_set lanes 0 lane) → count lane < 2 ^ 64 - 1
first_below count [] lane some below = absurd (omega (arith, some))
first_below count (l ∷ ls) lane some below = below 0 (omega arith)

-- what the first lane's count rose by, the total did
pub total_rose : {A : Type 0} (count : A → ℕ) (lanes : List A) (lane : A) (made frames : ℕ) → 0 < length lanes → (count lane < 2 ^ 64 - 1 → made + count_at count lanes 0 ≤ frames + count lane) → AllBelow count (slice_set lanes 0 lane) → made + total count lanes ≤ frames + total count (slice_set lanes 0 lane)
total_rose count lanes lane made frames some rose below = let a = rose (first_below count lanes lane some below) in let b = first_total count lanes lane some in omega (arith, a, b)
