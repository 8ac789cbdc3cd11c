-- A division by a level: each place stands at the level, as far as its least and its most let it.
use Rattle.std.specs.Prelude.{ℕ, zero, suc, ◌+◌, min, max, Bool, ◌&&◌, nat_lt, nat_le, List, [], ◌∷◌, if◌then◌else◌, ◌≤◌, ⊤}
use Rattle.mem_division.specs.Division.{Place, Want, with_one_more}

abbrev pub grant_at : ℕ → ℕ → ℕ → ℕ
grant_at level least most = max least (min most level)

-- whether the place stands at the level and may get more
unfoldable pub rises : ℕ → ℕ → ℕ → Bool
rises level least most = nat_le least level && nat_lt level most

-- what all places have at the level
abbrev pub sum_at : ℕ → List Want → ℕ
sum_at level [] = 0
sum_at level (want ∷ wants) = grant_at level want.0 want.1 + sum_at level wants

-- how many stand at the level and may get more
abbrev pub count_rising : ℕ → List Want → ℕ
count_rising level [] = 0
count_rising level (want ∷ wants) = if rises level want.0 want.1 then suc (count_rising level wants) else count_rising level wants

abbrev pub standing : ℕ → Want → Place
standing level want = record { grant = grant_at level want.0 want.1; most = want.1 }

-- The places at the level, and of those that rise the first `rest` one above it.
abbrev pub filled : ℕ → ℕ → List Want → List Place
filled level rest [] = []
filled level zero (want ∷ wants) = standing level want ∷ filled level zero wants
filled level (suc rest) (want ∷ wants) =
    if rises level want.0 want.1
    then with_one_more (standing level want) ∷ filled level rest wants
    else standing level want ∷ filled level (suc rest) wants

-- no place wants more than the level
abbrev pub AllBelow : ℕ → List Want → Type 0
AllBelow level [] = ⊤
AllBelow level (want ∷ wants) = (want.1 ≤ level) × AllBelow level wants
