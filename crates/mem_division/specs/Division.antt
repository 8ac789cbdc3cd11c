-- The division of a total among places that want at least one number and at most another.
use Rattle.std.specs.Prelude.{ℕ, zero, suc, ◌+◌, ◌-◌, ◌≤◌, Bool, ◌&&◌, ◌==◌, nat_lt, min, List, [], ◌∷◌, map, Option, Some, None, MatchOption, if◌then◌else◌, sum, ⊤}

-- what a place has, and the most that it may get
pub record Place : Type 0 where
  pub grant : ℕ
  pub most : ℕ

-- the smaller of two numbers, where they are there
abbrev pub smaller : ℕ → Option ℕ → Option ℕ
smaller n None = Some n
smaller n (Some m) = Some (min n m)

-- the smallest grant of the places that may get more
abbrev pub smallest : List Place → Option ℕ
smallest [] = None
smallest (place ∷ places) = if nat_lt place.grant place.most then smaller place.grant (smallest places) else smallest places

abbrev pub with_one_more : Place → Place
with_one_more place = record { grant = place.grant + 1; most = place.most }

-- one more for the first place that has this grant and may get more
abbrev pub one_more_at : ℕ → List Place → List Place
one_more_at grant [] = []
one_more_at grant (place ∷ places) =
    if (place.grant == grant) && nat_lt place.grant place.most then with_one_more place ∷ places else place ∷ one_more_at grant places

abbrev pub one_more_of : Option ℕ → List Place → List Place
one_more_of None places = places
one_more_of (Some grant) places = one_more_at grant places

-- one more for the place with the smallest grant, the earlier on ties, and nothing where none may get more
abbrev pub one_more : List Place → List Place
one_more places = one_more_of (smallest places) places

-- so many more, one after another
abbrev pub more : ℕ → List Place → List Place
more zero places = places
more (suc count) places = more count (one_more places)

-- what each place wants at least, and at most
abbrev pub Want : Type 0
Want = ℕ × ℕ

abbrev pub least_of : List Want → List ℕ
least_of = map (λ want. want.0)

abbrev pub first_places : List Want → List Place
first_places = map (λ want. record { grant = want.0; most = want.1 })

-- Each place gets its least. Then one more goes, again and again, to the smallest grant below its most, the earlier on
-- ties, until the total is spent or none is below.
unfoldable pub division : ℕ → List Want → List ℕ
division total wants = map (λ place. place.grant) (more (total - sum (least_of wants)) (first_places wants))

abbrev pub IsWant : Want → Type 0
IsWant want = want.0 ≤ want.1

-- each grant is from its place's least to its most
abbrev pub AreWithin : List Want → List ℕ → Type 0
AreWithin [] [] = ⊤
AreWithin [] (grant ∷ grants) = ⊥
AreWithin (want ∷ wants) [] = ⊥
AreWithin (want ∷ wants) (grant ∷ grants) = ((want.0 ≤ grant) × (grant ≤ want.1)) × AreWithin wants grants
