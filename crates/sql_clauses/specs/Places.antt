-- Places in a list.
use Rattle.std.specs.Prelude.{ℕ, ◌+◌, Bool, List, [], ◌∷◌, Option, Some, None, if◌then◌else◌}
use Rattle.sql_clauses.specs.declared.places.Seen.{Seen}
use Rattle.sql_clauses.specs.declared.places.Seen.TheVariants.{Nothing, One, Several}

-- the places of the items that pass a test, from a number on
abbrev pub places : {A : Type 0} → (A → Bool) → ℕ → List A → List ℕ
places test at [] = []
places test at (item ∷ items) = if test item then at ∷ places test (at + 1) items else places test (at + 1) items

-- the first of them
abbrev pub first_place : {A : Type 0} → (A → Bool) → ℕ → List A → Option ℕ
first_place test at [] = None
first_place test at (item ∷ items) = if test item then Some at else first_place test (at + 1) items

-- how many places there are, and which is the only one
abbrev pub seen : List ℕ → Seen
seen [] = Nothing
seen (place ∷ []) = One place
seen (place ∷ other ∷ more) = Several

-- one more is seen
abbrev pub one_more : Seen → ℕ → Seen
one_more Nothing place = One place
one_more (One first) place = Several
one_more Several place = Several

abbrev pub counted : Bool → Seen → ℕ → Seen
counted holds before place = if holds then one_more before place else before
