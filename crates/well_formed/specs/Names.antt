-- Names that differ.
use Rattle.std.specs.Prelude.{◌≢◌, ℕ, List, [], ◌∷◌, map, ⊤}
use Rattle.std.specs.Char.{to_ascii_lowercase}
use Rattle.std.specs.List.{AllByRecursion}

abbrev pub in_small_letters : List ℕ → List ℕ
in_small_letters name = map to_ascii_lowercase name

-- each name differs from those behind it, also in small letters
abbrev pub AreApart : List (List ℕ) → Type 0
AreApart [] = ⊤
AreApart (name ∷ names) = AllByRecursion (λ other. in_small_letters name ≢ in_small_letters other) names × AreApart names
