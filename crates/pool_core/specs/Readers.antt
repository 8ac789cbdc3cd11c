-- Who reads a page: a list of actors, with one entry for each claim.
use Rattle.std.specs.Prelude.{ℕ, ◌==◌, if◌then◌else◌, List, [], ◌∷◌}

-- one claim of an actor less
abbrev pub without_one : ℕ → List ℕ → List ℕ
without_one actor [] = []
without_one actor (other ∷ others) = if other == actor then others else other ∷ without_one actor others
