-- A list of numbers as a bag: how often each number stands in it.
use Rattle.std.specs.Prelude.{ℕ, ◌+◌, ◌==◌, cond, List, [], ◌∷◌}

-- the bag with x alone
unfoldable pub one_of : ℕ → ℕ → ℕ
one_of x y = cond (x == y) 1 0

-- how often y stands in a list
abbrev pub times : List ℕ → ℕ → ℕ
times [] y = 0
times (x ∷ xs) y = one_of x y + times xs y

-- the list with x left out once
abbrev pub without : ℕ → List ℕ → List ℕ
without x [] = []
without x (y ∷ ys) = cond (y == x) ys (y ∷ without x ys)
