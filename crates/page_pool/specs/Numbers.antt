-- The frames of the open pages of a seat.
use Rattle.std.specs.Prelude.{ℕ, List, [], ◌∷◌}
use Rattle.page_pool.specs.declared.pool.OpenTurn.{OpenTurn}

abbrev pub numbers_of : {B : Type 0} → List (OpenTurn B) → List ℕ
numbers_of [] = []
numbers_of (t ∷ ts) = t.number ∷ numbers_of ts
