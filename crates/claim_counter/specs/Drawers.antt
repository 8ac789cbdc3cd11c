-- What contracts see of a counter and of a seat that draws from it.
use Rattle.std.specs.Prelude.{◌≡◌, ℕ, Bool, List}
use Rattle.atomic_table.specs.Seated.{TableId}

pub record Counter : Type 0 where
  pub table : TableId
  pub count : ℕ
  pub parts : ℕ

-- its parts, whether it is ended, and all that it drew
pub record Drawer : Type 0 where
  pub table : TableId
  pub count : ℕ
  pub parts : ℕ
  pub ended : Bool
  pub draws : List ℕ

-- the seat is one of this counter
abbrev pub IsDrawerOf : Counter → Drawer → Type 0
IsDrawerOf c s = (s.table ≡ c.table) × (s.count ≡ c.count)

abbrev pub drawer : TableId → ℕ → ℕ → Bool → List ℕ → Drawer
drawer table count parts ended draws = record { table = table; count = count; parts = parts; ended = ended; draws = draws }
