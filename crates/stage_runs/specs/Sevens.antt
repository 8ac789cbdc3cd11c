-- What becomes of a worker that keeps rows.
use Rattle.std.specs.Prelude.{◌≡◌, ℕ, ◌%◌, List, [], ◌∷◌, ◌++◌, flat_map}
use Rattle.stage_runs.specs.declared.sevens.Sevens.{Sevens}
use Rattle.stage_runs.specs.declared.sevens.SevensFault.{SevensFault}
use Rattle.stage_runs.specs.declared.sevens.SevensFault.TheVariants.{OutOfMemory, AtLimit}

abbrev pub rows_of : Sevens → List ℕ
rows_of w = w.rows.items

abbrev pub limit_of : Sevens → ℕ
limit_of w = w.limit

abbrev pub sevens : ℕ → List ℕ
sevens n = (n % 7) ∷ []

pub record Made (w : Sevens) (xs : List ℕ) (v : Sevens) : Type 0 where
  pub rows : rows_of v ≡ rows_of w ++ flat_map sevens xs
  pub limit : v.limit ≡ w.limit

abbrev pub Cause : Sevens → ℕ → SevensFault → Type 0
Cause w x OutOfMemory = Unit {0}
Cause w x AtLimit = x ≡ w.limit

pub record Failed (w : Sevens) (xs : List ℕ) (x : ℕ) (fault : SevensFault) (v : Sevens) : Type 0 where
  pub kept : Made w xs v
  pub cause : Cause w x fault
