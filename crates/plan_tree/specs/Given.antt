-- A free FROM over the rows of its tables.
use Rattle.std.specs.Prelude.{◌≡◌, ℕ, ◌+◌, ◌≤◌, length, false, List, [], ◌∷◌, map, slice_index_or, ⊤}
use Rattle.std.specs.List.{AllByRecursion}
use Rattle.sql_meaning.specs.Found.{Row, clean}
use Rattle.sql_meaning.specs.From.{Source}
use Rattle.sql_meaning.specs.Pool.{IsPlainCondition}
use Rattle.sql_meaning.specs.Statements.{condition_of}
use Rattle.plan_tree.specs.Split.{top}
use Rattle.plan_tree.specs.declared.parts.Entry.{Entry}
use Rattle.plan_tree.specs.FreeFrom.{FreeTable}

-- a table of FROM with its rows
pub record Given : Type 0 where
  pub table : FreeTable
  pub rows : List Row

abbrev pub tables_given : List Given → List FreeTable
tables_given = map (λ given. given.table)

abbrev pub source_of : Given → Source
source_of given = record { found = clean given.rows; width = given.table.width; pads = false; on = map condition_of given.table.on }

-- the rows of the table at an entry's place
abbrev pub rows_given : List Given → Entry → List Row
rows_given [] entry = []
rows_given (first ∷ givens) entry = (slice_index_or (first ∷ givens) entry.place first).rows

abbrev pub total_width : List Given → ℕ
total_width [] = 0
total_width (given ∷ givens) = given.table.width + total_width givens

-- Each row has the columns of its table; ON names columns up to its table's, and is plain.
abbrev pub AreGiven : ℕ → List Given → Type 0
AreGiven at [] = ⊤
AreGiven at (given ∷ givens) =
    AllByRecursion (λ row. length row ≡ given.table.width) given.rows
    × (AllByRecursion (λ e. IsPlainCondition (condition_of e)) given.table.on
    × (AllByRecursion (λ e. top e ≤ at + given.table.width) given.table.on
    × AreGiven (at + given.table.width) givens))
