-- Rows as a set stores them.
use Rattle.std.specs.Prelude.{ℕ, List, [], ◌∷◌, map, ⊤}
use Rattle.ooc_types.specs.declared.value.Value.{Value}
use Rattle.ooc_types.specs.declared.schema.Column.{Column}
use Rattle.ooc_types.specs.declared.schema.SqlType.{SqlType}
use Rattle.ooc_types.specs.Meets.{IsOf}
use Rattle.row_image.specs.Texts.{ValueRow}
use Rattle.row_sets.specs.SetRows.{SetRow, kept_as}

abbrev pub kinds_of : List Column → List SqlType
kinds_of columns = map (λ column. column.kind) columns

-- a row of a table, which has no key and so the hash 0
abbrev pub stored_row : List Value → SetRow
stored_row row = record { hash = 0; values = row }

abbrev pub stored : List (List Value) → List SetRow
stored rows = map stored_row rows

-- and the values that it is kept as
abbrev pub kept_row : List Value → ValueRow
kept_row row = record { hash = 0; values = map kept_as row }

-- each row is one of a table with these columns, with texts of at most so many bytes
abbrev pub AreOf : ℕ → List Column → List (List Value) → Type 0
AreOf limit columns [] = ⊤
AreOf limit columns (row ∷ rows) = IsOf limit columns row × AreOf limit columns rows
