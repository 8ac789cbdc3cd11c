-- The rows of sets, one set after another.
use Rattle.std.specs.Prelude.{◌≡◌, List, flat_map, map}
use Rattle.ooc_types.specs.declared.schema.SqlType.{SqlType}
use Rattle.page_body.specs.View.{PoolTerms, PoolView}
use Rattle.row_sets.specs.SetRows.{SetRow}
use Rattle.row_sets.specs.Sets.{Formed, IsHere, NoRowPins, set_rows}
use Rattle.row_sets.specs.declared.row_set.RowSet.{RowSet}
use Rattle.row_cursors.specs.RowCursors.{rest_rows}
use Rattle.row_cursors.specs.declared.row_cursor.RowCursor.{RowCursor}
use Rattle.sql_meaning.specs.Found.{Row}

abbrev pub values_of : List SetRow → List Row
values_of rows = map (λ row. row.values) rows

abbrev pub rows_of_set : {Page Pin : Type 0} → PoolTerms Page Pin → RowSet Page → List Row
rows_of_set t set = values_of (set_rows t set)

abbrev pub rows_of_sets : {Page Pin : Type 0} → PoolTerms Page Pin → List (RowSet Page) → List Row
rows_of_sets t sets = flat_map (rows_of_set t) sets

-- the rows that a cursor has still to give
abbrev pub rows_ahead : {Page Pin : Type 0} → PoolTerms Page Pin → RowSet Page → RowCursor → List Row
rows_ahead t set cursor = values_of (rest_rows t set cursor)

-- a set of a table with columns of these types, which can be read
pub record IsReadable {Page Pin : Type 0} (t : PoolTerms Page Pin) (a : PoolView Page Pin) (columns : List SqlType) (set : RowSet Page) : Type 0 where
  pub formed : Formed t set
  pub here : IsHere a set
  pub alone : NoRowPins t a set
  pub kinds : set.kinds ≡ columns
