-- What a cursor over rows has still to give.
use Rattle.std.specs.Prelude.{◌≡◌, ℕ, ◌+◌, ◌-◌, ◌<◌, List, [], ◌∷◌, ◌++◌, length, map, get_or, take, drop, Option, Some, None}
use Rattle.ooc_types.specs.declared.value.Value.{Value}
use Rattle.row_image.specs.Texts.{ValueRow}
use Rattle.page_body.specs.View.{PoolTerms}
use Rattle.row_sets.specs.SetRows.{SetRow, row_as}
use Rattle.row_sets.specs.Sets.{set_lists, joined}
use Rattle.row_sets.specs.declared.row_set.RowSet.{RowSet}
use Rattle.row_cursors.specs.declared.row_cursor.RowCursor.{RowCursor}

-- the rows from a place on the first of some pages on
abbrev pub rows_behind : {X : Type 0} → ℕ → List (List X) → List X
rows_behind row [] = []
rows_behind row (xs ∷ xss) = drop row xs ++ joined xss

-- the rows that a cursor has still to give, and the same in values of SQL
abbrev pub rest_cells : {Page Pin : Type 0} → PoolTerms Page Pin → RowSet Page → RowCursor → List ValueRow
rest_cells t set cursor = rows_behind cursor.row (take (cursor.end - cursor.page) (drop cursor.page (set_lists t set)))

abbrev pub rest_rows : {Page Pin : Type 0} → PoolTerms Page Pin → RowSet Page → RowCursor → List SetRow
rest_rows t set cursor = map (row_as set.kinds) (rest_cells t set cursor)

-- a row of a page
abbrev pub no_row : ValueRow
no_row = record { hash = 0; values = [] }

abbrev pub row_at : {Page Pin : Type 0} → PoolTerms Page Pin → RowSet Page → ℕ → ℕ → ValueRow
row_at t set page row = get_or (get_or (set_lists t set) page []) row no_row

-- the first of the rows that are left, with its hash, or no row where none is left
abbrev pub IsNextRow : {Page Pin : Type 0} → PoolTerms Page Pin → RowSet Page → RowCursor → RowCursor → List Value → Option ℕ → Type 0
IsNextRow t set old new row None = (rest_rows t set old ≡ []) × (row ≡ [])
IsNextRow t set old new row (Some hash) = rest_rows t set old ≡ record { hash = hash; values = row } ∷ rest_rows t set new

-- how many are left
abbrev pub Steps : {Page Pin : Type 0} → PoolTerms Page Pin → RowSet Page → RowCursor → RowCursor → Option ℕ → Type 0
Steps t set old new None = rest_rows t set old ≡ []
Steps t set old new (Some hash) = length (rest_rows t set old) ≡ length (rest_rows t set new) + 1

-- the same rows are left, and where the cursor isn't at the end its page has a row at its place
pub record IsSettled {Page Pin : Type 0} (t : PoolTerms Page Pin) (set : RowSet Page) (old new : RowCursor) : Type 0 where
  pub rest : rest_cells t set new ≡ rest_cells t set old
  pub inside : new.page < new.end → new.page < length set.pages.items → new.row < length (get_or (set_lists t set) new.page [])
