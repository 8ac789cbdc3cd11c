-- What a cursor has still to give.
use Rattle.std.specs.Prelude.{◌≡◌, ℕ, ◌+◌, ◌≤◌, List, [], ◌++◌, length, drop, slice_get, Option, Some, None, IsSomeAnd}
use Rattle.row_image.specs.Texts.{ValueRow}
use Rattle.page_body.specs.View.{PoolTerms, PoolView}
use Rattle.page_body.specs.Keeps.{Takes, Kept}
use Rattle.rebase_pins.specs.RowPages.{under_pins, ids_of, IsFormed, IsOwned, IsPlaced}
use Rattle.rebase_pins.specs.Rows.{rows_of_page}
use Rattle.rebase_pins.specs.declared.row_page.RowPins.{RowPins}
use Rattle.row_sets.specs.Sets.{set_lists, joined}
use Rattle.row_sets.specs.declared.row_set.RowSet.{RowSet}
use Rattle.row_sets.specs.declared.cursor.Cursor.{Cursor}

-- the rows of a set's row pages from one on
abbrev pub rows_from : {Page Pin : Type 0} → PoolTerms Page Pin → RowSet Page → ℕ → List ValueRow
rows_from t set page = joined (drop page (set_lists t set))

-- the rows that a cursor has still to give
abbrev pub rest_of : {Page Pin : Type 0} → PoolTerms Page Pin → RowSet Page → Cursor → List ValueRow
rest_of t set cursor = rows_from t set cursor.page

-- the rows of the pages under pins
abbrev pub rows_under : {Page Pin : Type 0} → PoolTerms Page Pin → RowSet Page → RowPins Pin → List ValueRow
rows_under t set pins = rows_of_page t set.layout (under_pins t pins)

-- The pins are on a row page of a set and on its heap pages. It has a row, and its rows are the set's from its place on.
pub record IsPageOf {Page Pin : Type 0} (t : PoolTerms Page Pin) (set : RowSet Page) (page : ℕ) (pins : RowPins Pin) : Type 0 where
  pub under : IsSomeAnd (slice_get set.pages.items page) (λ p. under_pins t pins ≡ p.page)
  pub formed : IsFormed t set.layout (under_pins t pins)
  pub some : 1 ≤ length (rows_under t set pins)
  pub rows : rows_from t set page ≡ rows_under t set pins ++ rows_from t set (page + 1)

-- the pins were taken by this call, are this worker's, and each part's base is where its heap page lies
pub record ArePinned {Page Pin : Type 0} (t : PoolTerms Page Pin) (a b : PoolView Page Pin) (pins : RowPins Pin) : Type 0 where
  pub placed : IsPlaced t a.page_bytes pins
  pub own : IsOwned t b pins
  pub took : Takes (ids_of t (under_pins t pins)) a b

-- what a cursor gives: the rows of the next page, or at the end, and only there, none
abbrev pub IsNext : {Page Pin : Type 0} → PoolTerms Page Pin → RowSet Page → Cursor → Cursor → Option (RowPins Pin) → Type 0
IsNext t set old new None = (rest_of t set old ≡ []) × (new ≡ old)
IsNext t set old new (Some pins) = IsPageOf t set old.page pins × (rest_of t set old ≡ rows_under t set pins ++ rest_of t set new)

-- and what it takes of a pool
abbrev pub TakesNext : {Page Pin : Type 0} → PoolTerms Page Pin → PoolView Page Pin → PoolView Page Pin → Option (RowPins Pin) → Type 0
TakesNext t a b None = Kept a b
TakesNext t a b (Some pins) = ArePinned t a b pins
