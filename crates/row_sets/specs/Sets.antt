-- Sets of rows on pages.
use Rattle.std.specs.Prelude.{◌≡◌, ℕ, ◌≤◌, List, [], ◌∷◌, ◌++◌, length, map, Option, Some, None, ⊤}
use Rattle.ooc_types.specs.declared.schema.SqlType.{SqlType}
use Rattle.row_image.specs.declared.limits.TheConstants.{MOST_COLUMNS, MOST_TEXTS}
use Rattle.row_image.specs.declared.layout.CellKind.{CellKind}
use Rattle.row_image.specs.Bytes.{IsPage}
use Rattle.row_image.specs.Layout.{rows_that_fit, width_of}
use Rattle.row_image.specs.Rules.{text_limit}
use Rattle.row_image.specs.Texts.{ValueRow}
use Rattle.page_body.specs.View.{PoolTerms, PoolView}
use Rattle.page_body.specs.PageLists.{ids_of, Differ, AllLive}
use Rattle.rebase_pins.specs.RowPages.{IsFormed as IsRowPage}
use Rattle.rebase_pins.specs.Rows.{rows_of_page}
use Rattle.rebase_pins.specs.declared.row_page.RowPage.{RowPage}
use Rattle.row_sets.specs.Packed.{packed_pages}
use Rattle.row_sets.specs.declared.limits.TheConstants.{MOST_ROWS, MOST_LONG}
use Rattle.row_sets.specs.Holds.{Holding, pages_only, Unpinned}
use Rattle.row_sets.specs.Cells.{AllFit, text_columns, long_total}
use Rattle.row_sets.specs.SetRows.{SetRow, cell_kinds, row_as}
use Rattle.row_sets.specs.declared.row_set.SetPage.{SetPage}
use Rattle.row_sets.specs.declared.row_set.RowSet.{RowSet}

abbrev pub with_heap : {H : Type 0} → Option H → List H → List H
with_heap None pages = pages
with_heap (Some heap) pages = heap ∷ pages

-- the pages of a row page, and then others
abbrev pub pages_with : {H : Type 0} → RowPage H → List H → List H
pages_with page pages = page.rows ∷ with_heap page.heap0 (with_heap page.heap1 (with_heap page.heap2 (with_heap page.heap3 pages)))

-- the pages of one row page
abbrev pub page_list : {H : Type 0} → RowPage H → List H
page_list page = pages_with page []

-- all pages, each row page before its heap pages
abbrev pub pages_in : {H : Type 0} → List (SetPage H) → List H
pages_in [] = []
pages_in (p ∷ ps) = pages_with p.page (pages_in ps)

-- the row pages alone
abbrev pub row_pages_in : {H : Type 0} → List (SetPage H) → List H
row_pages_in [] = []
row_pages_in (p ∷ ps) = p.page.rows ∷ row_pages_in ps

-- the list of rows of each row page, in order, by what it and its heap pages say
abbrev pub lists_in : {Page Pin : Type 0} → PoolTerms Page Pin → List CellKind → List (SetPage Page) → List (List ValueRow)
lists_in t kinds [] = []
lists_in t kinds (p ∷ ps) = rows_of_page t kinds p.page ∷ lists_in t kinds ps

abbrev pub joined : {X : Type 0} → List (List X) → List X
joined [] = []
joined (xs ∷ xss) = xs ++ joined xss

-- a set's pages, and what it has of a pool
abbrev pub set_pages : {Page : Type 0} → RowSet Page → List Page
set_pages set = pages_in set.pages.items

abbrev pub set_ids : {Page Pin : Type 0} → PoolTerms Page Pin → RowSet Page → ℕ → ℕ
set_ids t set = ids_of t (set_pages set)

abbrev pub set_holding : {Page Pin : Type 0} → PoolTerms Page Pin → RowSet Page → Holding
set_holding t set = pages_only (set_ids t set)

-- its lists of rows, page by page; the list that they make; and that list in values of SQL
abbrev pub set_lists : {Page Pin : Type 0} → PoolTerms Page Pin → RowSet Page → List (List ValueRow)
set_lists t set = lists_in t set.layout set.pages.items

abbrev pub set_cells : {Page Pin : Type 0} → PoolTerms Page Pin → RowSet Page → List ValueRow
set_cells t set = joined (set_lists t set)

abbrev pub set_rows : {Page Pin : Type 0} → PoolTerms Page Pin → RowSet Page → List SetRow
set_rows t set = map (row_as set.kinds) (set_cells t set)

-- A row page of a set: its kind and that of its heap pages. It has a row, and no more rows than fit; the count is that of
-- its list, and each of its rows fits the columns.
pub record IsSetPage {Page Pin : Type 0} (t : PoolTerms Page Pin) (kinds : List CellKind) (page_bytes : ℕ) (p : SetPage Page) : Type 0 where
  pub formed : IsRowPage t kinds p.page
  pub counted : p.rows ≡ length (rows_of_page t kinds p.page)
  pub some : 1 ≤ p.rows
  pub few : p.rows ≤ rows_that_fit kinds page_bytes
  pub fit : AllFit kinds (text_limit page_bytes) (rows_of_page t kinds p.page)

abbrev pub AllSetPages : {Page Pin : Type 0} → PoolTerms Page Pin → List CellKind → ℕ → List (SetPage Page) → Type 0
AllSetPages t kinds page_bytes [] = ⊤
AllSetPages t kinds page_bytes (p ∷ ps) = IsSetPage t kinds page_bytes p × AllSetPages t kinds page_bytes ps

-- the columns of a set: 1 to 65, of which at most 64 are of texts
pub record AreColumns (kinds : List SqlType) (layout : List CellKind) : Type 0 where
  pub layout_is : layout ≡ cell_kinds kinds
  pub some : 1 ≤ length kinds
  pub few : length kinds ≤ MOST_COLUMNS
  pub texts : text_columns layout ≤ MOST_TEXTS

-- what is known of a set whatever is called: it speaks of no state
pub record Formed {Page Pin : Type 0} (t : PoolTerms Page Pin) (set : RowSet Page) : Type 0 where
  pub columns : AreColumns set.kinds set.layout
  pub is_page : IsPage set.page_bytes
  pub pages : AllSetPages t set.layout set.page_bytes set.pages.items
  pub differ : Differ t (set_ids t set)
  pub counted : set.rows ≡ length (set_cells t set)
  pub long : set.long_bytes ≡ long_total (set_cells t set)
  pub few_rows : set.rows ≤ MOST_ROWS
  pub few_long : set.long_bytes ≤ MOST_LONG
  pub asked : set.long_bytes ≤ set.asked_bytes
  pub packed : length (set_pages set) ≤ packed_pages set.rows set.asked_bytes (width_of set.layout) set.page_bytes

-- what of it depends on the state: its pages are live, in a pool of such pages
pub record IsHere {Page : Type 0} {Pin : Type 0} (a : PoolView Page Pin) (set : RowSet Page) : Type 0 where
  pub page_bytes : set.page_bytes ≡ a.page_bytes
  pub live : AllLive a (set_pages set)

-- where retiring ends lives, this worker has no pin on a row page of the set
abbrev pub NoRowPins : {Page Pin : Type 0} → PoolTerms Page Pin → PoolView Page Pin → RowSet Page → Type 0
NoRowPins t a set = Unpinned t a (ids_of t (row_pages_in set.pages.items))
