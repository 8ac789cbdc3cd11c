-- The pages that the rows of tables need are at most the pages of their sets.
use Rattle.std.proofs.Common.{◌≡◌, ℕ, suc, ◌+◌, ◌-◌, ◌*◌, ◌/◌, ◌<◌, ◌≤◌, ◌^◌, Option, None, Some, List, [], ◌∷◌, ◌++◌, map, length, refl, sym, ap, ◌∙◌, subst, arith, length-append}
use Rattle.std.proofs.Math.Nat.{div-lt_iff_lt-mul}
use Rattle.ooc_types.specs.declared.schema.Column.{Column}
use Rattle.row_image.specs.Bytes.{IsPage}
use Rattle.row_image.specs.declared.layout.CellKind.{CellKind}
use Rattle.row_image.specs.Layout.{width_of, rows_that_fit}
use Rattle.sql_scope.specs.declared.scope.TableColumns.{TableColumns}
use Rattle.page_body.specs.View.{PoolTerms, PoolView}
use Rattle.page_body.specs.PageLists.{WereWritten}
use Rattle.rebase_pins.specs.Rows.{rows_of_page}
use Rattle.row_sets.specs.SetRows.{SetRow, cell_kinds, row_as}
use Rattle.row_sets.specs.Sets.{with_heap, pages_in, row_pages_in, lists_in, joined, AllSetPages, set_pages, set_cells, set_rows}
use Rattle.row_sets.specs.declared.row_set.SetPage.{SetPage}
use Rattle.row_sets.specs.declared.row_set.RowSet.{RowSet}
use Rattle.csv_tables.specs.Stored.{kinds_of}
use Rattle.paged_catalog.specs.declared.catalog.Catalog.{Catalog}
use Rattle.paged_catalog.specs.declared.catalog.TableRows.{TableRows}
use Rattle.paged_catalog.specs.Meaning.{values_of, sets_rows, sets_pages, rows_pages, catalog_pages, table_of, tables_with, catalog_of}
use Rattle.paged_catalog.specs.Stands.{IsSetOf, AllSetsOf, IsTableOf, AllTables, Stands, AreHere}
use Rattle.catalog_bound.specs.Bound.{pages_for, table_need, catalog_need}

-- rounded up, a whole number of pages is that many
within_pages : (page bytes k : ℕ) → 1 ≤ page → bytes ≤ k * page → pages_for page bytes ≤ k
within_pages page bytes k some most =
    let e : (k + 1) * page ≡ k * page + page = grind arith in
    let low : bytes + (page - 1) < (k + 1) * page = omega (arith, e, some, most) in
    let h : pages_for page bytes < k + 1 = (div-lt_iff_lt-mul some).1 low in
    omega (arith, h)

some_page : (n : ℕ) → IsPage n → 1 ≤ n
some_page n is = let l = is.least in omega (arith, l)

length_mapped : {A B : Type 0} (f : A → B) (xs : List A) → length (map f xs) ≡ length xs
length_mapped f [] = refl
length_mapped f (x ∷ xs) = ap suc (length_mapped f xs)

sum_times : (a b w : ℕ) → (a + b) * w ≡ a * w + b * w
sum_times a b w = grind arith

times_more : (a b w : ℕ) → a ≤ b → a * w ≤ b * w
times_more a b w more = grind arith

-- so many rows fit, and a page's rows are at most its bytes
fit_bytes : (page w : ℕ) → (page - 128) / w * w ≤ page
fit_bytes page w = grind arith

-- ---- the pages of a set

heap_more : {H : Type 0} (o : Option H) (ps : List H) → length ps ≤ length (with_heap o ps)
heap_more None ps = omega arith
heap_more (Some h) ps = omega arith

row_pages_among : {H : Type 0} (ps : List (SetPage H)) → length (row_pages_in ps) ≤ length (pages_in ps)
row_pages_among [] = omega arith
row_pages_among (p ∷ ps) =
    let i = row_pages_among ps in
    let h = p.page in
    let d = heap_more h.heap3 (pages_in ps) in
    let c = heap_more h.heap2 (with_heap h.heap3 (pages_in ps)) in
    let b = heap_more h.heap1 (with_heap h.heap2 (with_heap h.heap3 (pages_in ps))) in
    let a = heap_more h.heap0 (with_heap h.heap1 (with_heap h.heap2 (with_heap h.heap3 (pages_in ps)))) in
    omega (arith, i, a, b, c, d)

rows_within : {Page Pin : Type 0} (t : PoolTerms Page Pin) (kinds : List CellKind) (page : ℕ) (ps : List (SetPage Page)) → AllSetPages t kinds page ps → length (joined (lists_in t kinds ps)) * width_of kinds ≤ length (row_pages_in ps) * page
unfolding rows_that_fit
rows_within t kinds page [] all = grind arith
rows_within t kinds page (p ∷ ps) all =
    let w = width_of kinds in
    let i = rows_within t kinds page ps all.1 in
    let n = length (rows_of_page t kinds p.page) in
    let m = length (joined (lists_in t kinds ps)) in
    let f = all.0.few in
    let q = all.0.counted in
    let fits : n ≤ (page - 128) / w = omega (arith, f, q) in
    let one = times_more n ((page - 128) / w) w fits in
    let two = fit_bytes page w in
    let e = length-append (rows_of_page t kinds p.page) (joined (lists_in t kinds ps)) in
    let whole : length (rows_of_page t kinds p.page ++ joined (lists_in t kinds ps)) * w ≡ n * w + m * w = ap (λ (z : ℕ). z * w) e ∙ sum_times n m w in
    let pages = sum_times (length (row_pages_in ps)) 1 page in
    omega (arith, whole, one, two, i, pages)

-- ---- the pages of the tables

module _ {Page Pin : Type 0} (t : PoolTerms Page Pin) where
  set_within : (page : ℕ) (columns : List Column) (s : RowSet Page) → IsSetOf t page columns s → length (values_of (set_rows t s)) * width_of (cell_kinds (kinds_of columns)) ≤ length (set_pages s) * page
  set_within page columns s is =
      let n = length (set_cells t s) in
      let within = rows_within t s.layout s.page_bytes s.pages.items is.formed.pages in
      let layout = is.formed.columns.layout_is ∙ ap cell_kinds is.kinds in
      let width : n * width_of s.layout ≡ n * width_of (cell_kinds (kinds_of columns)) = ap (λ (k : List CellKind). n * width_of k) layout in
      let bytes = ap (λ (z : ℕ). length (row_pages_in s.pages.items) * z) is.page_bytes_are in
      let among = times_more (length (row_pages_in s.pages.items)) (length (pages_in s.pages.items)) page (row_pages_among s.pages.items) in
      let rows = length_mapped (λ (row : SetRow). row.values) (set_rows t s) ∙ length_mapped (row_as s.kinds) (set_cells t s) in
      let all = ap (λ (z : ℕ). z * width_of (cell_kinds (kinds_of columns))) rows in
      omega (arith, within, width, bytes, among, all)

  sets_within : (page : ℕ) (columns : List Column) (sets : List (RowSet Page)) → AllSetsOf t page columns sets → length (sets_rows t sets) * width_of (cell_kinds (kinds_of columns)) ≤ length (sets_pages sets) * page
  sets_within page columns [] all = grind arith
  sets_within page columns (s ∷ ss) all =
      let w = width_of (cell_kinds (kinds_of columns)) in
      let i = sets_within page columns ss all.1 in
      let here = set_within page columns s all.0 in
      let n = length (values_of (set_rows t s)) in
      let m = length (sets_rows t ss) in
      let rows : length (values_of (set_rows t s) ++ sets_rows t ss) * w ≡ n * w + m * w = ap (λ (z : ℕ). z * w) (length-append (values_of (set_rows t s)) (sets_rows t ss)) ∙ sum_times n m w in
      let pages : length (set_pages s ++ sets_pages ss) * page ≡ length (set_pages s) * page + length (sets_pages ss) * page = ap (λ (z : ℕ). z * page) (length-append (set_pages s) (sets_pages ss)) ∙ sum_times (length (set_pages s)) (length (sets_pages ss)) page in
      omega (arith, i, here, rows, pages)

  table_within : (page : ℕ) (table : TableColumns) (rows : TableRows Page) → 1 ≤ page → IsTableOf t page table rows → table_need page (table_of t table rows) ≤ length (sets_pages rows.sets.items)
  table_within page table rows some is = within_pages page (length (sets_rows t rows.sets.items) * width_of (cell_kinds (kinds_of table.columns))) (length (sets_pages rows.sets.items)) some (sets_within page table.columns rows.sets.items is.sets)

  tables_within : (page : ℕ) (tables : List TableColumns) (rows : List (TableRows Page)) → 1 ≤ page → AllTables t page tables rows → catalog_need page (tables_with t tables rows) ≤ length (rows_pages rows)
  tables_within page [] rows some all = omega arith
  tables_within page (table ∷ tables) [] some all = omega arith
  tables_within page (table ∷ tables) (first ∷ rows) some all =
      let i = tables_within page tables rows some all.1 in
      let one = table_within page table first some all.0 in
      let e = length-append (sets_pages first.sets.items) (rows_pages rows) in
      omega (arith, i, one, e)

  -- of a pool that wrote what no frame can hold
  pub catalog_written : (a : PoolView Page Pin) (c : Catalog Page) → IsPage a.page_bytes → Stands t c → AreHere a c → WereWritten t a → a.wrote < 2 ^ 64 - 1 → catalog_need a.page_bytes (catalog_of t c) ≤ a.grant + a.wrote
  catalog_written a c page stands here law below =
      let need = tables_within c.page_bytes c.tables.items c.rows.items (some_page c.page_bytes (subst IsPage (sym here.page_bytes) page)) stands.tables in
      let same = ap (λ (n : ℕ). catalog_need n (catalog_of t c)) here.page_bytes in
      let wrote = law (catalog_pages c) here.live stands.differ below in
      omega (arith, need, same, wrote)
