-- When a catalog over pages stands, and what calls leave of it.
use Rattle.std.specs.Prelude.{◌≡◌, ℕ, ◌≤◌, true, List, [], ◌∷◌, length, ⊤}
use Rattle.std.specs.List.{All}
use Rattle.ooc_types.specs.declared.schema.Column.{Column}
use Rattle.row_image.specs.Rules.{text_limit}
use Rattle.sql_scope.specs.declared.scope.TableColumns.{TableColumns}
use Rattle.page_body.specs.View.{PoolTerms, PoolView}
use Rattle.page_body.specs.PageLists.{Differ, AllLive}
use Rattle.row_sets.specs.Changes.{Changes}
use Rattle.row_sets.specs.Sets.{Formed, IsHere, NoRowPins}
use Rattle.row_sets.specs.declared.row_set.RowSet.{RowSet}
use Rattle.csv_load.specs.Values.{are_typed}
use Rattle.csv_tables.specs.Loading.{IsTable}
use Rattle.csv_tables.specs.Stored.{kinds_of}
use Rattle.script_says.specs.Catalog as says
use Rattle.paged_catalog.specs.declared.catalog.TableRows.{TableRows}
use Rattle.paged_catalog.specs.declared.catalog.Catalog.{Catalog}
use Rattle.paged_catalog.specs.Meaning.{sets_rows, catalog_ids, catalog_pages, catalog_holding}
use Rattle.paged_catalog.specs.Finding.{NamesDiffer}

-- ---- what is known of it whatever is called: it speaks of no state

-- the columns of a table: 1 to 64, of types that a column may have
pub record AreColumns (columns : List Column) : Type 0 where
  pub some : 1 ≤ length columns
  pub few : length columns ≤ 64
  pub typed : are_typed columns ≡ true

-- a set of a table with these columns: it is formed, of pages of this length, and its rows are rows of the table
pub record IsSetOf {Page Pin : Type 0} (t : PoolTerms Page Pin) (page_bytes : ℕ) (columns : List Column) (set : RowSet Page) : Type 0 where
  pub formed : Formed t set
  pub page_bytes_are : set.page_bytes ≡ page_bytes
  pub kinds : set.kinds ≡ kinds_of columns
  pub table : IsTable t (text_limit page_bytes) columns set

abbrev pub AllSetsOf : {Page Pin : Type 0} → PoolTerms Page Pin → ℕ → List Column → List (RowSet Page) → Type 0
AllSetsOf t page_bytes columns [] = ⊤
AllSetsOf t page_bytes columns (set ∷ sets) = IsSetOf t page_bytes columns set × AllSetsOf t page_bytes columns sets

pub record IsTableOf {Page Pin : Type 0} (t : PoolTerms Page Pin) (page_bytes : ℕ) (table : TableColumns) (rows : TableRows Page) : Type 0 where
  pub columns : AreColumns table.columns
  pub sets : AllSetsOf t page_bytes table.columns rows.sets.items

-- as many tables as places with rows, and each is one with the rows in its place
abbrev pub AllTables : {Page Pin : Type 0} → PoolTerms Page Pin → ℕ → List TableColumns → List (TableRows Page) → Type 0
AllTables t page_bytes [] [] = ⊤
AllTables t page_bytes [] (first ∷ rows) = ⊥
AllTables t page_bytes (table ∷ tables) [] = ⊥
AllTables t page_bytes (table ∷ tables) (first ∷ rows) = IsTableOf t page_bytes table first × AllTables t page_bytes tables rows

-- the names differ, and so do all pages
pub record Stands {Page Pin : Type 0} (t : PoolTerms Page Pin) (catalog : Catalog Page) : Type 0 where
  pub names : NamesDiffer catalog.tables.items
  pub tables : AllTables t catalog.page_bytes catalog.tables.items catalog.rows.items
  pub differ : Differ t (catalog_ids t catalog)

-- ---- what of it depends on the state

-- its pages are live, in a pool of such pages
pub record AreHere {Page Pin : Type 0} (a : PoolView Page Pin) (catalog : Catalog Page) : Type 0 where
  pub page_bytes : catalog.page_bytes ≡ a.page_bytes
  pub live : AllLive a (catalog_pages catalog)

-- what a call that may change a catalog leaves: a catalog that stands, and a view changed by its pages alone
pub record Leaves {Page Pin : Type 0} (t : PoolTerms Page Pin) (a b : PoolView Page Pin) (old new : Catalog Page) : Type 0 where
  pub stands : Stands t new
  pub here : AreHere b new
  pub changes : Changes t (catalog_holding t old) (catalog_holding t new) a b

-- ---- what a reader of a table asks

-- a set that can be read: it stands, is here, has no pins, and the columns that are read
pub record IsReadable {Page Pin : Type 0} (t : PoolTerms Page Pin) (a : PoolView Page Pin) (columns : List Column) (set : RowSet Page) : Type 0 where
  pub formed : Formed t set
  pub here : IsHere a set
  pub alone : NoRowPins t a set
  pub kinds : set.kinds ≡ kinds_of columns
  pub table : IsTable t (text_limit a.page_bytes) columns set

-- the sets of a table have its rows, one set after another, and each can be read
pub record AreSetsOf {Page Pin : Type 0} (t : PoolTerms Page Pin) (a : PoolView Page Pin) (table : says.Table) (sets : List (RowSet Page)) : Type 0 where
  pub rows : sets_rows t sets ≡ table.rows
  pub each : All (IsReadable t a table.columns) sets

-- ---- what is asked of sets that are retired

abbrev pub AllFormed : {Page Pin : Type 0} → PoolTerms Page Pin → ℕ → List (RowSet Page) → Type 0
AllFormed t page_bytes [] = ⊤
AllFormed t page_bytes (set ∷ sets) = (Formed t set × (set.page_bytes ≡ page_bytes)) × AllFormed t page_bytes sets

abbrev pub AllRowsFormed : {Page Pin : Type 0} → PoolTerms Page Pin → ℕ → List (TableRows Page) → Type 0
AllRowsFormed t page_bytes [] = ⊤
AllRowsFormed t page_bytes (first ∷ rows) = AllFormed t page_bytes first.sets.items × AllRowsFormed t page_bytes rows
