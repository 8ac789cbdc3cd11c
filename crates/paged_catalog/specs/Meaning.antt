-- What a catalog over pages means, and the pages that it has.
use Rattle.std.specs.Prelude.{ℕ, List, [], ◌∷◌, ◌++◌, map}
use Rattle.ooc_types.specs.declared.value.Value.{Value}
use Rattle.sql_scope.specs.declared.scope.TableColumns.{TableColumns}
use Rattle.page_body.specs.View.{PoolTerms}
use Rattle.page_body.specs.PageLists.{ids_of}
use Rattle.row_sets.specs.Holds.{Holding, pages_only}
use Rattle.row_sets.specs.SetRows.{SetRow}
use Rattle.row_sets.specs.Sets.{set_pages, set_rows}
use Rattle.row_sets.specs.declared.row_set.RowSet.{RowSet}
use Rattle.script_says.specs.Catalog as says
use Rattle.paged_catalog.specs.declared.catalog.TableRows.{TableRows}
use Rattle.paged_catalog.specs.declared.catalog.Catalog.{Catalog}

abbrev pub values_of : List SetRow → List (List Value)
values_of rows = map (λ row. row.values) rows

-- the rows of some sets, one set after another
abbrev pub sets_rows : {Page Pin : Type 0} → PoolTerms Page Pin → List (RowSet Page) → List (List Value)
sets_rows t [] = []
sets_rows t (set ∷ sets) = values_of (set_rows t set) ++ sets_rows t sets

abbrev pub table_of : {Page Pin : Type 0} → PoolTerms Page Pin → TableColumns → TableRows Page → says.Table
table_of t table rows = record { name = table.name; columns = table.columns; rows = sets_rows t rows.sets.items }

-- each table with the rows in its place
abbrev pub tables_with : {Page Pin : Type 0} → PoolTerms Page Pin → List TableColumns → List (TableRows Page) → says.Catalog
tables_with t [] rows = []
tables_with t (table ∷ tables) [] = []
tables_with t (table ∷ tables) (first ∷ rows) = table_of t table first ∷ tables_with t tables rows

-- the tables of a catalog
abbrev pub catalog_of : {Page Pin : Type 0} → PoolTerms Page Pin → Catalog Page → says.Catalog
catalog_of t catalog = tables_with t catalog.tables.items catalog.rows.items

-- ---- its pages, as one list

abbrev pub sets_pages : {Page : Type 0} → List (RowSet Page) → List Page
sets_pages [] = []
sets_pages (set ∷ sets) = set_pages set ++ sets_pages sets

abbrev pub rows_pages : {Page : Type 0} → List (TableRows Page) → List Page
rows_pages [] = []
rows_pages (first ∷ rows) = sets_pages first.sets.items ++ rows_pages rows

abbrev pub catalog_pages : {Page : Type 0} → Catalog Page → List Page
catalog_pages catalog = rows_pages catalog.rows.items

abbrev pub catalog_ids : {Page Pin : Type 0} → PoolTerms Page Pin → Catalog Page → ℕ → ℕ
catalog_ids t catalog = ids_of t (catalog_pages catalog)

-- what a catalog has of a pool: pages alone
abbrev pub catalog_holding : {Page Pin : Type 0} → PoolTerms Page Pin → Catalog Page → Holding
catalog_holding t catalog = pages_only (catalog_ids t catalog)
