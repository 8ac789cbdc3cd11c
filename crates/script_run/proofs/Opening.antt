-- A catalog of no tables has no pages.
use Rattle.std.proofs.Common.{◌≡◌, ℕ, List, [], ◌∷◌, refl, ap}
use Rattle.page_body.specs.View.{PoolTerms, PoolView}
use Rattle.page_body.specs.PageLists.{ids_of}
use Rattle.row_sets.specs.Changes.{Changes}
use Rattle.row_sets.specs.Holds.{nothing, SameHolding}
use Rattle.row_sets.proofs.Changed.{changes_as, changes_then}
use Rattle.script_says.specs.Catalog.{no_tables}
use Rattle.sql_scope.specs.declared.scope.TableColumns.{TableColumns}
use Rattle.paged_catalog.specs.declared.catalog.Catalog.{Catalog}
use Rattle.paged_catalog.specs.declared.catalog.TableRows.{TableRows}
use Rattle.paged_catalog.specs.Meaning.{catalog_of, catalog_holding, tables_with, rows_pages}
use Rattle.paged_catalog.specs.Stands.{AllTables, Stands, Leaves}

module _ {Page Pin : Type 0} (t : PoolTerms Page Pin) where
  no_rows : (page : ℕ) (tables : List TableColumns) (rows : List (TableRows Page)) → AllTables t page tables rows → tables_with t tables rows ≡ no_tables → rows ≡ []
  no_rows page [] [] all none = refl
  no_rows page [] (first ∷ rows) all none = absurd all
  no_rows page (table ∷ tables) [] all none = absurd all
  no_rows page (table ∷ tables) (first ∷ rows) all none = absurd (cc none)

  nothing_held : (catalog : Catalog Page) → Stands t catalog → catalog_of t catalog ≡ no_tables → SameHolding (catalog_holding t catalog) nothing
  nothing_held catalog stands none =
      let e = no_rows catalog.page_bytes catalog.tables.items catalog.rows.items stands.tables none in
      record { pages = λ y. ap (λ (rows : List (TableRows Page)). ids_of t (rows_pages rows) y) e; pins = λ y. refl; opens = λ y. refl; held = refl }

  -- from no tables on, until all pages are given back
  pub from_nothing : (a b c : PoolView Page Pin) (first last : Catalog Page) → Stands t first → catalog_of t first ≡ no_tables → Leaves t a b first last → Changes t (catalog_holding t last) nothing b c → Changes t nothing nothing a c
  from_nothing a b c first last stands none leaves retired =
      changes_as t (catalog_holding t first) nothing nothing nothing a c (nothing_held first stands none) (record { pages = λ y. refl; pins = λ y. refl; opens = λ y. refl; held = refl })
      (changes_then t (catalog_holding t first) (catalog_holding t last) nothing a b c leaves.changes retired)
