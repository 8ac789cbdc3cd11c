-- The sets of a table as its readers ask them.
use Rattle.std.proofs.Common.{◌≡◌, ℕ, suc, zero, ◌+◌, ◌<◌, ◌≤◌, List, [], ◌∷◌, length, get_or, sym, ap, ◌∙◌, subst, arith}
use Rattle.std.specs.Prelude.{IsSomeAnd}
use Rattle.std.specs.List.{All}
use Rattle.ooc_types.specs.declared.schema.Column.{Column}
use Rattle.row_image.specs.Rules.{text_limit}
use Rattle.page_body.specs.View.{PoolTerms, PoolView}
use Rattle.page_body.specs.PageLists.{ids_of, AllLive}
use Rattle.row_sets.specs.Sets.{set_pages, row_pages_in}
use Rattle.row_sets.specs.declared.row_set.RowSet.{RowSet}
use Rattle.row_sets.proofs.Retired.{live_left, live_right}
use Rattle.csv_tables.specs.Loading.{IsTable}
use Rattle.script_says.specs.Catalog as says
use Rattle.paged_catalog.specs.declared.catalog.TableRows.{TableRows}
use Rattle.paged_catalog.specs.declared.catalog.Catalog.{Catalog}
use Rattle.paged_catalog.specs.Meaning.{sets_rows, sets_pages, catalog_of}
use Rattle.paged_catalog.specs.Finding.{IsFirst}
use Rattle.paged_catalog.specs.Stands.{AllSetsOf, Stands, AreHere, IsReadable, AreSetsOf}
use Rattle.paged_catalog.proofs.Named.{found, first_within}
use Rattle.paged_catalog.proofs.Meant.{at_first}
use Rattle.paged_catalog.proofs.Places.{same_count, table_at}
use Rattle.paged_catalog.proofs.Paged.{live_among, idle_unpinned}

module _ {Page Pin : Type 0} (t : PoolTerms Page Pin) (a : PoolView Page Pin) (among : (x y : ℕ) → a.pins x + a.opens y ≤ a.held) (idle : a.held ≡ 0) where
  all_readable : (page_bytes : ℕ) (columns : List Column) (ss : List (RowSet Page)) → page_bytes ≡ a.page_bytes → AllSetsOf t page_bytes columns ss → AllLive a (sets_pages ss) → All (IsReadable t a columns) ss
  all_readable page_bytes columns [] same all live k d h = absurd (omega (arith, h))
  all_readable page_bytes columns (x ∷ xs) same all live zero d h = record {
    formed = all.0.formed;
    here = record { page_bytes = all.0.page_bytes_are ∙ same; live = live_left t a (set_pages x) (sets_pages xs) live };
    alone = idle_unpinned t a (ids_of t (row_pages_in x.pages.items)) among idle;
    kinds = all.0.kinds;
    table = subst (λ n. IsTable t (text_limit n) columns x) same all.0.table;
  }
  all_readable page_bytes columns (x ∷ xs) same all live (suc k) d h =
      all_readable page_bytes columns xs same all.1 (live_right t a (set_pages x) (sets_pages xs) live) k d (omega (arith, h))

  -- those of the first table of a name
  pub sets_found : (catalog : Catalog Page) (name : List ℕ) (place : ℕ) (r : TableRows Page) (sets : List (RowSet Page)) → Stands t catalog → AreHere a catalog → IsFirst catalog.tables.items name place → r ≡ get_or catalog.rows.items place r → sets ≡ r.sets.items
      → IsSomeAnd (says.table_at (catalog_of t catalog) name) (λ table. AreSetsOf t a table sets)
  sets_found catalog name place r sets stands here first is are =
      let ts = catalog.tables.items in
      let rs = catalog.rows.items in
      let c = found ts name place first in
      let count = same_count t catalog.page_bytes ts rs stands.tables in
      let in_names = first_within ts name place first in
      let within : place < length rs = omega (arith, count, in_names) in
      let table = table_at t catalog.page_bytes ts rs place c.0 r within c.1 is stands.tables in
      subst (λ o. IsSomeAnd o (λ table. AreSetsOf t a table sets)) (sym (at_first t ts rs name place c.0 r first within c.1 is))
      (record {
        rows = ap (sets_rows t) are;
        each = subst (All (IsReadable t a c.0.columns)) (sym are) (all_readable catalog.page_bytes c.0.columns r.sets.items here.page_bytes table.sets (live_among t a rs place r within is here.live));
      })
