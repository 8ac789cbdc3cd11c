-- What a call leaves of a catalog as a whole, from what became of one table.
use Rattle.std.proofs.Common.{◌≡◌, ℕ, ◌+◌, ◌<◌, ◌≤◌, false, [], ◌∷◌, ◌++◌, length, get_or, set, refl, sym, ap, ◌∙◌, subst, arith}
use Rattle.std.specs.List.{remove}
use Rattle.sql_scope.specs.declared.scope.TableColumns.{TableColumns}
use Rattle.page_body.specs.View.{PoolTerms, PoolView}
use Rattle.page_body.specs.PageLists.{ids_of, AllLive}
use Rattle.row_sets.specs.Holds.{Holding, nothing, both, pages_only, IsRetirable}
use Rattle.row_sets.specs.Changes.{Changes}
use Rattle.row_sets.specs.Sets.{set_ids, set_holding}
use Rattle.row_sets.proofs.Changed.{live_on, differ_on, changes_none, changes_as, changes_beside}
use Rattle.paged_catalog.specs.declared.catalog.TableRows.{TableRows}
use Rattle.paged_catalog.specs.declared.catalog.Catalog.{Catalog}
use Rattle.paged_catalog.specs.Meaning.{sets_pages, rows_pages, catalog_ids, catalog_pages, catalog_holding}
use Rattle.paged_catalog.specs.Finding.{has_table, NamesDiffer}
use Rattle.paged_catalog.specs.Stands.{AreColumns, IsSetOf, AllSetsOf, IsTableOf, AllTables, Stands, AreHere, Leaves}
use Rattle.paged_catalog.specs.Loading.{HasSetMore, HasSetsStill}
use Rattle.paged_catalog.proofs.Named.{names_pushed, names_removed}
use Rattle.paged_catalog.proofs.Places.{table_at, table_set, table_pushed, table_removed, sets_pushed}
use Rattle.paged_catalog.proofs.Paged.{no_more, ids_set, ids_removed, ids_push, idle_unpinned, live_among, live_set, live_removed, live_push}

-- nothing was done
pub leaves_same : {Page Pin : Type 0} (t : PoolTerms Page Pin) (a : PoolView Page Pin) (old new : Catalog Page) → Stands t old → AreHere a old → new.page_bytes ≡ old.page_bytes → new.tables.items ≡ old.tables.items → new.rows.items ≡ old.rows.items → Leaves t a a old new
leaves_same t a old new stands here length_same tables rows = record {
  stands = record {
    names = subst NamesDiffer (sym tables) stands.names;
    tables = subst (λ n. AllTables t n new.tables.items new.rows.items) (sym length_same) (subst (λ ts. AllTables t old.page_bytes ts new.rows.items) (sym tables) (subst (AllTables t old.page_bytes old.tables.items) (sym rows) stands.tables));
    differ = λ ends y. let e = ap (λ rs. ids_of t (rows_pages rs) y) rows in let m = stands.differ ends y in omega (arith, e, m);
  };
  here = record {
    page_bytes = length_same ∙ here.page_bytes;
    live = subst (λ rs. AllLive a (rows_pages rs)) (sym rows) here.live;
  };
  changes = changes_as t (catalog_holding t old) (catalog_holding t old) (catalog_holding t old) (catalog_holding t new) a a
      (record { pages = λ y. refl; pins = λ y. refl; opens = λ y. refl; held = refl })
      (record { pages = λ y. sym (ap (λ rs. ids_of t (rows_pages rs) y) rows); pins = λ y. refl; opens = λ y. refl; held = refl })
      (changes_none t (catalog_holding t old) a);
}

-- a table of no rows was added behind the others
pub leaves_created : {Page Pin : Type 0} (t : PoolTerms Page Pin) (a : PoolView Page Pin) (old new : Catalog Page) (c : TableColumns) (r : TableRows Page) → Stands t old → AreHere a old
    → has_table old.tables.items c.name ≡ false → AreColumns c.columns → r.sets.items ≡ [] → new.page_bytes ≡ old.page_bytes → new.tables.items ≡ old.tables.items ++ c ∷ [] → new.rows.items ≡ old.rows.items ++ r ∷ [] → Leaves t a a old new
leaves_created t a old new c r stands here free are none length_same tables rows =
    let pages : rows_pages new.rows.items ≡ rows_pages old.rows.items = ap rows_pages rows ∙ no_more old.rows.items r none in
    record {
      stands = record {
        names = subst NamesDiffer (sym tables) (names_pushed old.tables.items c free stands.names);
        tables = subst (λ n. AllTables t n new.tables.items new.rows.items) (sym length_same) (subst (λ ts. AllTables t old.page_bytes ts new.rows.items) (sym tables) (subst (AllTables t old.page_bytes (old.tables.items ++ c ∷ [])) (sym rows)
            (table_pushed t old.page_bytes old.tables.items old.rows.items c r stands.tables (record { columns = are; sets = subst (AllSetsOf t old.page_bytes c.columns) (sym none) tt }))));
        differ = λ ends y. let e = ap (λ ps. ids_of t ps y) pages in let m = stands.differ ends y in omega (arith, e, m);
      };
      here = record {
        page_bytes = length_same ∙ here.page_bytes;
        live = subst (AllLive a) (sym pages) here.live;
      };
      changes = changes_as t (catalog_holding t old) (catalog_holding t old) (catalog_holding t old) (catalog_holding t new) a a
          (record { pages = λ y. refl; pins = λ y. refl; opens = λ y. refl; held = refl })
          (record { pages = λ y. sym (ap (λ ps. ids_of t ps y) pages); pins = λ y. refl; opens = λ y. refl; held = refl })
          (changes_none t (catalog_holding t old) a);
    }

-- what the pages of a table have of a pool that holds no pins can be retired
pub table_retirable : {Page Pin : Type 0} (t : PoolTerms Page Pin) (a : PoolView Page Pin) (old : Catalog Page) (place : ℕ) (r : TableRows Page) → Stands t old → AreHere a old → ((x y : ℕ) → a.pins x + a.opens y ≤ a.held) → a.held ≡ 0
    → place < length old.rows.items → r ≡ get_or old.rows.items place r → IsRetirable t a (sets_pages r.sets.items)
table_retirable t a old place r stands here among idle within is = record {
  live = live_among t a old.rows.items place r within is here.live;
  differ = λ ends y. let e = ids_removed t old.rows.items place r y within is in let m = stands.differ ends y in omega (arith, e, m);
  unpinned = idle_unpinned t a (ids_of t (sets_pages r.sets.items)) among idle;
}

module _ {Page Pin : Type 0} (t : PoolTerms Page Pin) (a b : PoolView Page Pin) (old new : Catalog Page) (stands : Stands t old) (here : AreHere a old) (length_same : new.page_bytes ≡ old.page_bytes) where
  -- a table was taken away, and its pages were retired
  pub leaves_dropped : (place : ℕ) (r : TableRows Page) → place < length old.rows.items → r ≡ get_or old.rows.items place r → new.tables.items ≡ remove old.tables.items place → new.rows.items ≡ remove old.rows.items place
      → Changes t (pages_only (ids_of t (sets_pages r.sets.items))) nothing a b → Leaves t a b old new
  leaves_dropped place r within is tables rows c =
      let gone : (y : ℕ) → catalog_ids t new y + ids_of t (sets_pages r.sets.items) y ≡ catalog_ids t old y = λ y. ap (λ rs. ids_of t (rows_pages rs) y + ids_of t (sets_pages r.sets.items) y) rows ∙ ids_removed t old.rows.items place r y within is in
      let was : AllLive a (catalog_pages new) = subst (λ rs. AllLive a (rows_pages rs)) (sym rows) (live_removed t a old.rows.items place here.live) in
      record {
        stands = record {
          names = subst NamesDiffer (sym tables) (names_removed old.tables.items place stands.names);
          tables = subst (λ n. AllTables t n new.tables.items new.rows.items) (sym length_same) (subst (λ ts. AllTables t old.page_bytes ts new.rows.items) (sym tables) (subst (AllTables t old.page_bytes (remove old.tables.items place)) (sym rows)
              (table_removed t old.page_bytes old.tables.items old.rows.items place within stands.tables)));
          differ = λ ends y. let e = gone y in let m = stands.differ ends y in omega (arith, e, m);
        };
        here = record {
          page_bytes = length_same ∙ here.page_bytes ∙ sym c.page_bytes;
          live = live_on t (catalog_pages new) (pages_only (ids_of t (sets_pages r.sets.items))) nothing a b c was (λ ends y. let e = gone y in let m = stands.differ ends y in omega (arith, e, m));
        };
        changes = changes_as t (both (pages_only (ids_of t (sets_pages r.sets.items))) (catalog_holding t new)) (catalog_holding t old) (both nothing (catalog_holding t new)) (catalog_holding t new) a b
            (record { pages = λ y. let e = gone y in omega (arith, e); pins = λ y. refl; opens = λ y. refl; held = refl })
            (record { pages = λ y. omega arith; pins = λ y. refl; opens = λ y. refl; held = refl })
            (changes_beside t (pages_only (ids_of t (sets_pages r.sets.items))) nothing (catalog_holding t new) a b c);
      }

  -- the rows of one table were changed, or it was tried
  module _ (place : ℕ) (c : TableColumns) (r v : TableRows Page) (within : place < length old.rows.items) (of_table : c ≡ get_or old.tables.items place c) (is : r ≡ get_or old.rows.items place r) (tables : new.tables.items ≡ old.tables.items) (put : new.rows.items ≡ set old.rows.items place v) where
    was : IsTableOf t old.page_bytes c r
    was = table_at t old.page_bytes old.tables.items old.rows.items place c r within of_table is stands.tables

    new_ids : (y : ℕ) → catalog_ids t new y + ids_of t (sets_pages r.sets.items) y ≡ catalog_ids t old y + ids_of t (sets_pages v.sets.items) y
    new_ids y = ap (λ rs. ids_of t (rows_pages rs) y + ids_of t (sets_pages r.sets.items) y) put ∙ ids_set t old.rows.items place r v y within is

    still : (h k : Holding) → Changes t h k a b → ((y : ℕ) → h.pages y ≡ 0) → AllLive b (catalog_pages old)
    still h k d none = live_on t (catalog_pages old) h k a b d here.live (λ ends y. let m = stands.differ ends y in let z = none y in omega (arith, m, z))

    as_tables : AllSetsOf t old.page_bytes c.columns v.sets.items → AllTables t new.page_bytes new.tables.items new.rows.items
    as_tables sets =
        subst (λ n. AllTables t n new.tables.items new.rows.items) (sym length_same) (subst (λ ts. AllTables t old.page_bytes ts new.rows.items) (sym tables) (subst (AllTables t old.page_bytes old.tables.items) (sym put)
        (table_set t old.page_bytes old.tables.items old.rows.items place c v within of_table stands.tables (record { columns = was.columns; sets = sets }))))

    pub leaves_still : HasSetsStill t a b r.sets.items v.sets.items → Leaves t a b old new
    leaves_still u =
        let same : (y : ℕ) → catalog_ids t new y ≡ catalog_ids t old y = λ y. let e = new_ids y in let f = ap (λ ss. ids_of t (sets_pages ss) y) u.sets in omega (arith, e, f) in
        let live = still nothing nothing u.changes (λ y. refl) in
        record {
          stands = record {
            names = subst NamesDiffer (sym tables) stands.names;
            tables = as_tables (subst (AllSetsOf t old.page_bytes c.columns) (sym u.sets) was.sets);
            differ = λ ends y. let e = same y in let m = stands.differ ends y in omega (arith, e, m);
          };
          here = record {
            page_bytes = length_same ∙ here.page_bytes ∙ sym u.changes.page_bytes;
            live = subst (λ rs. AllLive b (rows_pages rs)) (sym put) (live_set t b old.rows.items place v live (subst (λ ss. AllLive b (sets_pages ss)) (sym u.sets) (live_among t b old.rows.items place r within is live)));
          };
          changes = changes_as t (both nothing (catalog_holding t old)) (catalog_holding t old) (both nothing (catalog_holding t old)) (catalog_holding t new) a b
              (record { pages = λ y. omega arith; pins = λ y. omega arith; opens = λ y. omega arith; held = omega arith })
              (record { pages = λ y. let e = same y in omega (arith, e); pins = λ y. omega arith; opens = λ y. omega arith; held = omega arith })
              (changes_beside t nothing nothing (catalog_holding t old) a b u.changes);
        }

    pub leaves_more : HasSetMore t c.columns a b r.sets.items v.sets.items → Leaves t a b old new
    leaves_more u =
        let more : (y : ℕ) → catalog_ids t new y ≡ set_ids t u.set y + catalog_ids t old y = λ y. let e = new_ids y in let f = ap (λ ss. ids_of t (sets_pages ss) y) u.sets in let g = ids_push t r.sets.items u.set y in omega (arith, e, f, g) in
        let set_is : IsSetOf t old.page_bytes c.columns u.set = subst (λ n. IsSetOf t n c.columns u.set) (sym here.page_bytes) u.is in
        let live = still nothing (set_holding t u.set) u.changes (λ y. refl) in
        let apart = differ_on t (catalog_pages old) nothing (set_holding t u.set) a b u.changes here.live (λ ends y. let m = stands.differ ends y in omega (arith, m)) u.is.formed.differ in
        record {
          stands = record {
            names = subst NamesDiffer (sym tables) stands.names;
            tables = as_tables (subst (AllSetsOf t old.page_bytes c.columns) (sym u.sets) (sets_pushed t old.page_bytes c.columns r.sets.items u.set was.sets set_is));
            differ = λ ends y. let e = more y in let m = apart ends y in omega (arith, e, m);
          };
          here = record {
            page_bytes = length_same ∙ here.page_bytes ∙ sym u.changes.page_bytes;
            live = subst (λ rs. AllLive b (rows_pages rs)) (sym put) (live_set t b old.rows.items place v live (subst (λ ss. AllLive b (sets_pages ss)) (sym u.sets) (live_push t b r.sets.items u.set (live_among t b old.rows.items place r within is live) u.here.live)));
          };
          changes = changes_as t (both nothing (catalog_holding t old)) (catalog_holding t old) (both (set_holding t u.set) (catalog_holding t old)) (catalog_holding t new) a b
              (record { pages = λ y. omega arith; pins = λ y. omega arith; opens = λ y. omega arith; held = omega arith })
              (record { pages = λ y. let e = more y in omega (arith, e); pins = λ y. omega arith; opens = λ y. omega arith; held = omega arith })
              (changes_beside t nothing (set_holding t u.set) (catalog_holding t old) a b u.changes);
        }
