-- What a load makes of the tables, from what it makes of the sets of one.
use Rattle.std.proofs.Common.{◌≡◌, ℕ, ◌<◌, false, List, [], ◌∷◌, ◌++◌, length, get_or, set, Option, None, Some, sym, ap, ◌∙◌, subst}
use Rattle.std.specs.Prelude.{Result, Ok, Err, IfSome, IsSome, is_some, OnOk, OnErr}
use Rattle.std.proofs.lemmas.Bool.{false≢true}
use Rattle.ooc_types.specs.declared.value.Value.{Value}
use Rattle.ooc_types.specs.declared.schema.Column.{Column}
use Rattle.sql_scope.specs.declared.scope.TableColumns.{TableColumns}
use Rattle.page_body.specs.View.{PoolTerms, PoolView}
use Rattle.row_sets.specs.Sets.{set_rows}
use Rattle.row_sets.specs.declared.row_set.RowSet.{RowSet}
use Rattle.csv_load.specs.declared.fault.Refusal.{Refusal}
use Rattle.csv_tables.specs.declared.fault.LoadFault.{LoadFault}
use Rattle.csv_tables.specs.declared.fault.LoadFault.TheVariants as load
use Rattle.csv_tables.specs.Loading.{Loads}
use Rattle.script_says.specs.Catalog as says
use Rattle.paged_catalog.specs.declared.catalog.TableRows.{TableRows}
use Rattle.paged_catalog.specs.declared.catalog.Catalog.{Catalog}
use Rattle.paged_catalog.specs.Meaning.{values_of, sets_rows, tables_with}
use Rattle.paged_catalog.specs.Finding.{has_table, IsFirst}
use Rattle.paged_catalog.specs.Stands.{Stands, AreHere, Leaves}
use Rattle.paged_catalog.specs.Loading.{AddsRows, LoadsInto, AddsSet, AddsMeant}
use Rattle.paged_catalog.proofs.Meant.{stored_values, rows_push, absent, at_first, set_more, set_still}
use Rattle.paged_catalog.proofs.Left.{leaves_still, leaves_more}

module _ {Page Pin : Type 0} (t : PoolTerms Page Pin) where
  -- a set that was loaded, behind the others
  meant_added : (meant : Result (List (List Value)) Refusal) (old new : List (RowSet Page)) (one : RowSet Page) → Loads t meant (Ok one) → new ≡ old ++ one ∷ [] → AddsMeant t meant old new (Ok tt)
  meant_added meant old new one l added =
      (l.0, l.1, ap (sets_rows t) added ∙ rows_push t old one ∙ ap (λ rows. sets_rows t old ++ rows) (ap values_of l.2 ∙ stored_values l.0))

  pub meant_told : {X : Type 0} (told : Option X) (meant : X → Result (List (List Value)) Refusal) (old new : List (RowSet Page)) (one : RowSet Page) → IfSome told (λ x. Loads t (meant x) (Ok one)) → new ≡ old ++ one ∷ [] → IfSome told (λ x. AddsMeant t (meant x) old new (Ok tt))
  meant_told None meant old new one l added = tt
  meant_told (Some x) meant old new one l added = meant_added (meant x) old new one l added

  -- a name that is there isn't absent
  pub there_first : (ts : List TableColumns) (rs : List (TableRows Page)) (name : List ℕ) → IsSome (says.table_at (tables_with t ts rs) name) → has_table ts name ≡ false → ⊥
  there_first ts rs name some none = false≢true (sym (ap is_some (absent t ts rs name none)) ∙ some)

  module _ (ts : List TableColumns) (rs : List (TableRows Page)) (name : List ℕ) (place : ℕ) (c : TableColumns) (r v : TableRows Page) (first : IsFirst ts name place) (within : place < length rs) (of_table : c ≡ get_or ts place c) (is : r ≡ get_or rs place r) where
    goes_into : (meant : Result (List (List Value)) Refusal) (result : Result (Unit {0}) LoadFault) → AddsMeant t meant r.sets.items v.sets.items result → LoadsInto meant (tables_with t ts rs) name (tables_with t ts (set rs place v)) result
    goes_into meant (Err (load.Refused why)) h = h
    goes_into meant (Err load.Read) h = tt
    goes_into meant (Err (load.Pool fault)) h = tt
    goes_into meant (Err load.OutOfMemory) h = tt
    goes_into meant (Ok u) h = (h.0, h.1, set_more t ts rs name place r v h.0 first within is h.2)

    pub meant_into : {X : Type 0} (told : Option X) (meant : X → List Column → Result (List (List Value)) Refusal) (result : Result (Unit {0}) LoadFault)
        → IfSome told (λ x. AddsMeant t (meant x c.columns) r.sets.items v.sets.items result)
        → IfSome told (λ x. IfSome (says.table_at (tables_with t ts rs) name) (λ table. LoadsInto (meant x table.columns) (tables_with t ts rs) name (tables_with t ts (set rs place v)) result))
    meant_into None meant result h = tt
    meant_into (Some x) meant result h =
        subst (λ o. IfSome o (λ table. LoadsInto (meant x table.columns) (tables_with t ts rs) name (tables_with t ts (set rs place v)) result)) (sym (at_first t ts rs name place c r first within of_table is))
        (goes_into (meant x c.columns) result h)

    pub adds_some : (columns : List Column) (a b : PoolView Page Pin) (result : Result (Unit {0}) LoadFault) → AddsSet t columns a b r.sets.items v.sets.items result → OnOk result (AddsRows (tables_with t ts rs) name (tables_with t ts (set rs place v)))
    adds_some columns a b (Err fault) h = tt
    adds_some columns a b (Ok u) h =
        let rows = values_of (set_rows t h.set) in
        (rows, set_more t ts rs name place r v rows first within is (ap (sets_rows t) h.sets ∙ rows_push t r.sets.items h.set))

    pub adds_none : (columns : List Column) (a b : PoolView Page Pin) (result : Result (Unit {0}) LoadFault) → AddsSet t columns a b r.sets.items v.sets.items result → OnErr result (tables_with t ts (set rs place v) ≡ tables_with t ts rs)
    adds_none columns a b (Err fault) h = set_still t ts rs place r v is h.sets
    adds_none columns a b (Ok u) h = tt

  pub leaves_tried : (a b : PoolView Page Pin) (old new : Catalog Page) → Stands t old → AreHere a old → new.page_bytes ≡ old.page_bytes → (place : ℕ) (c : TableColumns) (r v : TableRows Page) → place < length old.rows.items → c ≡ get_or old.tables.items place c → r ≡ get_or old.rows.items place r → new.tables.items ≡ old.tables.items → new.rows.items ≡ set old.rows.items place v
      → (result : Result (Unit {0}) LoadFault) → AddsSet t c.columns a b r.sets.items v.sets.items result → Leaves t a b old new
  leaves_tried a b old new stands here same place c r v within of_table is tables put (Err fault) h = leaves_still t a b old new stands here same place c r v within of_table is tables put h
  leaves_tried a b old new stands here same place c r v within of_table is tables put (Ok u) h = leaves_more t a b old new stands here same place c r v within of_table is tables put h
