-- The rows of tables are rows of their columns.
use Rattle.std.proofs.Common.{ℕ, Bool, true, false, cond, List, [], ◌∷◌, ◌++◌, Option, Some, sym, ap, ◌∙◌, subst}
use Rattle.std.specs.Prelude.{IfSome}
use Rattle.std.specs.Str.{bytes_eq}
use Rattle.ooc_types.specs.declared.value.Value.{Value}
use Rattle.ooc_types.specs.declared.schema.Column.{Column}
use Rattle.row_image.specs.Rules.{text_limit}
use Rattle.sql_scope.specs.declared.scope.TableColumns.{TableColumns}
use Rattle.page_body.specs.View.{PoolTerms}
use Rattle.row_sets.specs.Sets.{set_rows}
use Rattle.row_sets.specs.declared.row_set.RowSet.{RowSet}
use Rattle.csv_tables.specs.Stored.{AreOf}
use Rattle.script_says.specs.Catalog as says
use Rattle.paged_catalog.specs.declared.catalog.TableRows.{TableRows}
use Rattle.paged_catalog.specs.Meaning.{values_of, sets_rows, table_of, tables_with}
use Rattle.paged_catalog.specs.Stands.{AllSetsOf, AllTables}
use Rattle.paged_catalog.proofs.Meant.{stored_values}

either_of : {A : Type 0} (P : A → Type 0) (b : Bool) (x : A) (o : Option A) → P x → IfSome o P → IfSome (cond b (Some x) o) P
either_of P true x o h k = h
either_of P false x o h k = k

all_behind : (limit : ℕ) (columns : List Column) (rows more : List (List Value)) → AreOf limit columns rows → AreOf limit columns more → AreOf limit columns (rows ++ more)
all_behind limit columns [] more h k = k
all_behind limit columns (row ∷ rows) more h k = (h.0, all_behind limit columns rows more h.1 k)

module _ {Page Pin : Type 0} (t : PoolTerms Page Pin) (page_bytes : ℕ) where
  sets_are_of : (columns : List Column) (ss : List (RowSet Page)) → AllSetsOf t page_bytes columns ss → AreOf (text_limit page_bytes) columns (sets_rows t ss)
  sets_are_of columns [] all = tt
  sets_are_of columns (s ∷ ss) all =
      let table = all.0.table in
      all_behind (text_limit page_bytes) columns (values_of (set_rows t s)) (sets_rows t ss)
      (subst (AreOf (text_limit page_bytes) columns) (sym (ap values_of table.stores ∙ stored_values table.rows)) table.of) (sets_are_of columns ss all.1)

  pub rows_are_of : (ts : List TableColumns) (rs : List (TableRows Page)) (name : List ℕ) → AllTables t page_bytes ts rs → IfSome (says.table_at (tables_with t ts rs) name) (λ table. AreOf (text_limit page_bytes) table.columns table.rows)
  rows_are_of [] rs name all = tt
  rows_are_of (x ∷ xs) [] name all = absurd all
  rows_are_of (x ∷ xs) (y ∷ ys) name all =
      either_of (λ (table : says.Table). AreOf (text_limit page_bytes) table.columns table.rows) (bytes_eq x.name name) (table_of t x y) (says.table_at (tables_with t xs ys) name)
      (sets_are_of x.columns y.sets.items all.0.sets) (rows_are_of xs ys name all.1)
