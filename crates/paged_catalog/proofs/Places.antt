-- Tables beside their rows, place by place: with one changed, added or taken away.
use Rattle.std.proofs.Common.{◌≡◌, ℕ, suc, zero, ◌<◌, List, [], ◌∷◌, ◌++◌, length, get_or, set, refl, sym, ap, subst, arith}
use Rattle.std.specs.List.{remove}
use Rattle.ooc_types.specs.declared.schema.Column.{Column}
use Rattle.sql_scope.specs.declared.scope.TableColumns.{TableColumns}
use Rattle.page_body.specs.View.{PoolTerms}
use Rattle.row_sets.specs.declared.row_set.RowSet.{RowSet}
use Rattle.paged_catalog.specs.declared.catalog.TableRows.{TableRows}
use Rattle.paged_catalog.specs.Stands.{IsSetOf, AllSetsOf, IsTableOf, AllTables, AllFormed, AllRowsFormed}

module _ {Page Pin : Type 0} (t : PoolTerms Page Pin) (page_bytes : ℕ) where
  pub same_count : (ts : List TableColumns) (rs : List (TableRows Page)) → AllTables t page_bytes ts rs → length ts ≡ length rs
  same_count [] [] all = refl
  same_count [] (y ∷ ys) all = absurd all
  same_count (x ∷ xs) [] all = absurd all
  same_count (x ∷ xs) (y ∷ ys) all = ap suc (same_count xs ys all.1)

  -- the table in a place, with its rows
  pub table_at : (ts : List TableColumns) (rs : List (TableRows Page)) (i : ℕ) (c : TableColumns) (r : TableRows Page) → i < length rs → c ≡ get_or ts i c → r ≡ get_or rs i r → AllTables t page_bytes ts rs → IsTableOf t page_bytes c r
  table_at [] [] i c r h of_table of_rows all = absurd (omega (arith, h))
  table_at [] (y ∷ ys) i c r h of_table of_rows all = absurd all
  table_at (x ∷ xs) [] i c r h of_table of_rows all = absurd all
  table_at (x ∷ xs) (y ∷ ys) zero c r h of_table of_rows all =
      subst (λ k. IsTableOf t page_bytes k r) (sym of_table) (subst (λ k. IsTableOf t page_bytes x k) (sym of_rows) all.0)
  table_at (x ∷ xs) (y ∷ ys) (suc i) c r h of_table of_rows all = table_at xs ys i c r (omega (arith, h)) of_table of_rows all.1

  pub table_set : (ts : List TableColumns) (rs : List (TableRows Page)) (i : ℕ) (c : TableColumns) (v : TableRows Page) → i < length rs → c ≡ get_or ts i c → AllTables t page_bytes ts rs → IsTableOf t page_bytes c v → AllTables t page_bytes ts (set rs i v)
  table_set [] [] i c v h of_table all is = absurd (omega (arith, h))
  table_set [] (y ∷ ys) i c v h of_table all is = absurd all
  table_set (x ∷ xs) [] i c v h of_table all is = absurd all
  table_set (x ∷ xs) (y ∷ ys) zero c v h of_table all is = (subst (λ k. IsTableOf t page_bytes k v) of_table is, all.1)
  table_set (x ∷ xs) (y ∷ ys) (suc i) c v h of_table all is = (all.0, table_set xs ys i c v (omega (arith, h)) of_table all.1 is)

  pub table_pushed : (ts : List TableColumns) (rs : List (TableRows Page)) (c : TableColumns) (r : TableRows Page) → AllTables t page_bytes ts rs → IsTableOf t page_bytes c r → AllTables t page_bytes (ts ++ c ∷ []) (rs ++ r ∷ [])
  table_pushed [] [] c r all is = (is, tt)
  table_pushed [] (y ∷ ys) c r all is = absurd all
  table_pushed (x ∷ xs) [] c r all is = absurd all
  table_pushed (x ∷ xs) (y ∷ ys) c r all is = (all.0, table_pushed xs ys c r all.1 is)

  pub table_removed : (ts : List TableColumns) (rs : List (TableRows Page)) (i : ℕ) → i < length rs → AllTables t page_bytes ts rs → AllTables t page_bytes (remove ts i) (remove rs i)
  table_removed [] [] i h all = absurd (omega (arith, h))
  table_removed [] (y ∷ ys) i h all = absurd all
  table_removed (x ∷ xs) [] i h all = absurd all
  table_removed (x ∷ xs) (y ∷ ys) zero h all = all.1
  table_removed (x ∷ xs) (y ∷ ys) (suc i) h all = (all.0, table_removed xs ys i (omega (arith, h)) all.1)

  -- one set more of a table
  pub sets_pushed : (columns : List Column) (ss : List (RowSet Page)) (s : RowSet Page) → AllSetsOf t page_bytes columns ss → IsSetOf t page_bytes columns s → AllSetsOf t page_bytes columns (ss ++ s ∷ [])
  sets_pushed columns [] s all is = (is, tt)
  sets_pushed columns (x ∷ xs) s all is = (all.0, sets_pushed columns xs s all.1 is)

  -- sets are formed
  pub sets_formed : (columns : List Column) (ss : List (RowSet Page)) → AllSetsOf t page_bytes columns ss → AllFormed t page_bytes ss
  sets_formed columns [] all = tt
  sets_formed columns (x ∷ xs) all = ((all.0.formed, all.0.page_bytes_are), sets_formed columns xs all.1)

  pub rows_formed : (ts : List TableColumns) (rs : List (TableRows Page)) → AllTables t page_bytes ts rs → AllRowsFormed t page_bytes rs
  rows_formed [] [] all = tt
  rows_formed [] (y ∷ ys) all = absurd all
  rows_formed (x ∷ xs) [] all = absurd all
  rows_formed (x ∷ xs) (y ∷ ys) all = (sets_formed x.columns y.sets.items all.0.sets, rows_formed xs ys all.1)

  -- the last of a list that is taken from its end
  pub last_formed : (ss : List (RowSet Page)) (s : RowSet Page) → AllFormed t page_bytes (ss ++ s ∷ []) → AllFormed t page_bytes (s ∷ [])
  last_formed [] s all = all
  last_formed (x ∷ xs) s all = last_formed xs s all.1

  pub left_formed : (ss : List (RowSet Page)) (s : RowSet Page) → AllFormed t page_bytes (ss ++ s ∷ []) → AllFormed t page_bytes ss
  left_formed [] s all = tt
  left_formed (x ∷ xs) s all = (all.0, left_formed xs s all.1)

  pub last_rows_formed : (rs : List (TableRows Page)) (r : TableRows Page) → AllRowsFormed t page_bytes (rs ++ r ∷ []) → AllFormed t page_bytes r.sets.items
  last_rows_formed [] r all = all.0
  last_rows_formed (x ∷ xs) r all = last_rows_formed xs r all.1

  pub left_rows_formed : (rs : List (TableRows Page)) (r : TableRows Page) → AllRowsFormed t page_bytes (rs ++ r ∷ []) → AllRowsFormed t page_bytes rs
  left_rows_formed [] r all = tt
  left_rows_formed (x ∷ xs) r all = (all.0, left_rows_formed xs r all.1)
