-- What tables with rows in their places mean: by a name, with one changed, added or taken away.
use Rattle.std.proofs.Common.{◌≡◌, ℕ, suc, zero, ◌<◌, Bool, true, false, cond, List, [], ◌∷◌, ◌++◌, length, get_or, set, Option, None, Some, refl, sym, ap, ◌∙◌, arith, append_assoc, append-nil}
use Rattle.std.specs.Prelude.{is_some}
use Rattle.std.specs.Str.{bytes_eq}
use Rattle.std.specs.List.{remove}
use Rattle.ooc_types.specs.declared.value.Value.{Value}
use Rattle.sql_scope.specs.declared.scope.TableColumns.{TableColumns}
use Rattle.page_body.specs.View.{PoolTerms}
use Rattle.row_sets.specs.Sets.{set_rows}
use Rattle.row_sets.specs.declared.row_set.RowSet.{RowSet}
use Rattle.csv_tables.specs.Stored.{stored}
use Rattle.script_says.specs.Catalog as says
use Rattle.paged_catalog.specs.declared.catalog.TableRows.{TableRows}
use Rattle.paged_catalog.specs.Meaning.{values_of, sets_rows, table_of, tables_with}
use Rattle.paged_catalog.specs.Finding.{has_table, IsFirst}
use Rattle.paged_catalog.proofs.Named.{neither}

-- the values of rows as they are stored
pub stored_values : (rows : List (List Value)) → values_of (stored rows) ≡ rows
stored_values [] = refl
stored_values (row ∷ rows) = ap (λ rs. row ∷ rs) (stored_values rows)

map_some : {A : Type 0} (b : Bool) (x : A) (o : Option A) → is_some (cond b (Some x) o) ≡ cond b true (is_some o)
map_some true x o = refl
map_some false x o = refl

module _ {Page Pin : Type 0} (t : PoolTerms Page Pin) where
  -- one set more
  pub rows_push : (sets : List (RowSet Page)) (set : RowSet Page) → sets_rows t (sets ++ set ∷ []) ≡ sets_rows t sets ++ values_of (set_rows t set)
  rows_push [] set = append-nil (values_of (set_rows t set))
  rows_push (s ∷ ss) set = ap (λ z. values_of (set_rows t s) ++ z) (rows_push ss set) ∙ sym (append_assoc (values_of (set_rows t s)) (sets_rows t ss) (values_of (set_rows t set)))

  -- no table of a name
  pub absent : (ts : List TableColumns) (rs : List (TableRows Page)) (name : List ℕ) → has_table ts name ≡ false → says.table_at (tables_with t ts rs) name ≡ None
  absent [] rs name none = refl
  absent (c ∷ cs) [] name none = refl
  absent (c ∷ cs) (r ∷ rs) name none =
      let apart = neither (bytes_eq c.name name) (has_table cs name) none in
      ap (λ b. cond b (Some (table_of t c r)) (says.table_at (tables_with t cs rs) name)) apart.0 ∙ absent cs rs name apart.1

  -- whether there is one
  pub there : (ts : List TableColumns) (rs : List (TableRows Page)) (name : List ℕ) → length ts ≡ length rs → is_some (says.table_at (tables_with t ts rs) name) ≡ has_table ts name
  there [] rs name same = refl
  there (c ∷ cs) [] name same = absurd (omega (arith, same))
  there (c ∷ cs) (r ∷ rs) name same =
      map_some (bytes_eq c.name name) (table_of t c r) (says.table_at (tables_with t cs rs) name) ∙ ap (cond (bytes_eq c.name name) true) (there cs rs name (omega (arith, same)))

  -- the first table of a name
  pub at_first : (ts : List TableColumns) (rs : List (TableRows Page)) (name : List ℕ) (i : ℕ) (c : TableColumns) (r : TableRows Page) → IsFirst ts name i → i < length rs → c ≡ get_or ts i c → r ≡ get_or rs i r
      → says.table_at (tables_with t ts rs) name ≡ Some (table_of t c r)
  at_first [] rs name i c r f h of_table of_rows = absurd f
  at_first (x ∷ xs) [] name i c r f h of_table of_rows = absurd (omega (arith, h))
  at_first (x ∷ xs) (y ∷ ys) name zero c r f h of_table of_rows =
      ap (λ b. cond b (Some (table_of t x y)) (says.table_at (tables_with t xs ys) name)) f
      ∙ ap (λ k. Some (table_of t k y)) (sym of_table) ∙ ap (λ k. Some (table_of t c k)) (sym of_rows)
  at_first (x ∷ xs) (y ∷ ys) name (suc i) c r f h of_table of_rows =
      ap (λ b. cond b (Some (table_of t x y)) (says.table_at (tables_with t xs ys) name)) f.0
      ∙ at_first xs ys name i c r f.1 (omega (arith, h)) of_table of_rows

  -- other rows in its place, which are more
  pub set_more : (ts : List TableColumns) (rs : List (TableRows Page)) (name : List ℕ) (i : ℕ) (r v : TableRows Page) (rows : List (List Value)) → IsFirst ts name i → i < length rs → r ≡ get_or rs i r
      → sets_rows t v.sets.items ≡ sets_rows t r.sets.items ++ rows → tables_with t ts (set rs i v) ≡ says.with_rows (tables_with t ts rs) name rows
  set_more [] rs name i r v rows f h is more = absurd f
  set_more (x ∷ xs) [] name i r v rows f h is more = absurd (omega (arith, h))
  set_more (x ∷ xs) (y ∷ ys) name zero r v rows f h is more =
      let e : table_of t x v ≡ says.more_rows (table_of t x y) rows = ap (λ l. record { name = x.name; columns = x.columns; rows = l }) (more ∙ ap (λ (k : TableRows Page). sets_rows t k.sets.items ++ rows) is) in
      ap (λ k. k ∷ tables_with t xs ys) e
      ∙ sym (ap (λ b. cond b (says.more_rows (table_of t x y) rows ∷ tables_with t xs ys) (table_of t x y ∷ says.with_rows (tables_with t xs ys) name rows)) f)
  set_more (x ∷ xs) (y ∷ ys) name (suc i) r v rows f h is more =
      ap (λ l. table_of t x y ∷ l) (set_more xs ys name i r v rows f.1 (omega (arith, h)) is more)
      ∙ sym (ap (λ b. cond b (says.more_rows (table_of t x y) rows ∷ tables_with t xs ys) (table_of t x y ∷ says.with_rows (tables_with t xs ys) name rows)) f.0)

  -- the same sets in a place
  pub set_still : (ts : List TableColumns) (rs : List (TableRows Page)) (i : ℕ) (r v : TableRows Page) → r ≡ get_or rs i r → v.sets.items ≡ r.sets.items → tables_with t ts (set rs i v) ≡ tables_with t ts rs
  set_still [] rs i r v is same = refl
  set_still (x ∷ xs) [] i r v is same = refl
  set_still (x ∷ xs) (y ∷ ys) zero r v is same =
      ap (λ (l : List (RowSet Page)). record { name = x.name; columns = x.columns; rows = sets_rows t l } ∷ tables_with t xs ys) (same ∙ ap (λ (k : TableRows Page). k.sets.items) is)
  set_still (x ∷ xs) (y ∷ ys) (suc i) r v is same = ap (λ l. table_of t x y ∷ l) (set_still xs ys i r v is same)

  -- the first table of a name taken away
  pub removed_first : (ts : List TableColumns) (rs : List (TableRows Page)) (name : List ℕ) (i : ℕ) → IsFirst ts name i → i < length rs → tables_with t (remove ts i) (remove rs i) ≡ says.without_table (tables_with t ts rs) name
  removed_first [] rs name i f h = absurd f
  removed_first (x ∷ xs) [] name i f h = absurd (omega (arith, h))
  removed_first (x ∷ xs) (y ∷ ys) name zero f h =
      sym (ap (λ b. cond b (tables_with t xs ys) (table_of t x y ∷ says.without_table (tables_with t xs ys) name)) f)
  removed_first (x ∷ xs) (y ∷ ys) name (suc i) f h =
      ap (λ l. table_of t x y ∷ l) (removed_first xs ys name i f.1 (omega (arith, h)))
      ∙ sym (ap (λ b. cond b (tables_with t xs ys) (table_of t x y ∷ says.without_table (tables_with t xs ys) name)) f.0)

  pub removed_none : (ts : List TableColumns) (rs : List (TableRows Page)) (name : List ℕ) → has_table ts name ≡ false → tables_with t ts rs ≡ says.without_table (tables_with t ts rs) name
  removed_none [] rs name none = refl
  removed_none (x ∷ xs) [] name none = refl
  removed_none (x ∷ xs) (y ∷ ys) name none =
      let apart = neither (bytes_eq x.name name) (has_table xs name) none in
      ap (λ l. table_of t x y ∷ l) (removed_none xs ys name apart.1)
      ∙ sym (ap (λ b. cond b (tables_with t xs ys) (table_of t x y ∷ says.without_table (tables_with t xs ys) name)) apart.0)

  -- a table more
  pub with_pushed : (ts : List TableColumns) (rs : List (TableRows Page)) (c : TableColumns) (r : TableRows Page) → length ts ≡ length rs → tables_with t (ts ++ c ∷ []) (rs ++ r ∷ []) ≡ tables_with t ts rs ++ table_of t c r ∷ []
  with_pushed [] [] c r same = refl
  with_pushed [] (y ∷ ys) c r same = absurd (omega (arith, same))
  with_pushed (x ∷ xs) [] c r same = absurd (omega (arith, same))
  with_pushed (x ∷ xs) (y ∷ ys) c r same = ap (λ l. table_of t x y ∷ l) (with_pushed xs ys c r (omega (arith, same)))

  -- a table of no rows more
  pub created : (ts tables : List TableColumns) (rs rows : List (TableRows Page)) (c : TableColumns) (r : TableRows Page) → length ts ≡ length rs → tables ≡ ts ++ c ∷ [] → rows ≡ rs ++ r ∷ [] → r.sets.items ≡ [] → tables_with t tables rows ≡ says.with_table (tables_with t ts rs) c.name c.columns
  created ts tables rs rows c r same of_tables of_rows none =
      ap (λ l. tables_with t l rows) of_tables ∙ ap (tables_with t (ts ++ c ∷ [])) of_rows ∙ with_pushed ts rs c r same
      ∙ ap (λ (ss : List (RowSet Page)). tables_with t ts rs ++ record { name = c.name; columns = c.columns; rows = sets_rows t ss } ∷ []) none

  -- the names and columns alone
  pub schemas_with : (ts : List TableColumns) (rs : List (TableRows Page)) → length ts ≡ length rs → ts ≡ says.schemas_of (tables_with t ts rs)
  schemas_with [] rs same = refl
  schemas_with (x ∷ xs) [] same = absurd (omega (arith, same))
  schemas_with (x ∷ xs) (y ∷ ys) same = ap (λ l. x ∷ l) (schemas_with xs ys (omega (arith, same)))
