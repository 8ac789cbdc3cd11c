-- Counts of rows, set after set and table after table.
use Rattle.std.proofs.Common.{◌≡◌, ℕ, suc, zero, ◌+◌, ◌<◌, ◌≤◌, min, Option, Some, Bool, true, false, cond, List, [], ◌∷◌, ◌++◌, length, drop, get_or, refl, sym, ap, ◌∙◌, arith, append_assoc, append-nil}
use Rattle.std.specs.Str.{bytes_eq}
use Rattle.sql_scope.specs.declared.scope.TableColumns.{TableColumns}
use Rattle.page_body.specs.View.{PoolTerms}
use Rattle.row_sets.specs.declared.row_set.RowSet.{RowSet}
use Rattle.sql_plan.specs.declared.counts.TableCount.{TableCount}
use Rattle.sql_plan.specs.Counted.{counts_in}
use Rattle.script_says.specs.Catalog as says
use Rattle.paged_catalog.specs.declared.catalog.TableRows.{TableRows}
use Rattle.paged_catalog.specs.Meaning.{sets_rows, table_of, tables_with}
use Rattle.paged_catalog.specs.Counting.{count_of, counts_with}

module _ {Page Pin : Type 0} (t : PoolTerms Page Pin) where
  -- no set more
  pub counts_end : (so_far all most : ℕ) (left : List (RowSet Page)) → left ≡ [] → min (so_far + length (sets_rows t left)) most ≡ all → so_far ≤ most → so_far ≡ all
  counts_end so_far all most left none total few =
      let e = sym total ∙ ap (λ ss. min (so_far + length (sets_rows t ss)) most) none in
      omega (arith, e, few)

  rest_counted : (b : Bool) (x : says.Table) (o : Option says.Table) → cond b (min (length x.rows) says.most_counted) (min (length (says.rows_in o)) says.most_counted) ≡ min (length (says.rows_in (cond b (Some x) o))) says.most_counted
  rest_counted true x o = refl
  rest_counted false x o = refl

  -- by a name
  pub counts_named : (ts : List TableColumns) (rs : List (TableRows Page)) (name : List ℕ) → counts_in (counts_with t ts rs) name ≡ says.counts_of (tables_with t ts rs) name
  counts_named [] rs name = refl
  counts_named (x ∷ xs) [] name = refl
  counts_named (x ∷ xs) (y ∷ ys) name =
      ap (cond (bytes_eq x.name name) (count_of t x y).rows) (counts_named xs ys name)
      ∙ rest_counted (bytes_eq x.name name) (table_of t x y) (says.table_at (tables_with t xs ys) name)

  -- one table more
  pub counts_more : (ts : List TableColumns) (rs : List (TableRows Page)) (i : ℕ) (x : TableColumns) (y : TableRows Page) → i < length ts → i < length rs → x ≡ get_or ts i x → y ≡ get_or rs i y → counts_with t (drop i ts) (drop i rs) ≡ count_of t x y ∷ counts_with t (drop (i + 1) ts) (drop (i + 1) rs)
  counts_more [] rs i x y h k of_table of_rows = absurd (omega (arith, h))
  counts_more (c ∷ cs) [] i x y h k of_table of_rows = absurd (omega (arith, k))
  counts_more (c ∷ cs) (r ∷ rs) zero x y h k of_table of_rows =
      ap (λ z. count_of t z r ∷ counts_with t cs rs) (sym of_table) ∙ ap (λ z. count_of t x z ∷ counts_with t cs rs) (sym of_rows)
  counts_more (c ∷ cs) (r ∷ rs) (suc i) x y h k of_table of_rows =
      let more : suc i + 1 ≡ suc (i + 1) = omega arith in
      rw more (counts_more cs rs i x y (omega (arith, h)) (omega (arith, k)) of_table of_rows)

  pub counted_more : (ts : List TableColumns) (rs : List (TableRows Page)) (i : ℕ) (x : TableColumns) (y : TableRows Page) (old new : List TableCount) (one : TableCount) → i < length ts → i < length rs → x ≡ get_or ts i x → y ≡ get_or rs i y
      → old ++ counts_with t (drop i ts) (drop i rs) ≡ counts_with t ts rs → new ≡ old ++ one ∷ [] → one ≡ count_of t x y → new ++ counts_with t (drop (i + 1) ts) (drop (i + 1) rs) ≡ counts_with t ts rs
  counted_more ts rs i x y old new one h k of_table of_rows so_far added is =
      ap (λ z. z ++ counts_with t (drop (i + 1) ts) (drop (i + 1) rs)) (added ∙ ap (λ z. old ++ z ∷ []) is)
      ∙ append_assoc old (count_of t x y ∷ []) (counts_with t (drop (i + 1) ts) (drop (i + 1) rs))
      ∙ ap (λ z. old ++ z) (sym (counts_more ts rs i x y h k of_table of_rows))
      ∙ so_far

  no_rows : (ts : List TableColumns) → counts_with t ts [] ≡ []
  no_rows [] = refl
  no_rows (c ∷ cs) = refl

  nothing_left : (ts : List TableColumns) (rs : List (TableRows Page)) (i : ℕ) → length ts ≤ i → counts_with t (drop i ts) (drop i rs) ≡ []
  nothing_left [] rs zero h = refl
  nothing_left [] rs (suc i) h = refl
  nothing_left (c ∷ cs) rs zero h = absurd (omega (arith, h))
  nothing_left (c ∷ cs) [] (suc i) h = no_rows (drop i cs)
  nothing_left (c ∷ cs) (r ∷ rs) (suc i) h = nothing_left cs rs i (omega (arith, h))

  pub counted_all : (ts : List TableColumns) (rs : List (TableRows Page)) (i : ℕ) (made : List TableCount) → length ts ≤ i → made ++ counts_with t (drop i ts) (drop i rs) ≡ counts_with t ts rs → (name : List ℕ) → counts_in made name ≡ says.counts_of (tables_with t ts rs) name
  counted_all ts rs i made past so_far name =
      ap (λ l. counts_in l name) (sym (append-nil made) ∙ ap (λ l. made ++ l) (sym (nothing_left ts rs i past)) ∙ so_far) ∙ counts_named ts rs name
