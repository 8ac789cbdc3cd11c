-- The rows of groups have the types of their keys and of their aggregates.
use Rattle.std.proofs.Common.{◌≡◌, ℕ, ◌≤◌, Bool, true, false, cond, nat_lt, List, [], ◌∷◌, ◌++◌, map, refl, Option, Some, None, ltb-false}
use Rattle.std.specs.Option.{option_map}
use Rattle.std.specs.Prelude.{filter, flat_map, IfSome, Result, Ok, Err}
use Rattle.std.specs.List.{AllByRecursion, list_any}
use Rattle.std.proofs.lemmas.Bool.{or_parts}
use Rattle.ooc_bags.specs.Rows.{row_eq}
use Rattle.ooc_types.specs.declared.schema.SqlType.{SqlType}
use Rattle.sql_expr.specs.declared.fault.ValueFault.{ValueFault}
use Rattle.sql_expr.specs.declared.fault.ValueFault.TheVariants.{CountOverflow}
use Rattle.sql_expr.specs.declared.tree.Expr.{Expr}
use Rattle.sql_expr.specs.Kinds.{kind_of}
use Rattle.sql_expr.specs.Meaning.{value_of}
use Rattle.bound_tree.specs.declared.select.Aggregate.{Aggregate}
use Rattle.bound_tree.specs.declared.select.Grouping.{Grouping as BoundGrouping}
use Rattle.sql_meaning.specs.Found.{Row}
use Rattle.sql_meaning.specs.Groups.{Aggregation, Keyed, aggregated, arguments, group_faults, group_row, grouped, groups, keyed, keyed_found, keys_of, most_rows, perhaps_once, rows_counted, rows_of, value_found, values, values_taken}
use Rattle.sql_meaning.specs.Select.{item_found}
use Rattle.sql_meaning.specs.Statements.{aggregation_of, grouping_of, row_value_of, takes_once}
use Rattle.plan_tree.proofs.JoinLemmas.{all-both, all-kept}
use Rattle.well_formed.specs.Aggregates.{IsAggregate, IsGrouping}
use Rattle.well_formed.specs.Exprs.{IsExpr}
use Rattle.well_formed.specs.Given.{kinds_of_group}
use Rattle.bound_laws.specs.Meeting.{IsRow, IsValue}
use Rattle.bound_laws.proofs.AggregateLemmas.{AreArguments, finished-value, found-has, once-has, taken-few}
use Rattle.bound_laws.proofs.Lists.{all-firsts, all-given, all-over}
use Rattle.bound_laws.proofs.ValueRows.{expr-value, items-row, meet-append}

-- ---- lists that are empty

pub append-empty : {A : Type 0} (xs ys : List A) → (xs ++ ys) ≡ [] → (xs ≡ []) × (ys ≡ [])
append-empty [] ys is = (refl, is)
append-empty (x ∷ xs) ys is = cc

pub flat-empty : {A B : Type 0} (f : A → List B) (xs : List A) → flat_map f xs ≡ [] → AllByRecursion (λ x. f x ≡ []) xs
flat-empty f [] is = tt
flat-empty f (x ∷ xs) is = let parts = append-empty (f x) (flat_map f xs) is in (parts.0, flat-empty f xs parts.1)

none-noted : (b : Bool) (fault : ValueFault) → cond b (fault ∷ []) [] ≡ [] → b ≡ false
none-noted true fault is = cc
none-noted false fault is = refl

none-passes : {A : Type 0} (test : A → Bool) (xs : List A) → list_any test xs ≡ false → AllByRecursion (λ x. test x ≡ false) xs
none-passes test [] is = tt
none-passes test (x ∷ xs) is = let parts = or_parts (test x) (list_any test xs) is in (parts.0, none-passes test xs parts.1)

-- ---- one group

module _ (limit : ℕ) (columns : List SqlType) where
  pub fit-arguments : (distinct : Bool) (of : Option Expr) (rows : List Row) → IfSome of (IsExpr limit columns) → AllByRecursion (IsRow limit columns) rows
      → AreArguments limit of (perhaps_once distinct (arguments (option_map row_value_of of) rows).rows)
  fit-arguments distinct None rows is all = tt
  fit-arguments distinct (Some e) rows is all =
      once-has (IsValue limit (kind_of e)) distinct (arguments (Some (row_value_of e)) rows).rows
      (all-given (IsRow limit columns) (IsValue limit (kind_of e)) (λ row. (value_found (value_of row e)).rows)
      (λ row meets. found-has (IsValue limit (kind_of e)) (value_of row e) (expr-value limit columns e row is meets)) rows all)

  abbrev pub CountsFew : List Row → Aggregate → Type 0
  CountsFew rows aggregate = rows_counted rows (aggregation_of aggregate) ≤ most_rows

  aggregate-value : (aggregate : Aggregate) (rows : List Row) → IsAggregate limit columns aggregate → AllByRecursion (IsRow limit columns) rows → CountsFew rows aggregate
      → IsValue limit aggregate.result (aggregated rows (aggregation_of aggregate))
  aggregate-value aggregate rows is all few =
      let distinct = takes_once aggregate.kind in
      finished-value limit aggregate.kind aggregate.of aggregate.result (values_taken (aggregation_of aggregate) rows) is.result
      (taken-few distinct (option_map row_value_of aggregate.of) rows most_rows few)
      (fit-arguments distinct aggregate.of rows is.argument all)

  aggregates-meet : (aggregates : List Aggregate) (rows : List Row) → AllByRecursion (IsAggregate limit columns) aggregates → AllByRecursion (IsRow limit columns) rows → AllByRecursion (CountsFew rows) aggregates
      → IsRow limit (map (λ (aggregate : Aggregate). aggregate.result) aggregates) (map (aggregated rows) (map aggregation_of aggregates))
  aggregates-meet [] rows are all few = tt
  aggregates-meet (aggregate ∷ aggregates) rows are all few = (aggregate-value aggregate rows are.0 all few.0, aggregates-meet aggregates rows are.1 all few.1)

  counts-few : (aggregates : List Aggregate) (rows : List Row) → AllByRecursion (λ (aggregation : Aggregation). nat_lt most_rows (rows_counted rows aggregation) ≡ false) (map aggregation_of aggregates) → AllByRecursion (CountsFew rows) aggregates
  counts-few [] rows none = tt
  counts-few (aggregate ∷ aggregates) rows none = (ltb-false most_rows (rows_counted rows (aggregation_of aggregate)) none.0, counts-few aggregates rows none.1)

  pub group-counts : (aggregates : List Aggregate) (rows : List Row) → group_faults (map aggregation_of aggregates) rows ≡ [] → AllByRecursion (CountsFew rows) aggregates
  group-counts aggregates rows none =
      let test = λ (aggregation : Aggregation). nat_lt most_rows (rows_counted rows aggregation) in
      let any = list_any test (map aggregation_of aggregates) in
      let parts = append-empty (flat_map (λ (aggregation : Aggregation). (arguments aggregation.of rows).faults) (map aggregation_of aggregates)) (cond any (CountOverflow ∷ []) []) none in
      counts-few aggregates rows (none-passes test (map aggregation_of aggregates) (none-noted any CountOverflow parts.1))

  -- ---- keys

  abbrev FitsKey : List Expr → Keyed → Type 0
  FitsKey keys one = IsRow limit (map kind_of keys) one.key × IsRow limit columns one.row

  key-fits : (keys : List Expr) (row : Row) (key : Result Row ValueFault) → AllByRecursion (IsRow limit (map kind_of keys)) (item_found key).rows → IsRow limit columns row → AllByRecursion (FitsKey keys) (keyed_found row key).rows
  key-fits keys row (Err fault) all meets = tt
  key-fits keys row (Ok key) all meets = ((all.0, meets), tt)

  pub keyed-fit : (keys : List Expr) (rows : List Row) → AllByRecursion (IsExpr limit columns) keys → AllByRecursion (IsRow limit columns) rows → AllByRecursion (FitsKey keys) (keyed (map row_value_of keys) rows).rows
  keyed-fit keys rows are all =
      all-given (IsRow limit columns) (FitsKey keys) (λ row. (keyed_found row (values (map row_value_of keys) row)).rows)
      (λ row meets. key-fits keys row (values (map row_value_of keys) row) (items-row limit columns keys row are meets) meets) rows all

  keys-fit : (keys : List Expr) (rows : List Keyed) → AllByRecursion (FitsKey keys) rows → AllByRecursion (IsRow limit (map kind_of keys)) (keys_of (map row_value_of keys) rows)
  keys-fit [] rows all = (tt, tt)
  keys-fit (key ∷ keys) rows all =
      all-firsts (IsRow limit (map kind_of (key ∷ keys))) row_eq (map (λ (one : Keyed). one.key) rows)
      (all-over (FitsKey (key ∷ keys)) (IsRow limit (map kind_of (key ∷ keys))) (λ one. one.key) (λ one fits. fits.0) rows all)

  pub rows-fit : (keys : List Expr) (key : Row) (rows : List Keyed) → AllByRecursion (FitsKey keys) rows → AllByRecursion (IsRow limit columns) (rows_of key rows)
  rows-fit keys key rows all =
      all-over (FitsKey keys) (IsRow limit columns) (λ one. one.row) (λ one fits. fits.1) (filter (λ one. row_eq key one.key) rows) (all-kept (FitsKey keys) (λ one. row_eq key one.key) rows all)

  -- ---- all groups, where none counts too many rows

  pub grouped-fit : (grouping : BoundGrouping) (rows : List Row) → IsGrouping limit columns grouping → AllByRecursion (IsRow limit columns) rows → (grouped (grouping_of grouping) rows).faults ≡ []
      → AllByRecursion (IsRow limit (kinds_of_group grouping)) (grouped (grouping_of grouping) rows).rows
  grouped-fit grouping rows is all none =
      let keys = map row_value_of grouping.keys in
      let aggregations = map aggregation_of grouping.aggregates in
      let ones = (keyed keys rows).rows in
      let fits = keyed-fit grouping.keys rows is.keys all in
      let parts = append-empty (keyed keys rows).faults (groups (grouping_of grouping) ones).faults none in
      let each = flat-empty (λ key. group_faults aggregations (rows_of key ones)) (keys_of keys ones) parts.1 in
      all-given (λ key. IsRow limit (map kind_of grouping.keys) key × (group_faults aggregations (rows_of key ones) ≡ [])) (IsRow limit (kinds_of_group grouping))
      (λ key. group_row aggregations key (rows_of key ones) ∷ [])
      (λ key h. (
        meet-append (IsValue limit) (map kind_of grouping.keys) (map (λ (aggregate : Aggregate). aggregate.result) grouping.aggregates) key (map (aggregated (rows_of key ones)) aggregations) h.0
            (aggregates-meet grouping.aggregates (rows_of key ones) is.aggregates (rows-fit grouping.keys key ones fits) (group-counts grouping.aggregates (rows_of key ones) h.1)),
        tt,
      ))
      (keys_of keys ones)
      (all-both (IsRow limit (map kind_of grouping.keys)) (λ key. group_faults aggregations (rows_of key ones) ≡ []) (keys_of keys ones) (keys-fit grouping.keys ones fits) each)
