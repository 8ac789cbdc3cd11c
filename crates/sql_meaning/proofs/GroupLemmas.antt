-- Grouping over a rearranged list.
use Rattle.std.proofs.Common.{◌≡◌, Bool, true, false, cond, List, [], ◌∷◌, ◌++◌, map, refl, ap, ap₂, Option}
use Rattle.std.specs.Prelude.{filter, flat_map, nat_lt, ◌||◌}
use Rattle.std.specs.List.{list_any}
use Rattle.ooc_bags.specs.Bags.{SameBag}
use Rattle.ooc_bags.specs.Rows.{row_eq, value_eq}
use Rattle.ooc_bags.proofs.RowTests.{value_eq-Decides}
use Rattle.ooc_bags.proofs.Counts.{same_length}
use Rattle.ooc_types.specs.declared.value.Value.{Value}
use Rattle.sql_expr.specs.declared.fault.ValueFault.{ValueFault}
use Rattle.sql_expr.specs.declared.fault.ValueFault.TheVariants.{CountOverflow}
use Rattle.sql_meaning.specs.Found.{Found, Row, IsSame}
use Rattle.sql_meaning.specs.Judged.{RowValue}
use Rattle.sql_meaning.specs.Aggregates.{finished}
use Rattle.sql_meaning.specs.Groups.{Keyed, keyed, keyed_found, values, keys_of, rows_of, arguments, argument, value_found, perhaps_once, values_taken, most_rows, rows_counted, aggregated, group_row, group_faults, group_found, groups, grouped, Grouping, Aggregation}
use Rattle.ooc_bags.proofs.Bags.{bag-refl, bag-from, bag-append, bag-map, bag-filter, bag-flat_map}
use Rattle.ooc_bags.proofs.Lists.{map-same}
use Rattle.ooc_bags.proofs.Firsts.{firsts-SameBag}
use Rattle.ooc_bags.proofs.FirstsBy.{firsts_by-SameBag}
use Rattle.sql_meaning.proofs.States.{state_of-SameBag}
use Rattle.sql_meaning.proofs.Stages.{same-refl, same-collected, same-and_then}

pub same-keyed : (keys : List RowValue) (xs ys : List Row) → SameBag xs ys → IsSame (keyed keys xs) (keyed keys ys)
same-keyed keys xs ys same =
    let f : Row → Found Keyed = λ row. keyed_found row (values keys row) in
    same-collected f f xs ys same (λ row. same-refl (f row))

pub same-keys_of : (keys : List RowValue) (xs ys : List Keyed) → SameBag xs ys → SameBag (keys_of keys xs) (keys_of keys ys)
same-keys_of [] xs ys same = bag-refl ([] ∷ [])
same-keys_of (key ∷ keys) xs ys same =
    firsts-SameBag (map (λ one. one.key) xs) (map (λ one. one.key) ys) (bag-map (λ (one : Keyed). one.key) xs ys same)

pub same-rows_of : (key : Row) (xs ys : List Keyed) → SameBag xs ys → SameBag (rows_of key xs) (rows_of key ys)
same-rows_of key xs ys same =
    bag-map (λ (one : Keyed). one.row) (filter (λ one. row_eq key one.key) xs) (filter (λ one. row_eq key one.key) ys) (bag-filter (λ (one : Keyed). row_eq key one.key) xs ys same)

pub same-arguments : (of : Option RowValue) (xs ys : List Row) → SameBag xs ys → IsSame (arguments of xs) (arguments of ys)
same-arguments of xs ys same =
    let f : Row → Found Value = λ row. value_found (argument of row) in
    same-collected f f xs ys same (λ row. same-refl (f row))

same-perhaps_once : (once : Bool) (xs ys : List Value) → SameBag xs ys → SameBag (perhaps_once once xs) (perhaps_once once ys)
same-perhaps_once false xs ys same = same
same-perhaps_once true xs ys same = firsts_by-SameBag value_eq value_eq-Decides xs ys same

pub same-values_taken : (aggregate : Aggregation) (xs ys : List Row) → SameBag xs ys → SameBag (values_taken aggregate xs) (values_taken aggregate ys)
same-values_taken aggregate xs ys same =
    same-perhaps_once aggregate.distinct (arguments aggregate.of xs).rows (arguments aggregate.of ys).rows (same-arguments aggregate.of xs ys same).rows

pub aggregated-SameBag : (aggregate : Aggregation) (xs ys : List Row) → SameBag xs ys → aggregated xs aggregate ≡ aggregated ys aggregate
aggregated-SameBag aggregate xs ys same =
    ap (finished aggregate.kind aggregate.scale)
    (state_of-SameBag (values_taken aggregate xs) (values_taken aggregate ys) (same-values_taken aggregate xs ys same))

same-rows_counted : (xs ys : List Row) → SameBag xs ys → (aggregate : Aggregation) → rows_counted xs aggregate ≡ rows_counted ys aggregate
same-rows_counted xs ys same aggregate =
    ap₂ (λ m n. cond aggregate.distinct m n)
    (same_length (values_taken aggregate xs) (values_taken aggregate ys) (same-values_taken aggregate xs ys same)) (same_length xs ys same)

any-same : {A : Type 0} (p q : A → Bool) → ((x : A) → p x ≡ q x) → (xs : List A) → list_any p xs ≡ list_any q xs
any-same p q same [] = refl
any-same p q same (x ∷ xs) = ap₂ ◌||◌ (same x) (any-same p q same xs)

same-group_faults : (aggregates : List Aggregation) (xs ys : List Row) → SameBag xs ys → SameBag (group_faults aggregates xs) (group_faults aggregates ys)
same-group_faults aggregates xs ys same =
    let over : List Row → List ValueFault = λ rows. cond (list_any (λ aggregate. nat_lt most_rows (rows_counted rows aggregate)) aggregates) (CountOverflow ∷ []) [] in
    bag-append (flat_map (λ aggregate. (arguments aggregate.of xs).faults) aggregates) (flat_map (λ aggregate. (arguments aggregate.of ys).faults) aggregates) (over xs) (over ys)
    (bag-flat_map (λ (aggregate : Aggregation). (arguments aggregate.of xs).faults) (λ aggregate. (arguments aggregate.of ys).faults) aggregates aggregates (bag-refl aggregates)
    (λ aggregate. (same-arguments aggregate.of xs ys same).faults))
    (bag-from (over xs) (over ys) (ap (λ b. cond b (CountOverflow ∷ []) [])
    (any-same (λ (aggregate : Aggregation). nat_lt most_rows (rows_counted xs aggregate)) (λ aggregate. nat_lt most_rows (rows_counted ys aggregate))
    (λ aggregate. ap (nat_lt most_rows) (same-rows_counted xs ys same aggregate)) aggregates)))

pub same-group : (aggregates : List Aggregation) (key : Row) (xs ys : List Row) → SameBag xs ys → IsSame (group_found aggregates key xs) (group_found aggregates key ys)
same-group aggregates key xs ys same = record {
  rows = bag-from (group_row aggregates key xs ∷ []) (group_row aggregates key ys ∷ [])
      (ap (λ cells. (key ++ cells) ∷ []) (map-same (aggregated xs) (aggregated ys) (λ aggregate. aggregated-SameBag aggregate xs ys same) aggregates));
  faults = same-group_faults aggregates xs ys same;
}

pub same-groups : (grouping : Grouping) (xs ys : List Keyed) → SameBag xs ys → IsSame (groups grouping xs) (groups grouping ys)
same-groups grouping xs ys same =
    same-collected (λ key. group_found grouping.aggregates key (rows_of key xs)) (λ key. group_found grouping.aggregates key (rows_of key ys))
    (keys_of grouping.keys xs) (keys_of grouping.keys ys) (same-keys_of grouping.keys xs ys same)
    (λ key. same-group grouping.aggregates key (rows_of key xs) (rows_of key ys) (same-rows_of key xs ys same))

pub same-grouped : (grouping : Grouping) (xs ys : List Row) → SameBag xs ys → IsSame (grouped grouping xs) (grouped grouping ys)
same-grouped grouping xs ys same =
    same-and_then (keyed grouping.keys xs) (keyed grouping.keys ys) (groups grouping) (groups grouping) (same-keyed grouping.keys xs ys same) (same-groups grouping)
