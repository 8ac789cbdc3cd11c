-- The groups of keys, and what they are over.
use Rattle.std.specs.Prelude.{◌≡◌, List, [], ◌∷◌, ◌++◌, All, flat_map, map}
use Rattle.bound_tree.specs.declared.select.Aggregate.{Aggregate}
use Rattle.bound_tree.specs.declared.select.Grouping.{Grouping}
use Rattle.sql_expr.specs.declared.fault.ValueFault.{ValueFault}
use Rattle.sql_meaning.specs.Found.{Found, Row}
use Rattle.sql_meaning.specs.Groups.{Aggregation, Keyed, group_faults, group_row, keyed, keys_of, rows_of}
use Rattle.sql_meaning.specs.Statements.{aggregation_of, row_value_of}
use Rattle.plain_rows.specs.Tests.{FitsItem}
use Rattle.plain_groups.specs.Sums.{CanAggregate, FitsRows}

-- one row for each of these keys, and the faults of each group behind those that were noted
abbrev pub groups_of_keys : List Aggregation → List Keyed → List ValueFault → List Row → Found Row
groups_of_keys aggregates ones noted keys = record {
  rows = flat_map (λ key. group_row aggregates key (rows_of key ones) ∷ []) keys;
  faults = noted ++ flat_map (λ key. group_faults aggregates (rows_of key ones)) keys;
}

-- Each aggregate is typed over the rows of each key. Where no group has a fault, so that none has too many rows, its sums fit.
pub record CanGroupKeyed (aggregates : List Aggregate) (ones : List Keyed) (keys : List Row) : Type 0 where
  pub fits : All (λ key. All (FitsRows (rows_of key ones)) aggregates) keys
  pub sums : flat_map (λ key. group_faults (map aggregation_of aggregates) (rows_of key ones)) keys ≡ [] → All (λ key. All (CanAggregate (rows_of key ones)) aggregates) keys

-- rows that can be grouped
pub record CanGroup (grouping : Grouping) (rows : List Row) : Type 0 where
  pub keys : All (λ row. All (FitsItem row) grouping.keys) rows
  pub groups : CanGroupKeyed grouping.aggregates (keyed (map row_value_of grouping.keys) rows).rows (keys_of (map row_value_of grouping.keys) (keyed (map row_value_of grouping.keys) rows).rows)
