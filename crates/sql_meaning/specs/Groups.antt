-- GROUP BY and aggregates.
use Rattle.std.specs.Prelude.{ℕ, ◌^◌, nat_lt, if◌then◌else◌, Bool, true, false, List, [], ◌∷◌, ◌++◌, map, filter, flat_map, length, Option, Some, None, Result, Ok, Err}
use Rattle.std.specs.List.{list_any}
use Rattle.ooc_types.specs.declared.value.Value.{Value}
use Rattle.ooc_types.specs.declared.value.Value.TheVariants.{Null}
use Rattle.ooc_bags.specs.Rows.{row_eq, value_eq}
use Rattle.sql_expr.specs.declared.fault.ValueFault.{ValueFault}
use Rattle.sql_expr.specs.declared.fault.ValueFault.TheVariants.{CountOverflow}
use Rattle.sql_expr.specs.Arithmetic.{Meaning}
use Rattle.sql_meaning.specs.declared.kinds.AggKind.{AggKind}
use Rattle.sql_meaning.specs.Found.{Found, Row, collected}
use Rattle.sql_meaning.specs.Judged.{RowValue}
use Rattle.ooc_bags.specs.Firsts.{firsts, firsts_by}
use Rattle.sql_meaning.specs.Aggregates.{state_of, finished}

-- An aggregate: its kind, its argument (`count(*)` has none) with the scale of its numbers, and whether each value is
-- taken once alone, as in `count(DISTINCT x)`.
pub record Aggregation : Type 0 where
  pub kind : AggKind
  pub of : Option RowValue
  pub scale : ℕ
  pub distinct : Bool

-- GROUP BY and the aggregates
pub record Grouping : Type 0 where
  pub keys : List RowValue
  pub aggregates : List Aggregation

abbrev pub behind_value : Meaning → Result Row ValueFault → Result Row ValueFault
behind_value (Err fault) later = Err fault
behind_value (Ok value) (Err fault) = Err fault
behind_value (Ok value) (Ok values) = Ok (value ∷ values)

-- what is computed of a row, from left to right, or the first fault
abbrev pub values : List RowValue → Row → Result Row ValueFault
values [] row = Ok []
values (of ∷ others) row = behind_value (of row) (values others row)

pub record Keyed : Type 0 where
  pub key : Row
  pub row : Row

abbrev pub keyed_found : Row → Result Row ValueFault → Found Keyed
keyed_found row (Err fault) = record { rows = []; faults = fault ∷ [] }
keyed_found row (Ok key) = record { rows = record { key = key; row = row } ∷ []; faults = [] }

-- the rows beside their keys; a row whose key faults is left out and noted
abbrev pub keyed : List RowValue → List Row → Found Keyed
keyed keys = collected (λ row. keyed_found row (values keys row))

-- each key once, in the order of first sight; without keys there is one group, also over no rows
abbrev pub keys_of : List RowValue → List Keyed → List Row
keys_of [] rows = [] ∷ []
keys_of (key ∷ keys) rows = firsts (map (λ one. one.key) rows)

-- the rows of a key
abbrev pub rows_of : Row → List Keyed → List Row
rows_of key rows = map (λ one. one.row) (filter (λ one. row_eq key one.key) rows)

abbrev pub argument : Option RowValue → Row → Meaning
argument None row = Ok Null
argument (Some of) row = of row

abbrev pub value_found : Meaning → Found Value
value_found (Err fault) = record { rows = []; faults = fault ∷ [] }
value_found (Ok value) = record { rows = value ∷ []; faults = [] }

-- an aggregate's arguments; one that faults is noted and isn't taken
abbrev pub arguments : Option RowValue → List Row → Found Value
arguments of = collected (λ row. value_found (argument of row))

-- all values, or each once
abbrev pub perhaps_once : Bool → List Value → List Value
perhaps_once false values = values
perhaps_once true values = firsts_by value_eq values

-- the values that an aggregate takes of the rows of a group
abbrev pub values_taken : Aggregation → List Row → List Value
values_taken aggregate rows = perhaps_once aggregate.distinct (arguments aggregate.of rows).rows

-- an aggregate of the rows of a group
abbrev pub aggregated : List Row → Aggregation → Value
aggregated rows aggregate = finished aggregate.kind aggregate.scale (state_of (values_taken aggregate rows))

-- the key and the aggregates of the rows of a group
abbrev pub group_row : List Aggregation → Row → List Row → Row
group_row aggregates key rows = key ++ map (aggregated rows) aggregates

-- the most rows that one group's aggregates take
abbrev pub most_rows : ℕ
most_rows = 10 ^ 11

-- how many rows an aggregate counts: those of the group, or of the different values, NULL among them
abbrev pub rows_counted : List Row → Aggregation → ℕ
rows_counted rows aggregate = if aggregate.distinct then length (values_taken aggregate rows) else length rows

-- the arguments that fault, and CountOverflow where an aggregate counts too many
abbrev pub group_faults : List Aggregation → List Row → List ValueFault
group_faults aggregates rows =
    flat_map (λ aggregate. (arguments aggregate.of rows).faults) aggregates
    ++ (if list_any (λ aggregate. nat_lt most_rows (rows_counted rows aggregate)) aggregates then CountOverflow ∷ [] else [])

abbrev pub group_found : List Aggregation → Row → List Row → Found Row
group_found aggregates key rows = record { rows = group_row aggregates key rows ∷ []; faults = group_faults aggregates rows }

abbrev pub groups : Grouping → List Keyed → Found Row
groups grouping rows = collected (λ key. group_found grouping.aggregates key (rows_of key rows)) (keys_of grouping.keys rows)

-- one row for each key: the key, and then the aggregates
abbrev pub grouped : Grouping → List Row → Found Row
grouped grouping rows = record {
  rows = (groups grouping (keyed grouping.keys rows).rows).rows;
  faults = (keyed grouping.keys rows).faults ++ (groups grouping (keyed grouping.keys rows).rows).faults;
}
