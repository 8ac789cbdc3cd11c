-- The lists that a statement holds outside its tables, and what a list needs.
use Rattle.std.specs.Prelude.{ℕ, ◌+◌, max, Bool, true, false, ◌&&◌, not, nat_le, if◌then◌else◌, List, filter, length, sum_by, fold}
use Rattle.std.specs.List.{list_all}
use Rattle.ooc_types.specs.declared.value.Value.{Value}
use Rattle.ooc_types.specs.declared.value.Value.TheVariants.{Null, Truth, Number, Day, Text}
use Rattle.sql_expr.specs.Comparison.{is_null}
use Rattle.sql_meaning.specs.declared.kinds.AggKind.{AggKind}
use Rattle.sql_meaning.specs.declared.kinds.AggKind.TheVariants.{CountRows, Count, Sum, Min, Max}
use Rattle.sql_meaning.specs.Found.{Row}
use Rattle.sql_meaning.specs.Ordered.{value_at}
use Rattle.sql_meaning.specs.Groups.{Keyed, keys_of, rows_of, arguments, Grouping, Aggregation}
use Rattle.sql_meaning.specs.Stage.{KeyPair}

-- the bytes of a text of more than 12
abbrev pub long_bytes : Value → ℕ
long_bytes (Text bytes) = if nat_le (length bytes) 12 then 0 else length bytes
long_bytes Null = 0
long_bytes (Truth b) = 0
long_bytes (Day day) = 0
long_bytes (Number digits scale) = 0

abbrev pub row_bytes : Row → ℕ
row_bytes row = sum_by long_bytes row

-- a list by what its need depends on: rows, their width, and the bytes of long texts
pub record Listed : Type 0 where
  pub rows : ℕ
  pub width : ℕ
  pub long : ℕ

-- the later source's rows that pass its filter and have no NULL in a key column
abbrev pub build_rows : List KeyPair → (Row → Bool) → List Row → List Row
build_rows keys own rows = filter (λ row. own row && list_all (λ key. not (is_null (value_at key.right row))) keys) rows

abbrev pub join_list : ℕ → List KeyPair → (Row → Bool) → List Row → Listed
join_list width keys own rows =
    record { rows = length (build_rows keys own rows); width = width; long = sum_by row_bytes (build_rows keys own rows) }

abbrev pub takes_texts : AggKind → Bool
takes_texts CountRows = false
takes_texts Count = false
takes_texts Sum = false
takes_texts Min = true
takes_texts Max = true

-- the longest text of more than 12 bytes that `min` or `max` takes
abbrev pub longest : Aggregation → List Row → ℕ
longest aggregate rows =
    if takes_texts aggregate.kind then fold (λ most value. max most (long_bytes value)) 0 (arguments aggregate.of rows).rows else 0

-- one stored row for each key, with the long texts of its key and of its aggregates
abbrev pub group_list : ℕ → Grouping → List Keyed → Listed
group_list width grouping rows = record {
  rows = length (keys_of grouping.keys rows);
  width = width;
  long = sum_by (λ key. row_bytes key + sum_by (λ aggregate. longest aggregate (rows_of key rows)) grouping.aggregates) (keys_of grouping.keys rows);
}
