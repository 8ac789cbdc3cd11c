-- Values and rows that are the same, as tests.
use Rattle.std.specs.Prelude.{Bool, true, false, List, nat_eq, ◌&&◌, ◌==◌, count_by}
use Rattle.std.specs.List.{list_all}
use Rattle.std.specs.Ordering.{int_eq}
use Rattle.std.specs.Str.{bytes_eq}
use Rattle.std.specs.Cmp.Lexicographic.{pointwise}
use Rattle.ooc_types.specs.declared.value.Value.{Value}
use Rattle.ooc_types.specs.declared.value.Value.TheVariants.{Null, Truth, Number, Day, Text}

-- of one kind, and the same in each part: 1.0 and 1.00 are two values
abbrev pub value_eq : Value → Value → Bool
value_eq Null Null = true
value_eq (Truth true) (Truth b) = b
value_eq (Truth false) (Truth true) = false
value_eq (Truth false) (Truth false) = true
value_eq (Number digits scale) (Number others place) = int_eq digits others && nat_eq scale place
value_eq (Day day) (Day other) = int_eq day other
value_eq (Text bytes) (Text others) = bytes_eq bytes others
value_eq a b = false

-- the same values in the same order
abbrev pub row_eq : List Value → List Value → Bool
row_eq = pointwise value_eq

-- each of these rows stands equally often in both lists
abbrev pub each_as_often : List (List Value) → List (List Value) → List (List Value) → Bool
each_as_often rows xs ys = list_all (λ row. count_by (row_eq row) xs == count_by (row_eq row) ys) rows
