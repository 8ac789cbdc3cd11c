-- Comparisons of values.
use Rattle.std.specs.Prelude.{Bool, true, false, ◌||◌, not, if◌then◌else◌}
use Rattle.std.specs.Ordering.{is_eq, is_lt, is_gt}
use Rattle.std.specs.declared.cmp.Ordering.{Ordering}
use Rattle.ooc_types.specs.declared.value.Value.{Value}
use Rattle.ooc_types.specs.declared.value.Value.TheVariants.{Null, Truth, Number, Day, Text}
use Rattle.ooc_types.specs.Order.{value_cmp}
use Rattle.sql_expr.specs.declared.tree.CompareSign.{CompareSign}
use Rattle.sql_expr.specs.declared.tree.CompareSign.TheVariants.{Equal, Unequal, Less, AtMost, Greater, AtLeast}

-- whether the sign holds where the left operand stands so to the right one
abbrev pub holds : CompareSign → Ordering → Bool
holds Equal ordering = is_eq ordering
holds Unequal ordering = not (is_eq ordering)
holds Less ordering = is_lt ordering
holds AtMost ordering = not (is_gt ordering)
holds Greater ordering = is_gt ordering
holds AtLeast ordering = not (is_lt ordering)

abbrev pub is_null : Value → Bool
is_null Null = true
is_null (Truth truth) = false
is_null (Number digits scale) = false
is_null (Day day) = false
is_null (Text bytes) = false

-- by the order of values, and NULL where an operand is NULL
abbrev pub compared : CompareSign → Value → Value → Value
compared sign v w = if is_null v || is_null w then Null else Truth (holds sign (value_cmp v w))
