-- Arguments as the meaning has them.
use Rattle.std.specs.Prelude.{◌≡◌, not, List, ◌++◌, filter}
use Rattle.ooc_bags.specs.Rows.{value_eq}
use Rattle.ooc_types.specs.declared.value.Value.{Value}
use Rattle.sql_expr.specs.declared.tree.Expr.{Expr}
use Rattle.sql_expr.specs.Typing.{FitsRow}
use Rattle.sql_meaning.specs.Found.{Found, Row}
use Rattle.plain_groups.specs.declared.arguments.ValuesFound.{ValuesFound}

abbrev pub found_values : ValuesFound → Found Value
found_values found = record { rows = found.values.items; faults = found.faults.items }

-- the values and faults of `more` came behind
pub record AddsValue (old new : ValuesFound) (more : Found Value) : Type 0 where
  pub rows : new.values.items ≡ old.values.items ++ more.rows
  pub faults : new.faults.items ≡ old.faults.items ++ more.faults

abbrev pub FitsArgument : Row → Expr → Type 0
FitsArgument row expr = FitsRow expr row

-- the values that aren't this one
abbrev pub other_values : Value → List Value → List Value
other_values value = filter (λ other. not (value_eq value other))
