-- Values as they are read.
use Rattle.std.specs.Prelude.{◌≡◌, Result, Ok, Err, List}
use Rattle.ooc_types.specs.declared.value.Value.{Value}
use Rattle.ooc_types.specs.declared.value.Value.TheVariants as sql
use Rattle.ooc_types.specs.declared.refusal.RefusalKind.{RefusalKind}
use Rattle.csv_load.specs.declared.field_read.FieldRead.{FieldRead}
use Rattle.csv_load.specs.declared.field_read.FieldRead.TheVariants.{Null, Truth, Number, Day, Text}

-- a value as it is read
abbrev pub value_in : FieldRead → Value
value_in Null = sql.Null
value_in (Truth truth) = sql.Truth truth
value_in (Number digits scale) = sql.Number digits scale
value_in (Day day) = sql.Day day
value_in (Text text) = sql.Text text.now

-- the value that is meant is read, or it is refused as it is meant to be
abbrev pub Reads : Result Value RefusalKind → Result FieldRead RefusalKind → Type 0
Reads meant (Err kind) = meant ≡ Err kind
Reads meant (Ok field) = meant ≡ Ok (value_in field)

-- the same of the values of a row
abbrev pub ReadsAll : {E : Type 0} → Result (List Value) E → Result (Unit {0}) E → List Value → Type 0
ReadsAll meant (Err why) values = meant ≡ Err why
ReadsAll meant (Ok u) values = meant ≡ Ok values
