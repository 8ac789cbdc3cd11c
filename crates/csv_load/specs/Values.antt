-- The value of a field.
use Rattle.std.specs.Prelude.{ℕ, Bool, true, if◌then◌else◌, nat_lt, Option, Some, None, Result, Ok, Err, List, length, ⊤, nat_le, ◌&&◌}
use Rattle.std.specs.List.{list_all}
use Rattle.std.specs.Str.{bytes_eq, is_utf8}
use Rattle.ooc_types.specs.declared.value.Value.{Value}
use Rattle.ooc_types.specs.declared.value.Value.TheVariants.{Null, Truth, Number, Day, Text}
use Rattle.ooc_types.specs.declared.schema.SqlType.{SqlType}
use Rattle.ooc_types.specs.declared.schema.SqlType.TheVariants.{Boolean, Integer, BigInt, HugeInt, Decimal, Date, Varchar}
use Rattle.ooc_types.specs.declared.schema.Column.{Column}
use Rattle.ooc_types.specs.declared.refusal.RefusalKind.{RefusalKind}
use Rattle.ooc_types.specs.declared.refusal.RefusalKind.TheVariants.{NullRefused, BadUtf8, TextTooLong, BadValue}
use Rattle.ooc_decimal.specs.Numeral.{trimmed}
use Rattle.ooc_decimal.specs.Numeric.{IsNumeric}
use Rattle.csv_load.specs.Words.{truth_of}
use Rattle.csv_load.specs.Numbers.{number_of}
use Rattle.csv_load.specs.Dates.{day_of}

-- a value, or a field that is none
abbrev pub value_or_bad : {A : Type 0} → (A → Value) → Option A → Result Value RefusalKind
value_or_bad make None = Err BadValue
value_or_bad make (Some a) = Ok (make a)

-- the bytes of a field
abbrev pub text_value : ℕ → List ℕ → Result Value RefusalKind
text_value limit field = if is_utf8 field then (if nat_lt limit (length field) then Err TextTooLong else Ok (Text field)) else Err BadUtf8

-- the value of a field that isn't NULL, in a column of this type. Spaces and tabs at the ends of a field that is no
-- text are ignored.
unfoldable pub typed_value : ℕ → SqlType → List ℕ → Result Value RefusalKind
typed_value limit Boolean field = value_or_bad Truth (truth_of (trimmed field))
typed_value limit Integer field = value_or_bad (λ n. Number n 0) (number_of Integer field)
typed_value limit BigInt field = value_or_bad (λ n. Number n 0) (number_of BigInt field)
typed_value limit HugeInt field = value_or_bad (λ n. Number n 0) (number_of HugeInt field)
typed_value limit (Decimal width scale) field = value_or_bad (λ n. Number n scale) (number_of (Decimal width scale) field)
typed_value limit Date field = value_or_bad Day (day_of (trimmed field))
typed_value limit Varchar field = text_value limit field

-- the value of a field in a column: a field that equals the NULL text is NULL, and refused where the column has none
unfoldable pub field_value : ℕ → List ℕ → Column → List ℕ → Result Value RefusalKind
field_value limit null column field =
    if bytes_eq field null then (if column.nullable then Ok Null else Err NullRefused)
    else typed_value limit column.kind field

-- a type that a column may have: DECIMAL(w,s) has w from 1 to 38 and s at most w
abbrev pub IsColumnType : SqlType → Type 0
IsColumnType Boolean = ⊤
IsColumnType Integer = ⊤
IsColumnType BigInt = ⊤
IsColumnType HugeInt = ⊤
IsColumnType (Decimal width scale) = IsNumeric (Decimal width scale)
IsColumnType Date = ⊤
IsColumnType Varchar = ⊤

-- the same as a test
abbrev pub is_column_type : SqlType → Bool
is_column_type Boolean = true
is_column_type Integer = true
is_column_type BigInt = true
is_column_type HugeInt = true
is_column_type (Decimal width scale) = nat_le 1 width && (nat_le width 38 && nat_le scale width)
is_column_type Date = true
is_column_type Varchar = true

-- each column has such a type
abbrev pub are_typed : List Column → Bool
are_typed columns = list_all (λ column. is_column_type column.kind) columns
