-- Rows of SQL, and the cells that their values are kept in.
use Rattle.std.specs.Prelude.{ℕ, ℤ, pos, negsuc, suc, zero, nat_le, Bool, true, false, if◌then◌else◌, List, [], ◌∷◌, map}
use Rattle.ooc_types.specs.declared.value.Value.{Value}
use Rattle.ooc_types.specs.declared.value.Value.TheVariants.{Null, Truth, Number, Day, Text}
use Rattle.ooc_types.specs.declared.schema.SqlType.{SqlType}
use Rattle.ooc_types.specs.declared.schema.SqlType.TheVariants.{Boolean, Integer, BigInt, HugeInt, Decimal, Date, Varchar}
use Rattle.row_image.specs.declared.layout.CellKind.{CellKind}
use Rattle.row_image.specs.declared.layout.CellKind.TheVariants as cell
use Rattle.row_image.specs.Texts.{CellValue, NullValue, NumberValue, TextValue, ValueRow}

-- a row with its hash
pub record SetRow : Type 0 where
  pub hash : ℕ
  pub values : List Value

-- the kind of cell that a type's values are kept in
abbrev pub cell_kind : SqlType → CellKind
cell_kind Boolean = cell.Bit
cell_kind Integer = cell.Four
cell_kind BigInt = cell.Eight
cell_kind HugeInt = cell.Sixteen
cell_kind (Decimal width scale) = if nat_le width 18 then cell.Eight else cell.Sixteen
cell_kind Date = cell.Four
cell_kind Varchar = cell.Text

abbrev pub cell_kinds : List SqlType → List CellKind
cell_kinds kinds = map cell_kind kinds

-- 0 is false
abbrev pub truth_as : ℤ → Bool
truth_as (pos zero) = false
truth_as (pos (suc n)) = true
truth_as (negsuc n) = true

-- the value of a number in a column of a type
abbrev pub number_as : SqlType → ℤ → Value
number_as Boolean z = Truth (truth_as z)
number_as Integer z = Number z 0
number_as BigInt z = Number z 0
number_as HugeInt z = Number z 0
number_as (Decimal width scale) z = Number z scale
number_as Date z = Day z
number_as Varchar z = Null

-- what a value of a type's column is in SQL
abbrev pub value_as : SqlType → CellValue → Value
value_as kind NullValue = Null
value_as kind (NumberValue z) = number_as kind z
value_as kind (TextValue text) = Text text

abbrev pub values_as : List SqlType → List CellValue → List Value
values_as [] cells = []
values_as (kind ∷ kinds) [] = []
values_as (kind ∷ kinds) (cell ∷ cells) = value_as kind cell ∷ values_as kinds cells

abbrev pub row_as : List SqlType → ValueRow → SetRow
row_as kinds row = record { hash = row.hash; values = values_as kinds row.values }

-- and what a value of SQL is kept as
abbrev pub kept_as : Value → CellValue
kept_as Null = NullValue
kept_as (Truth b) = NumberValue (if b then pos 1 else pos 0)
kept_as (Number digits scale) = NumberValue digits
kept_as (Day day) = NumberValue day
kept_as (Text text) = TextValue text
