-- An aggregate on its way: how many rows it took, and what it would answer.
use Rattle.std.specs.Prelude.{ℕ, ℤ, pos, neg_ℤ, ◌+◌, ◌*◌, ◌+ℤ◌, unsigned_abs, ◌==◌, if◌then◌else◌}
use Rattle.ooc_types.specs.declared.value.Value.{Value}
use Rattle.ooc_types.specs.declared.value.Value.TheVariants.{Null, Truth, Number, Day, Text}
use Rattle.ooc_types.specs.declared.schema.SqlType.{SqlType}
use Rattle.ooc_decimal.specs.Numeric.{scale_of}
use Rattle.ooc_decimal.specs.Ends.{most_of, below_of, between, nearest_of}
use Rattle.date_values.specs.Calendar.{nearest_day}
use Rattle.agg_states.specs.declared.kind.AggKind.{AggKind}
use Rattle.agg_states.specs.declared.kind.AggKind.TheVariants.{CountRows, Count, Sum, Min, Max}
use Rattle.agg_states.specs.Aggregates.{better, is_null}
use Rattle.agg_states.specs.declared.kind.Best.{Best}
use Rattle.agg_states.specs.declared.kind.Best.TheVariants.{Least, Most}

pub record Tally : Type 0 where
  pub kind : AggKind
  pub of : SqlType
  pub rows : ℕ
  pub cell : Value

-- the rows that an aggregate takes at most
abbrev pub row_limit : ℕ
row_limit = 100_000_000_000

-- a value, and a number or a day outside its type's range as the nearest value of the type
abbrev pub nearest_value : SqlType → Value → Value
nearest_value of (Number digits scale) = Number (nearest_of of digits) scale
nearest_value of (Day day) = Day (nearest_day day)
nearest_value of Null = Null
nearest_value of (Truth truth) = Truth truth
nearest_value of (Text bytes) = Text bytes

-- a number, and NULL for any other value
abbrev pub number_of : Value → Value
number_of (Number digits scale) = Number digits scale
number_of Null = Null
number_of (Truth truth) = Null
number_of (Day day) = Null
number_of (Text bytes) = Null

-- a number more; what is no number adds nothing
abbrev pub plus : Value → Value → Value
plus (Number a s) (Number b t) = Number (a +ℤ b) s
plus Null (Number b t) = Number b t
plus v w = v

-- the better of two values, and not NULL where one isn't
abbrev pub pick : Best → Value → Value → Value
pick best v w = if is_null w then v else (if is_null v then w else better best v w)

-- what two cells say together
abbrev pub both : AggKind → Value → Value → Value
both CountRows v w = plus v w
both Count v w = plus v w
both Sum v w = plus v w
both Min v w = pick Least v w
both Max v w = pick Most v w

-- what one value says
abbrev pub cell_of : AggKind → SqlType → Value → Value
cell_of CountRows of value = Number (pos 1) 0
cell_of Count of value = if is_null value then Null else Number (pos 1) 0
cell_of Sum of value = number_of (nearest_value of value)
cell_of Min of value = nearest_value of value
cell_of Max of value = nearest_value of value

abbrev pub empty_cell : AggKind → Value
empty_cell CountRows = Number (pos 0) 0
empty_cell Count = Number (pos 0) 0
empty_cell Sum = Null
empty_cell Min = Null
empty_cell Max = Null

abbrev pub started : AggKind → SqlType → Tally
started kind of = record { kind = kind; of = of; rows = 0; cell = empty_cell kind }

abbrev pub added : Tally → Value → Tally
added t value = record { kind = t.kind; of = t.of; rows = t.rows + 1; cell = both t.kind t.cell (cell_of t.kind t.of value) }

abbrev pub merged : Tally → Tally → Tally
merged t u = record { kind = t.kind; of = t.of; rows = t.rows + u.rows; cell = both t.kind t.cell u.cell }

-- a number of rows, and outside 0 to the limit the nearest end
abbrev pub restored_rows : ℤ → ℕ
restored_rows rows = unsigned_abs (between (pos 0) (pos row_limit) rows)

-- a cell of counted rows, and outside 0 to the rows the nearest end; what isn't a number without decimals counts nothing
abbrev pub restored_count : ℕ → Value → Value
restored_count rows (Number digits scale) = if scale == 0 then Number (between (pos 0) (pos rows) digits) 0 else Number (pos 0) 0
restored_count rows Null = Number (pos 0) 0
restored_count rows (Truth truth) = Number (pos 0) 0
restored_count rows (Day day) = Number (pos 0) 0
restored_count rows (Text bytes) = Number (pos 0) 0

-- a cell of a sum, and outside the rows times the type's ends the nearest of the two; what has another form is NULL
abbrev pub restored_sum : SqlType → ℕ → Value → Value
restored_sum of rows (Number digits scale) =
    if scale == scale_of of then Number (between (neg_ℤ (pos (rows * below_of of))) (pos (rows * most_of of)) digits) scale else Null
restored_sum of rows Null = Null
restored_sum of rows (Truth truth) = Null
restored_sum of rows (Day day) = Null
restored_sum of rows (Text bytes) = Null
