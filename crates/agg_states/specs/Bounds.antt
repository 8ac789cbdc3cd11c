-- What holds of every aggregate, and what is asked of what it takes.
use Rattle.std.specs.Prelude.{◌≡◌, ℕ, ℤ, pos, neg_ℤ, ◌*◌, ◌≤◌, ◌≤ℤ◌, length, nat_le, if◌then◌else◌, FitsSigned, ⊤}
use Rattle.std.specs.Int.{w32, w64, w128}
use Rattle.ooc_types.specs.declared.value.Value.{Value}
use Rattle.ooc_types.specs.declared.value.Value.TheVariants.{Null, Truth, Number, Day, Text}
use Rattle.ooc_types.specs.declared.schema.SqlType.{SqlType}
use Rattle.ooc_types.specs.declared.schema.SqlType.TheVariants.{Boolean, Integer, BigInt, HugeInt, Decimal, Date, Varchar}
use Rattle.ooc_types.specs.Meets.{HasForm, IsInRange, IsDay}
use Rattle.ooc_types.specs.Order.{bytes_of}
use Rattle.ooc_decimal.specs.Numeric.{scale_of}
use Rattle.ooc_decimal.specs.Ends.{most_of, below_of}
use Rattle.agg_states.specs.declared.kind.AggKind.{AggKind}
use Rattle.agg_states.specs.declared.kind.AggKind.TheVariants.{CountRows, Count, Sum, Min, Max}
use Rattle.agg_states.specs.Tally.{Tally, row_limit}

-- NULL, or a value of the type's form, with a text of any length
abbrev pub IsOfForm : SqlType → Value → Type 0
IsOfForm of value = HasForm (length (bytes_of value)) of value

-- a number that fits the bytes of its type's cell
abbrev pub FitsCell : SqlType → ℤ → Type 0
FitsCell Integer digits = FitsSigned w32 digits
FitsCell BigInt digits = FitsSigned w64 digits
FitsCell HugeInt digits = FitsSigned w128 digits
FitsCell (Decimal width places) digits = FitsSigned (if nat_le width 18 then w64 else w128) digits
FitsCell Boolean digits = ⊥
FitsCell Date digits = ⊥
FitsCell Varchar digits = ⊥

-- a type whose sums 128 bits hold: INTEGER, BIGINT, and DECIMAL of at most 27 digits
abbrev pub IsSummable : SqlType → Type 0
IsSummable Integer = ⊤
IsSummable BigInt = ⊤
IsSummable (Decimal width scale) = width ≤ 27
IsSummable HugeInt = ⊥
IsSummable Boolean = ⊥
IsSummable Date = ⊥
IsSummable Varchar = ⊥

-- only some types have sums; each type has the other aggregates
abbrev pub CanStart : AggKind → SqlType → Type 0
CanStart Sum of = IsSummable of
CanStart CountRows of = ⊤
CanStart Count of = ⊤
CanStart Min of = ⊤
CanStart Max of = ⊤

-- count(*) takes any value, and each other aggregate those of its type's form
abbrev pub CanTake : Tally → Value → Type 0
CanTake tally value = (tally.kind ≡ CountRows → ⊥) → IsOfForm tally.of value

-- a count of some of the rows
abbrev pub IsCount : ℕ → Value → Type 0
IsCount rows (Number digits scale) = (pos 0 ≤ℤ digits) × (digits ≤ℤ pos rows) × (scale ≡ 0)
IsCount rows Null = ⊥
IsCount rows (Truth truth) = ⊥
IsCount rows (Day day) = ⊥
IsCount rows (Text bytes) = ⊥

-- NULL, or a sum of at most so many numbers of the type
abbrev pub IsSum : SqlType → ℕ → Value → Type 0
IsSum of rows (Number digits scale) = (neg_ℤ (pos (rows * below_of of)) ≤ℤ digits) × (digits ≤ℤ pos (rows * most_of of)) × (scale ≡ scale_of of)
IsSum of rows Null = ⊤
IsSum of rows (Truth truth) = ⊥
IsSum of rows (Day day) = ⊥
IsSum of rows (Text bytes) = ⊥

abbrev pub IsCell : AggKind → SqlType → ℕ → Value → Type 0
IsCell CountRows of rows cell = IsCount rows cell
IsCell Count of rows cell = IsCount rows cell
IsCell Sum of rows cell = IsSummable of × IsSum of rows cell
IsCell Min of rows cell = IsOfForm of cell
IsCell Max of rows cell = IsOfForm of cell

-- at most so many rows as an aggregate takes, and a cell that they can have
abbrev pub IsSound : AggKind → SqlType → ℕ → Value → Type 0
IsSound kind of rows cell = (rows ≤ row_limit) × IsCell kind of rows cell

-- a value that a column of the type may hold: of its form, with a number or a day in range
abbrev pub IsOfType : SqlType → Value → Type 0
IsOfType of (Number digits scale) = IsInRange of digits × (scale ≡ scale_of of)
IsOfType of (Day day) = IsDay day
IsOfType of Null = ⊤
IsOfType of (Truth truth) = ⊤
IsOfType of (Text bytes) = ⊤
