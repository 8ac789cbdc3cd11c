-- Arithmetic of values.
use Rattle.std.specs.Prelude.{ℕ, zero, suc, ℤ, pos, negsuc, neg_ℤ, ◌+ℤ◌, ◌-ℤ◌, ◌*ℤ◌, ◌^◌, int_div, int_rem, Bool, false, nat_lt, int_le, int_lt, ◌&&◌, if◌then◌else◌, Result, Ok, Err}
use Rattle.ooc_types.specs.declared.value.Value.{Value}
use Rattle.ooc_types.specs.declared.value.Value.TheVariants.{Null, Number, Day}
use Rattle.ooc_types.specs.declared.schema.SqlType.{SqlType}
use Rattle.ooc_types.specs.declared.schema.SqlType.TheVariants.{Boolean, Integer, BigInt, HugeInt, Decimal, Date, Varchar}
use Rattle.ooc_types.specs.Meets.{first_day, last_day}
use Rattle.ooc_decimal.specs.Exact.{at_scale}
use Rattle.ooc_decimal.specs.Numeric.{scale_of}
use Rattle.sql_expr.specs.declared.tree.ChainSign.{ChainSign}
use Rattle.sql_expr.specs.declared.tree.ChainSign.TheVariants.{Plus, Minus, Times, Quotient, Remainder}
use Rattle.sql_expr.specs.declared.fault.ValueFault.{ValueFault}
use Rattle.sql_expr.specs.declared.fault.ValueFault.TheVariants.{Overflow}

-- a value, or a fault
abbrev pub Meaning : Type 0
Meaning = Result Value ValueFault

-- from -2^bits to 2^bits - 1
abbrev pub is_signed : ℕ → ℤ → Bool
is_signed bits (pos n) = nat_lt n (2 ^ bits)
is_signed bits (negsuc n) = nat_lt n (2 ^ bits)

-- less than ten to the power of the width, in magnitude
abbrev pub is_within : ℕ → ℤ → Bool
is_within width (pos n) = nat_lt n (10 ^ width)
is_within width (negsuc n) = nat_lt (suc n) (10 ^ width)

-- from the first day of the calendar to its last
abbrev pub is_day : ℤ → Bool
is_day day = int_le first_day day && int_le day last_day

-- whether digits are in the range of a type, as `IsInRange` and `IsDay` say it
unfoldable pub is_in_range : SqlType → ℤ → Bool
is_in_range Boolean digits = false
is_in_range Integer digits = is_signed 31 digits
is_in_range BigInt digits = is_signed 63 digits
is_in_range HugeInt digits = is_signed 127 digits
is_in_range (Decimal width places) digits = is_within width digits
is_in_range Date digits = is_day digits
is_in_range Varchar digits = false

-- an amount of a type, by its digits: a number, or the number of a day
abbrev pub amount : SqlType → ℤ → Value
amount Date digits = Day digits
amount kind digits = Number digits (scale_of kind)

-- the digits as an amount of the type, and the fault where they are outside its range
abbrev pub exact : SqlType → ℤ → Meaning
exact kind digits = if is_in_range kind digits then Ok (amount kind digits) else Err Overflow

-- NULL in place of a division by zero
abbrev pub unless_zero : ℤ → Meaning → Meaning
unless_zero (pos zero) m = Ok Null
unless_zero (pos (suc n)) m = m
unless_zero (negsuc n) m = m

-- Two numbers under a sign, with a result of the type. `//` truncates towards zero, and `%` has the sign of the
-- dividend.
abbrev pub combined : ChainSign → SqlType → ℤ → ℕ → ℤ → ℕ → Meaning
combined Plus kind a m b n = exact kind (at_scale a m (scale_of kind) +ℤ at_scale b n (scale_of kind))
combined Minus kind a m b n = exact kind (at_scale a m (scale_of kind) -ℤ at_scale b n (scale_of kind))
combined Times kind a m b n = exact kind (a *ℤ b)
combined Quotient kind a m b n = unless_zero b (exact kind (int_div a b))
combined Remainder kind a m b n = unless_zero b (exact kind (int_rem a b))

-- a day outside the calendar, which only a row that wasn't checked can have, is taken as the nearest end
abbrev pub nearest_day : ℤ → ℤ
nearest_day day = if int_lt day first_day then first_day else (if int_lt last_day day then last_day else day)

-- in arithmetic a date counts for the number of its day
abbrev pub counted : Value → Value
counted (Day day) = Number (nearest_day day) 0
counted v = v

abbrev pub numbers_applied : ChainSign → SqlType → Value → Value → Meaning
numbers_applied sign kind (Number a m) (Number b n) = combined sign kind a m b n
numbers_applied sign kind v w = Ok Null

-- two values under a sign; NULL where one is NULL
abbrev pub applied : ChainSign → SqlType → Value → Value → Meaning
applied sign kind v w = numbers_applied sign kind (counted v) (counted w)

abbrev pub opposite : SqlType → Value → Meaning
opposite kind (Number a m) = exact kind (neg_ℤ a)
opposite kind v = Ok Null
