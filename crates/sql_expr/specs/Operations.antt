-- The table of operations, by the types of the operands.
use Rattle.std.specs.Prelude.{◌≡◌, ℕ, ◌+◌, ◌-◌, ◌≤◌, max, Bool, true, false, ◌&&◌, Option, Some, None, if◌then◌else◌, nat_le, ⊤}
use Rattle.ooc_types.specs.declared.schema.SqlType.{SqlType}
use Rattle.ooc_types.specs.declared.schema.SqlType.TheVariants.{Boolean, Integer, BigInt, HugeInt, Decimal, Date, Varchar}
use Rattle.ooc_types.specs.declared.refusal.RefusalKind.{RefusalKind}
use Rattle.ooc_types.specs.declared.refusal.RefusalKind.TheVariants.{TypeMismatch, DecimalTooWide}
use Rattle.sql_expr.specs.declared.tree.ChainSign.{ChainSign}
use Rattle.sql_expr.specs.declared.tree.ChainSign.TheVariants.{Plus, Minus, Times, Quotient, Remainder}
use Rattle.sql_expr.specs.declared.families.Family.{Family}
use Rattle.sql_expr.specs.declared.families.Family.TheVariants.{Truths, Numbers, Texts, Dates}

-- the greatest width of a DECIMAL
abbrev pub most_digits : ℕ
most_digits = 38

-- a type that may be written: a DECIMAL has 1 to 38 digits, of which at most all stand behind the point
abbrev pub IsProper : SqlType → Type 0
IsProper Boolean = ⊤
IsProper Integer = ⊤
IsProper BigInt = ⊤
IsProper HugeInt = ⊤
IsProper (Decimal width scale) = (1 ≤ width) × (width ≤ most_digits) × (scale ≤ width)
IsProper Date = ⊤
IsProper Varchar = ⊤

-- values of one family compare
abbrev pub family : SqlType → Family
family Boolean = Truths
family Integer = Numbers
family BigInt = Numbers
family HugeInt = Numbers
family (Decimal width scale) = Numbers
family Date = Dates
family Varchar = Texts

abbrev pub IsNumber : SqlType → Type 0
IsNumber kind = family kind ≡ Numbers

abbrev pub IsDate : SqlType → Type 0
IsDate kind = family kind ≡ Dates

abbrev pub IsText : SqlType → Type 0
IsText kind = family kind ≡ Texts

abbrev pub IsComparable : SqlType → SqlType → Type 0
IsComparable k l = family k ≡ family l

-- what stands in a chain: numbers and dates
abbrev pub IsAmount : SqlType → Type 0
IsAmount Boolean = ⊥
IsAmount Integer = ⊤
IsAmount BigInt = ⊤
IsAmount HugeInt = ⊤
IsAmount (Decimal width scale) = ⊤
IsAmount Date = ⊤
IsAmount Varchar = ⊥

-- the wider of two types of integers
abbrev pub wider : SqlType → SqlType → Option SqlType
wider Integer Integer = Some Integer
wider Integer BigInt = Some BigInt
wider Integer HugeInt = Some HugeInt
wider BigInt Integer = Some BigInt
wider BigInt BigInt = Some BigInt
wider BigInt HugeInt = Some HugeInt
wider HugeInt Integer = Some HugeInt
wider HugeInt BigInt = Some HugeInt
wider HugeInt HugeInt = Some HugeInt
wider k l = None

-- DECIMAL(width,scale), of at most 38 digits, with at most that many behind the point
abbrev pub decimal : ℕ → ℕ → Option SqlType
decimal width scale = if nat_le width most_digits && nat_le scale width then Some (Decimal width scale) else None

abbrev pub decimal_sum : ℕ → ℕ → ℕ → ℕ → Option SqlType
decimal_sum w s v t = decimal (max (w - s) (v - t) + max s t + 1) (max s t)

-- the digits that an INTEGER and a BIGINT count for beside a DECIMAL
abbrev pub integer_digits : ℕ
integer_digits = 10

abbrev pub bigint_digits : ℕ
bigint_digits = 19

abbrev pub sum_type : SqlType → SqlType → Option SqlType
sum_type (Decimal w s) (Decimal v t) = decimal_sum w s v t
sum_type (Decimal w s) Integer = decimal_sum w s integer_digits 0
sum_type (Decimal w s) BigInt = decimal_sum w s bigint_digits 0
sum_type Integer (Decimal v t) = decimal_sum integer_digits 0 v t
sum_type BigInt (Decimal v t) = decimal_sum bigint_digits 0 v t
sum_type k l = wider k l

abbrev pub product_type : SqlType → SqlType → Option SqlType
product_type (Decimal w s) (Decimal v t) = decimal (w + v) (s + t)
product_type (Decimal w s) Integer = decimal (w + integer_digits) s
product_type (Decimal w s) BigInt = decimal (w + bigint_digits) s
product_type Integer (Decimal v t) = decimal (integer_digits + v) t
product_type BigInt (Decimal v t) = decimal (bigint_digits + v) t
product_type k l = wider k l

-- a DATE and days behind it
abbrev pub plus_type : SqlType → SqlType → Option SqlType
plus_type Date Integer = Some Date
plus_type Date BigInt = Some Date
plus_type k l = sum_type k l

-- a DATE and days before it, or the days between two dates
abbrev pub minus_type : SqlType → SqlType → Option SqlType
minus_type Date Integer = Some Date
minus_type Date BigInt = Some Date
minus_type Date Date = Some BigInt
minus_type k l = sum_type k l

-- the type of two operands under a sign
abbrev pub result_type : ChainSign → SqlType → SqlType → Option SqlType
result_type Plus k l = plus_type k l
result_type Minus k l = minus_type k l
result_type Times k l = product_type k l
result_type Quotient k l = wider k l
result_type Remainder k l = wider k l

-- what may stand beside a DECIMAL under `+`, `-` and `*`
abbrev pub is_beside_decimal : SqlType → Bool
is_beside_decimal Boolean = false
is_beside_decimal Integer = true
is_beside_decimal BigInt = true
is_beside_decimal HugeInt = false
is_beside_decimal (Decimal width scale) = true
is_beside_decimal Date = false
is_beside_decimal Varchar = false

abbrev pub makes_decimals : ChainSign → Bool
makes_decimals Plus = true
makes_decimals Minus = true
makes_decimals Times = true
makes_decimals Quotient = false
makes_decimals Remainder = false

-- Why two operands have no type under a sign. Where they would have one but for its width, it is too wide.
abbrev pub mismatch : ChainSign → SqlType → SqlType → RefusalKind
mismatch sign k l = if makes_decimals sign && (is_beside_decimal k && is_beside_decimal l) then DecimalTooWide else TypeMismatch

-- the sign may stand between operands of these types, and gives this one
pub record IsLinked (sign : ChainSign) (left right kind : SqlType) : Type 0 where
  pub left_proper : IsProper left
  pub right_proper : IsProper right
  pub gives : result_type sign left right ≡ Some kind
