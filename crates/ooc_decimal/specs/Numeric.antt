-- The types of numbers, their scales, and numbers by sign and magnitude.
use Rattle.std.specs.Prelude.{ℕ, ℤ, pos, neg_ℤ, Bool, true, false, ◌≤◌, ⊤}
use Rattle.ooc_types.specs.declared.schema.SqlType.{SqlType}
use Rattle.ooc_types.specs.declared.schema.SqlType.TheVariants.{Boolean, Integer, BigInt, HugeInt, Decimal, Date, Varchar}

-- INTEGER, BIGINT, HUGEINT, and DECIMAL(w,s) with w from 1 to 38 and s at most w
abbrev pub IsNumeric : SqlType → Type 0
IsNumeric Boolean = ⊥
IsNumeric Integer = ⊤
IsNumeric BigInt = ⊤
IsNumeric HugeInt = ⊤
IsNumeric (Decimal width scale) = (1 ≤ width) × (width ≤ 38) × (scale ≤ width)
IsNumeric Date = ⊥
IsNumeric Varchar = ⊥

-- how many digits stand behind the point
abbrev pub scale_of : SqlType → ℕ
scale_of Boolean = 0
scale_of Integer = 0
scale_of BigInt = 0
scale_of HugeInt = 0
scale_of (Decimal width scale) = scale
scale_of Date = 0
scale_of Varchar = 0

-- a number by its sign and its magnitude
abbrev pub signed : Bool → ℕ → ℤ
signed true magnitude = neg_ℤ (pos magnitude)
signed false magnitude = pos magnitude
