-- Arithmetic that tells a number or a fault.
use Rattle.std.proofs.Common.{◌≡◌, ◌≢◌, zero, suc, ◌^◌, refl, sym, ap, arith, Bool, true, false, cond}
use Rattle.std.specs.Prelude.{ℤ, pos, negsuc, Option, Some, None, Ok, Err}
use Rattle.std.specs.Option.{SomeIff}
use Rattle.std.specs.Bool.{Decides}
use Rattle.std.proofs.lemmas.Int.{ints}
use Rattle.std.proofs.lemmas.Bool.Decides.{Decides-ltb}
use Rattle.ooc_types.specs.declared.schema.SqlType.{SqlType}
use Rattle.ooc_types.specs.declared.schema.SqlType.TheVariants.{Boolean, Integer, BigInt, HugeInt, Decimal, Date, Varchar}
use Rattle.ooc_types.specs.declared.value.Value.TheVariants.{Number}
use Rattle.sql_expr.specs.declared.fault.ValueFault.TheVariants.{Overflow}
use Rattle.ooc_types.specs.Meets.{IsInRange, IsDay}
use Rattle.ooc_decimal.specs.Exact.{IsExact}
use Rattle.ooc_decimal.specs.Numeric.{IsNumeric, scale_of}
use Rattle.sql_expr.specs.Arithmetic.{is_day, is_in_range, amount, exact, unless_zero, Meaning}
use Rattle.sql_expr.specs.Operations.{IsNumber}
use Rattle.sql_expr.specs.Outcomes.{amount_meaning, told}

-- in the range of a type
abbrev pub IsWithin : SqlType → ℤ → Type 0
IsWithin Date d = IsDay d
IsWithin kind d = IsInRange kind d

day_decides : (d : ℤ) → Decides (is_day d) (IsDay d)
day_decides d = ((λ h. grind (arith, ints)), (λ h. grind (arith, ints)))

pub in_range_decides : (kind : SqlType) (d : ℤ) → Decides (is_in_range kind d) (IsWithin kind d)
unfolding is_in_range
in_range_decides Date d = day_decides d
in_range_decides Boolean d = ((λ h. cc), (λ h. absurd h))
in_range_decides Varchar d = ((λ h. cc), (λ h. absurd h))
in_range_decides Integer (pos n) =
    ((λ h. let e = (Decides-ltb n (2 ^ 31)).0 h in omega (arith, ints)), (λ h. (Decides-ltb n (2 ^ 31)).1 (omega (arith, ints))))
in_range_decides Integer (negsuc n) =
    ((λ h. let e = (Decides-ltb n (2 ^ 31)).0 h in omega (arith, ints)), (λ h. (Decides-ltb n (2 ^ 31)).1 (omega (arith, ints))))
in_range_decides BigInt (pos n) =
    ((λ h. let e = (Decides-ltb n (2 ^ 63)).0 h in omega (arith, ints)), (λ h. (Decides-ltb n (2 ^ 63)).1 (omega (arith, ints))))
in_range_decides BigInt (negsuc n) =
    ((λ h. let e = (Decides-ltb n (2 ^ 63)).0 h in omega (arith, ints)), (λ h. (Decides-ltb n (2 ^ 63)).1 (omega (arith, ints))))
in_range_decides HugeInt (pos n) =
    ((λ h. let e = (Decides-ltb n (2 ^ 127)).0 h in omega (arith, ints)), (λ h. (Decides-ltb n (2 ^ 127)).1 (omega (arith, ints))))
in_range_decides HugeInt (negsuc n) =
    ((λ h. let e = (Decides-ltb n (2 ^ 127)).0 h in omega (arith, ints)), (λ h. (Decides-ltb n (2 ^ 127)).1 (omega (arith, ints))))
in_range_decides (Decimal w s) (pos n) =
    ((λ h. let e = (Decides-ltb n (10 ^ w)).0 h in (omega (arith, ints), omega (arith, ints))), (λ h. (Decides-ltb n (10 ^ w)).1 (omega (arith, ints))))
in_range_decides (Decimal w s) (negsuc n) =
    ((λ h. let e = (Decides-ltb (suc n) (10 ^ w)).0 h in (omega (arith, ints), omega (arith, ints))), (λ h. (Decides-ltb (suc n) (10 ^ w)).1 (omega (arith, ints))))

told_by : (b : Bool) (kind : SqlType) (d : ℤ) (o : Option ℤ) → Decides b (IsWithin kind d) → SomeIff o (IsWithin kind d) d
    → (cond b (Ok (amount kind d)) (Err Overflow)) ≡ amount_meaning kind (told o)
told_by true kind d None decides is = absurd (is (decides.0 refl))
told_by true kind d (Some x) decides is = ap (λ y. Ok (amount kind y)) (sym is.1)
told_by false kind d None decides is = refl
told_by false kind d (Some x) decides is = let e = decides.1 is.0 in cc

-- a number, or the fault
numeric_told : (kind : SqlType) (d : ℤ) (o : Option ℤ) → IsNumeric kind → IsExact kind d o → SomeIff o (IsWithin kind d) d
numeric_told Boolean d o n is = absurd n
numeric_told Integer d o n is = is
numeric_told BigInt d o n is = is
numeric_told HugeInt d o n is = is
numeric_told (Decimal w s) d o n is = is
numeric_told Date d o n is = absurd n
numeric_told Varchar d o n is = absurd n

pub exact_told : (kind : SqlType) (d : ℤ) (o : Option ℤ) → IsNumeric kind → IsExact kind d o → exact kind d ≡ amount_meaning kind (told o)
exact_told kind d o n is = told_by (is_in_range kind d) kind d o (in_range_decides kind d) (numeric_told kind d o n is)

-- a day, or the fault
pub day_told : (d : ℤ) (o : Option ℤ) → SomeIff o (IsDay d) d → exact Date d ≡ amount_meaning Date (told o)
day_told d o is = told_by (is_in_range Date d) Date d o (in_range_decides Date d) is

pub amount_of_number : (kind : SqlType) (d : ℤ) → IsNumber kind → amount kind d ≡ Number d (scale_of kind)
amount_of_number Boolean d n = cc
amount_of_number Integer d n = refl
amount_of_number BigInt d n = refl
amount_of_number HugeInt d n = refl
amount_of_number (Decimal w s) d n = refl
amount_of_number Date d n = cc
amount_of_number Varchar d n = cc

pub unless_not_zero : (b : ℤ) (m : Meaning) → b ≢ pos 0 → unless_zero b m ≡ m
unless_not_zero (pos zero) m h = absurd (h refl)
unless_not_zero (pos (suc n)) m h = refl
unless_not_zero (negsuc n) m h = refl
