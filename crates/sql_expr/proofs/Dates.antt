-- Dates under a sign.
use Rattle.std.proofs.Common.{◌≡◌, refl, ap, ◌∙◌, subst, arith}
use Rattle.std.specs.Prelude.{ℤ, ◌+ℤ◌, ◌-ℤ◌, Option}
use Rattle.std.specs.Option.{SomeIff}
use Rattle.std.proofs.lemmas.Int.{ints}
use Rattle.ooc_types.specs.declared.value.Value.TheVariants.{Number}
use Rattle.ooc_types.specs.declared.schema.SqlType.{SqlType}
use Rattle.ooc_types.specs.declared.schema.SqlType.TheVariants.{Boolean, Integer, BigInt, HugeInt, Decimal, Date, Varchar}
use Rattle.ooc_types.specs.Meets.{IsDay}
use Rattle.ooc_decimal.specs.Exact.{at_scale, IsExact}
use Rattle.ooc_decimal.specs.Numeric.{scale_of}
use Rattle.sql_expr.specs.declared.tree.ChainSign.{ChainSign}
use Rattle.sql_expr.specs.declared.tree.ChainSign.TheVariants.{Plus, Minus, Times, Quotient, Remainder}
use Rattle.sql_expr.specs.Arithmetic.{amount, exact, combined, counted, numbers_applied, nearest_day}
use Rattle.sql_expr.specs.Operations.{IsComparable, IsLinked}
use Rattle.sql_expr.specs.Outcomes.{amount_meaning, told}
use Rattle.sql_expr.proofs.Exactness.{exact_told, day_told}

-- values of a DATE compare with dates alone
pub date_beside : (l r : SqlType) → l ≡ Date → IsComparable l r → r ≡ Date
date_beside Date Boolean is h = cc
date_beside Date Integer is h = cc
date_beside Date BigInt is h = cc
date_beside Date HugeInt is h = cc
date_beside Date (Decimal w s) is h = cc
date_beside Date Date is h = refl
date_beside Date Varchar is h = cc
date_beside l r is h = cc

at_zero : (d : ℤ) → at_scale d 0 0 ≡ d
at_zero d = omega (arith, ints)

day_sum : (d b : ℤ) (o : Option ℤ) → SomeIff o (IsDay (d +ℤ b)) (d +ℤ b) → combined Plus Date d 0 b 0 ≡ amount_meaning Date (told o)
day_sum d b o is =
    let e : at_scale d 0 0 +ℤ at_scale b 0 0 ≡ d +ℤ b = ap (λ x. x +ℤ at_scale b 0 0) (at_zero d) ∙ ap (λ y. d +ℤ y) (at_zero b) in
    ap (exact Date) e ∙ day_told (d +ℤ b) o is

day_difference : (d b : ℤ) (o : Option ℤ) → SomeIff o (IsDay (d -ℤ b)) (d -ℤ b) → combined Minus Date d 0 b 0 ≡ amount_meaning Date (told o)
day_difference d b o is =
    let e : at_scale d 0 0 -ℤ at_scale b 0 0 ≡ d -ℤ b = ap (λ x. x -ℤ at_scale b 0 0) (at_zero d) ∙ ap (λ y. d -ℤ y) (at_zero b) in
    ap (exact Date) e ∙ day_told (d -ℤ b) o is

pub plus_date : (r kind : SqlType) (d b : ℤ) (o : Option ℤ) → IsLinked Plus Date r kind → SomeIff o (IsDay (d +ℤ b)) (d +ℤ b)
    → numbers_applied Plus kind (Number d 0) (counted (amount r b)) ≡ amount_meaning kind (told o)
plus_date Integer kind d b o h is =
    let f : Date ≡ kind = let e = h.gives in cc in
    subst (λ (k : SqlType). numbers_applied Plus k (Number d 0) (Number b 0) ≡ amount_meaning k (told o)) f (day_sum d b o is)
plus_date BigInt kind d b o h is =
    let f : Date ≡ kind = let e = h.gives in cc in
    subst (λ (k : SqlType). numbers_applied Plus k (Number d 0) (Number b 0) ≡ amount_meaning k (told o)) f (day_sum d b o is)
plus_date Boolean kind d b o h is = let e = h.gives in cc
plus_date HugeInt kind d b o h is = let e = h.gives in cc
plus_date (Decimal w s) kind d b o h is = let e = h.gives in cc
plus_date Date kind d b o h is = let e = h.gives in cc
plus_date Varchar kind d b o h is = let e = h.gives in cc

-- of the signs other than `-`, only `+` has a date before it
pub date_behind : (sign : ChainSign) (r kind : SqlType) (d b : ℤ) (o : Option ℤ) → (sign ≡ Minus → ⊥) → IsLinked sign Date r kind
    → SomeIff o (IsDay (d +ℤ b)) (d +ℤ b) → numbers_applied sign kind (Number d 0) (counted (amount r b)) ≡ amount_meaning kind (told o)
date_behind Plus r kind d b o not h is = plus_date r kind d b o h is
date_behind Minus r kind d b o not h is = absurd (not refl)
date_behind Times r kind d b o not h is = let e = h.gives in cc
date_behind Quotient r kind d b o not h is = let e = h.gives in cc
date_behind Remainder r kind d b o not h is = let e = h.gives in cc

pub date_before : (r kind : SqlType) (d b : ℤ) (o : Option ℤ) → (r ≡ Date → ⊥) → IsLinked Minus Date r kind
    → SomeIff o (IsDay (d -ℤ b)) (d -ℤ b) → numbers_applied Minus kind (Number d 0) (counted (amount r b)) ≡ amount_meaning kind (told o)
date_before Integer kind d b o not h is =
    let f : Date ≡ kind = let e = h.gives in cc in
    subst (λ (k : SqlType). numbers_applied Minus k (Number d 0) (Number b 0) ≡ amount_meaning k (told o)) f (day_difference d b o is)
date_before BigInt kind d b o not h is =
    let f : Date ≡ kind = let e = h.gives in cc in
    subst (λ (k : SqlType). numbers_applied Minus k (Number d 0) (Number b 0) ≡ amount_meaning k (told o)) f (day_difference d b o is)
date_before Boolean kind d b o not h is = let e = h.gives in cc
date_before HugeInt kind d b o not h is = let e = h.gives in cc
date_before (Decimal w s) kind d b o not h is = let e = h.gives in cc
date_before Date kind d b o not h is = absurd (not refl)
date_before Varchar kind d b o not h is = let e = h.gives in cc

pub days_between : (kind : SqlType) (d b : ℤ) (o : Option ℤ) → IsLinked Minus Date Date kind
    → IsExact kind (at_scale d 0 (scale_of kind) -ℤ at_scale (nearest_day b) 0 (scale_of kind)) o
    → numbers_applied Minus kind (Number d 0) (counted (amount Date b)) ≡ amount_meaning kind (told o)
days_between kind d b o h is =
    let f : BigInt ≡ kind = let e = h.gives in cc in
    subst (λ (k : SqlType). IsExact k (at_scale d 0 (scale_of k) -ℤ at_scale (nearest_day b) 0 (scale_of k)) o
    → numbers_applied Minus k (Number d 0) (Number (nearest_day b) 0) ≡ amount_meaning k (told o)) f
    (λ exact. exact_told BigInt (at_scale d 0 0 -ℤ at_scale (nearest_day b) 0 0) o tt exact) is

-- the same under a sign and beside a type that are known to be these
pub days_between_in : (sign : ChainSign) (r kind : SqlType) (d b : ℤ) (o : Option ℤ) → sign ≡ Minus → r ≡ Date → IsLinked sign Date r kind
    → IsExact kind (at_scale d 0 (scale_of kind) -ℤ at_scale (nearest_day b) 0 (scale_of kind)) o
    → numbers_applied sign kind (Number d 0) (counted (amount r b)) ≡ amount_meaning kind (told o)
days_between_in Minus Date kind d b o p q h is = days_between kind d b o h is
days_between_in sign r kind d b o p q h is = cc

pub date_before_in : (sign : ChainSign) (r kind : SqlType) (d b : ℤ) (o : Option ℤ) → sign ≡ Minus → (r ≡ Date → ⊥) → IsLinked sign Date r kind
    → SomeIff o (IsDay (d -ℤ b)) (d -ℤ b) → numbers_applied sign kind (Number d 0) (counted (amount r b)) ≡ amount_meaning kind (told o)
date_before_in Minus r kind d b o p not h is = date_before r kind d b o not h is
date_before_in sign r kind d b o p not h is = cc
