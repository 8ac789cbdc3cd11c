-- The forms and the ranges of values.
use Rattle.std.proofs.Common.{◌≡◌, ℕ, ◌<◌, ◌≤◌, ◌^◌, Bool, true, false, cond, nat_le, List, refl, ap, ◌∙◌, subst, arith}
use Rattle.std.specs.Prelude.{ℤ, pos, negsuc, ◌<ℤ◌, ◌+ℤ◌, FitsSigned, Ok, ⊤}
use Rattle.std.specs.Int.{w32, w64, w128}
use Rattle.std.proofs.lemmas.Int.{ints}
use Rattle.std.proofs.lemmas.Bool.{leb-true}
use Rattle.std.proofs.Math.Nat.{pow-le-pow_right}
use Rattle.ooc_types.specs.declared.value.Value.{Value}
use Rattle.ooc_types.specs.declared.value.Value.TheVariants.{Null, Truth, Number, Day, Text}
use Rattle.ooc_types.specs.declared.schema.SqlType.{SqlType}
use Rattle.ooc_types.specs.declared.schema.SqlType.TheVariants.{Boolean, Integer, BigInt, HugeInt, Decimal, Date, Varchar}
use Rattle.ooc_types.specs.Meets.{Meets, AllMeet, HasForm, IsNumberOf, IsInRange, IsDay}
use Rattle.sql_expr.specs.declared.tree.Expr.{Expr}
use Rattle.sql_expr.specs.declared.tree.Link.{Link}
use Rattle.sql_expr.specs.declared.tree.Expr.TheOpen.{Expr-F}
use Rattle.sql_expr.specs.declared.tree.Expr.TheFolds.{every-Link, every_here-Expr, every_held-Expr, every_held-Link}
use Rattle.sql_expr.specs.declared.tree.Expr.TheViews.{out-Expr}
use Rattle.sql_expr.specs.Arithmetic.{amount}
use Rattle.sql_expr.specs.Kinds.{kind_of}
use Rattle.sql_expr.specs.Meaning.{value_of}
use Rattle.sql_expr.specs.Operations.{IsProper}
use Rattle.sql_expr.specs.Typing.{FitsRow, IsTyped, IsLiteral, IsNumberLiteral, AnyLink}
use Rattle.sql_expr.specs.Values.{OnValue, IsRanged, IsWithinLimit, IsShortNode, HasShortTexts}
use Rattle.sql_expr.proofs.Exactness.{IsWithin, in_range_decides}
use Rattle.sql_expr.proofs.Faultless.{small_integer, small_bigint}
use Rattle.sql_expr.proofs.Opened.{Children, children_hold, meets_at}
use Rattle.sql_expr.proofs.ValueFacts.{Rules, has_fact}

-- less than ten to the power of 18 fits eight bytes, and of 38 sixteen
below_18 : (w : ℕ) → w ≤ 18 → 10 ^ w < 2 ^ 63
below_18 w h = let below : 10 ^ w ≤ 10 ^ 18 = pow-le-pow_right {n = 10} (omega arith) h in omega arith

below_38 : (w : ℕ) → w ≤ 38 → 10 ^ w < 2 ^ 127
below_38 w h = let below : 10 ^ w ≤ 10 ^ 38 = pow-le-pow_right {n = 10} (omega arith) h in omega arith

-- a day of the calendar fits four bytes
day_fits : (d : ℤ) → IsDay d → FitsSigned w32 d
day_fits d h = let low = h.0 in let high = h.1 in omega (arith, ints)

fits_cell : (w : ℕ) (d : ℤ) → w ≤ 38 → d <ℤ pos (10 ^ w) → pos 0 <ℤ (d +ℤ pos (10 ^ w)) → FitsSigned (cond (nat_le w 18) w64 w128) d
fits_cell w d narrow high low =
    elim (nat_le w 18) as (λ (b : Bool). nat_le w 18 ≡ b → FitsSigned (cond b w64 w128) d) [
      | true ↦ λ h. let small = below_18 w (leb-true w 18 h) in omega (arith, ints)
      | false ↦ λ h. let small = below_38 w narrow in omega (arith, ints)
    ] refl

form_of_range : (limit : ℕ) (kind : SqlType) (d : ℤ) → IsProper kind → IsWithin kind d → HasForm limit kind (amount kind d)
form_of_range limit Boolean d proper h = absurd h
form_of_range limit Integer d proper h = (h, refl)
form_of_range limit BigInt d proper h = (h, refl)
form_of_range limit HugeInt d proper h = (h, refl)
form_of_range limit (Decimal w s) d proper h = (fits_cell w d proper.1 h.0 h.1, refl)
form_of_range limit Date d proper h = (refl, day_fits d h)
form_of_range limit Varchar d proper h = absurd h

range_of : (kind : SqlType) (d : ℤ) → IsWithin kind d → IsRanged kind (amount kind d)
range_of Boolean d h = absurd h
range_of Integer d h = h
range_of BigInt d h = h
range_of HugeInt d h = h
range_of (Decimal w s) d h = h
range_of Date d h = h
range_of Varchar d h = absurd h

form_rules : (limit : ℕ) → Rules (HasForm limit)
form_rules limit = record {
  null = λ kind. tt;
  truth = λ b. refl;
  amounts = λ kind digits proper h. form_of_range limit kind digits proper ((in_range_decides kind digits).0 h);
}

range_rules : Rules IsRanged
range_rules = record {
  null = λ kind. tt;
  truth = λ b. tt;
  amounts = λ kind digits proper h. range_of kind digits ((in_range_decides kind digits).0 h);
}

-- a literal's number is in the range of its type
literal_in_range : (kind : SqlType) (n m : ℕ) → IsNumberLiteral kind n m → IsInRange kind (pos n)
literal_in_range Boolean n m h = h
literal_in_range Integer n m h = let small = small_integer n h.1 in omega (arith, ints)
literal_in_range BigInt n m h = let small = small_bigint n h.1 in omega (arith, ints)
literal_in_range HugeInt n m h = let small = h.2 in omega (arith, ints)
literal_in_range (Decimal w s) n m h = let small = h.1.small in (omega (arith, ints), omega (arith, ints))
literal_in_range Date n m h = h
literal_in_range Varchar n m h = h

literal_number : (kind : SqlType) (n m : ℕ) → IsNumberLiteral kind n m → IsNumberOf kind (pos n) m
literal_number Boolean n m h = h
literal_number Integer n m h = (literal_in_range Integer n m h, h.0)
literal_number BigInt n m h = (literal_in_range BigInt n m h, h.0)
literal_number HugeInt n m h = (literal_in_range HugeInt n m h, h.0)
literal_number (Decimal w s) n m h = let r = literal_in_range (Decimal w s) n m h in (fits_cell w (pos n) h.1.most r.0 r.1, h.0)
literal_number Date n m h = h
literal_number Varchar n m h = h

literal_ranged : (kind : SqlType) (v : Value) → IsLiteral kind v → IsRanged kind v
literal_ranged kind Null h = tt
literal_ranged kind (Truth b) h = tt
literal_ranged kind (Number (pos n) m) h = literal_in_range kind n m h
literal_ranged kind (Number (negsuc n) m) h = absurd h
literal_ranged kind (Day d) h = h.1
literal_ranged kind (Text bytes) h = tt

literal_formed : (limit : ℕ) (kind : SqlType) (v : Value) → IsLiteral kind v → IsWithinLimit limit v → HasForm limit kind v
literal_formed limit kind Null h short = tt
literal_formed limit kind (Truth b) h short = h
literal_formed limit kind (Number (pos n) m) h short = literal_number kind n m h
literal_formed limit kind (Number (negsuc n) m) h short = absurd h
literal_formed limit kind (Day d) h short = (h.0, day_fits d h.1)
literal_formed limit kind (Text bytes) h short = (h, short)

short_literal : (limit : ℕ) (e : Expr) (v : Value) (kind : SqlType) → out-Expr e ≡ Expr-F.Constant v kind → HasShortTexts limit e → IsWithinLimit limit v
short_literal limit e v kind is short = subst (IsShortNode limit) is (every_here-Expr (IsShortNode limit) AnyLink e short)

short_right : (limit : ℕ) (l : Link) → every-Link (IsShortNode limit) AnyLink l → HasShortTexts limit l.right
short_right limit l h =
    let held = every_held-Link (IsShortNode limit) AnyLink l h in
    subst (HasShortTexts limit) (ap (λ x. x.right) held.1) held.0.right.1

short_first : (limit : ℕ) (e of : Expr) (links : List Link) → out-Expr e ≡ Expr-F.Chain of links → HasShortTexts limit e → HasShortTexts limit of
short_first limit e of links is short =
    let held = every_held-Expr (IsShortNode limit) AnyLink e short in
    let all : Children (HasShortTexts limit) (Expr-F.Chain of links) =
    children_hold (HasShortTexts limit) (every-Link (IsShortNode limit) AnyLink) (HasShortTexts limit) (λ e t. t) (λ l t. short_right limit l t)
    (Expr-F.Chain of links) held.0 (held.1 ∙ is) in
    all.0

pub values_have_form : (limit : ℕ) (columns : List SqlType) (e : Expr) (row : List Value)
    → IsTyped columns e → HasShortTexts limit e → Meets limit columns row → OnValue (HasForm limit (kind_of e)) (value_of row e)
values_have_form limit columns e row typed short meets =
    has_fact (HasForm limit) (form_rules limit) columns row (λ place kind is. (meets_at (HasForm limit) columns row place kind meets is).form)
    (HasShortTexts limit) (λ e v kind is short h. literal_formed limit kind v h (short_literal limit e v kind is short)) (short_first limit) e typed short

pub values_are_ranged : (columns : List SqlType) (e : Expr) (row : List Value)
    → IsTyped columns e → AllMeet IsRanged columns row → OnValue (IsRanged (kind_of e)) (value_of row e)
values_are_ranged columns e row typed ranged =
    has_fact IsRanged range_rules columns row (λ place kind is. (meets_at IsRanged columns row place kind ranged is).form)
    (λ e. ⊤) (λ e v kind is h literal. literal_ranged kind v literal) (λ e of links is h. tt) e typed tt

-- the value of an expression that is a DATE fits 32 bits
abbrev FitsDay : SqlType → Value → Type 0
FitsDay kind Null = ⊤
FitsDay kind (Truth b) = ⊤
FitsDay kind (Number a m) = ⊤
FitsDay kind (Day d) = FitsSigned w32 d
FitsDay kind (Text bytes) = ⊤

day_of_form : (limit : ℕ) (kind : SqlType) (v : Value) → HasForm limit kind v → FitsDay kind v
day_of_form limit kind Null h = tt
day_of_form limit kind (Truth b) h = tt
day_of_form limit kind (Number a m) h = tt
day_of_form limit kind (Day d) h = h.1
day_of_form limit kind (Text bytes) h = tt

day_of_literal : (kind : SqlType) (v : Value) → IsLiteral kind v → FitsDay kind v
day_of_literal kind Null h = tt
day_of_literal kind (Truth b) h = tt
day_of_literal kind (Number a m) h = tt
day_of_literal kind (Day d) h = day_fits d h.1
day_of_literal kind (Text bytes) h = tt

day_of_range : (kind : SqlType) (d : ℤ) → IsWithin kind d → FitsDay kind (amount kind d)
day_of_range Boolean d h = tt
day_of_range Integer d h = tt
day_of_range BigInt d h = tt
day_of_range HugeInt d h = tt
day_of_range (Decimal w s) d h = tt
day_of_range Date d h = day_fits d h
day_of_range Varchar d h = tt

day_rules : Rules FitsDay
day_rules = record { null = λ kind. tt; truth = λ b. tt; amounts = λ kind digits proper h. day_of_range kind digits ((in_range_decides kind digits).0 h) }

-- the day of an expression that is a DATE fits 32 bits
pub day_fits_of : (e : Expr) (row : List Value) (d : ℤ) → FitsRow e row → kind_of e ≡ Date → value_of row e ≡ Ok (amount (kind_of e) d) → FitsSigned w32 d
day_fits_of e row d fits date value =
    let h = has_fact FitsDay day_rules fits.columns row
    (λ place kind is. day_of_form fits.limit kind _ (meets_at (HasForm fits.limit) fits.columns row place kind fits.meets is).form)
    (λ e. ⊤) (λ e v kind is h literal. day_of_literal kind v literal) (λ e of links is h. tt) e fits.typed tt in
    let at : value_of row e ≡ Ok (amount Date d) = value ∙ ap (λ (k : SqlType). Ok (amount k d)) date in
    subst (OnValue (FitsDay (kind_of e))) at h
