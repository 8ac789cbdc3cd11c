-- What the types of two operands under a sign and of the result say.
use Rattle.std.proofs.Common.{◌≡◌, ℕ, ◌+◌, ◌-◌, ◌≤◌, max, Bool, true, false, cond, ◌&&◌, nat_le, refl, sym, ap, ◌∙◌, subst, arith}
use Rattle.std.specs.Prelude.{Some, None}
use Rattle.std.proofs.lemmas.Bool.{leb-true}
use Rattle.ooc_types.specs.declared.schema.SqlType.{SqlType}
use Rattle.ooc_types.specs.declared.schema.SqlType.TheVariants.{Boolean, Integer, BigInt, HugeInt, Decimal, Date, Varchar}
use Rattle.ooc_decimal.specs.Numeric.{IsNumeric, scale_of}
use Rattle.sql_expr.specs.declared.tree.ChainSign.{ChainSign}
use Rattle.sql_expr.specs.declared.tree.ChainSign.TheVariants.{Plus, Minus, Times, Quotient, Remainder}
use Rattle.sql_expr.specs.Operations.{IsProper, IsAmount, IsLinked, wider, decimal_sum, sum_type, product_type, plus_type, minus_type, result_type}

pub numeric_is_amount : (kind : SqlType) → IsNumeric kind → IsAmount kind
numeric_is_amount Boolean h = absurd h
numeric_is_amount Integer h = tt
numeric_is_amount BigInt h = tt
numeric_is_amount HugeInt h = tt
numeric_is_amount (Decimal w s) h = tt
numeric_is_amount Date h = absurd h
numeric_is_amount Varchar h = absurd h

pub numeric_proper : (kind : SqlType) → IsNumeric kind → IsProper kind
numeric_proper Boolean h = absurd h
numeric_proper Integer h = tt
numeric_proper BigInt h = tt
numeric_proper HugeInt h = tt
numeric_proper (Decimal w s) h = h
numeric_proper Date h = absurd h
numeric_proper Varchar h = absurd h

-- two numbers and what they give
pub record Numbers (k l kind : SqlType) : Type 0 where
  pub left : IsNumeric k
  pub right : IsNumeric l
  pub result : IsNumeric kind

numbers_same : (k l m kind : SqlType) → IsNumeric k → IsNumeric l → IsNumeric m → Some m ≡ Some kind → Numbers k l kind
numbers_same k l m kind a b p e = let f : m ≡ kind = cc in record { left = a; right = b; result = subst IsNumeric f p }

pub wider_numbers : (k l kind : SqlType) → wider k l ≡ Some kind → Numbers k l kind
wider_numbers Integer Integer kind e = numbers_same Integer Integer Integer kind tt tt tt e
wider_numbers Integer BigInt kind e = numbers_same Integer BigInt BigInt kind tt tt tt e
wider_numbers Integer HugeInt kind e = numbers_same Integer HugeInt HugeInt kind tt tt tt e
wider_numbers BigInt Integer kind e = numbers_same BigInt Integer BigInt kind tt tt tt e
wider_numbers BigInt BigInt kind e = numbers_same BigInt BigInt BigInt kind tt tt tt e
wider_numbers BigInt HugeInt kind e = numbers_same BigInt HugeInt HugeInt kind tt tt tt e
wider_numbers HugeInt Integer kind e = numbers_same HugeInt Integer HugeInt kind tt tt tt e
wider_numbers HugeInt BigInt kind e = numbers_same HugeInt BigInt HugeInt kind tt tt tt e
wider_numbers HugeInt HugeInt kind e = numbers_same HugeInt HugeInt HugeInt kind tt tt tt e
wider_numbers k l kind e = cc

decimal_is : (a b : Bool) (w s : ℕ) (kind : SqlType) → nat_le w 38 ≡ a → nat_le s w ≡ b → 1 ≤ w → cond (a && b) (Some (Decimal w s)) None ≡ Some kind
    → (Decimal w s ≡ kind) × IsNumeric (Decimal w s)
decimal_is true true w s kind h i j e = (cc, (j, leb-true w 38 h, leb-true s w i))
decimal_is true false w s kind h i j e = cc
decimal_is false b w s kind h i j e = cc

-- two numbers and their sum or difference, whose scale is at least theirs
pub record Sum (k l kind : SqlType) : Type 0 where
  pub numbers : Numbers k l kind
  pub left_places : scale_of k ≤ scale_of kind
  pub right_places : scale_of l ≤ scale_of kind

-- two numbers and their product, whose scale is the sum of theirs
pub record Product (k l kind : SqlType) : Type 0 where
  pub numbers : Numbers k l kind
  pub places : scale_of k + scale_of l ≡ scale_of kind

wider_whole : (k l kind : SqlType) → wider k l ≡ Some kind → (scale_of k ≡ 0) × (scale_of l ≡ 0) × (scale_of kind ≡ 0)
wider_whole Integer Integer kind e = let f : Integer ≡ kind = cc in (refl, refl, ap scale_of (sym f))
wider_whole Integer BigInt kind e = let f : BigInt ≡ kind = cc in (refl, refl, ap scale_of (sym f))
wider_whole Integer HugeInt kind e = let f : HugeInt ≡ kind = cc in (refl, refl, ap scale_of (sym f))
wider_whole BigInt Integer kind e = let f : BigInt ≡ kind = cc in (refl, refl, ap scale_of (sym f))
wider_whole BigInt BigInt kind e = let f : BigInt ≡ kind = cc in (refl, refl, ap scale_of (sym f))
wider_whole BigInt HugeInt kind e = let f : HugeInt ≡ kind = cc in (refl, refl, ap scale_of (sym f))
wider_whole HugeInt Integer kind e = let f : HugeInt ≡ kind = cc in (refl, refl, ap scale_of (sym f))
wider_whole HugeInt BigInt kind e = let f : HugeInt ≡ kind = cc in (refl, refl, ap scale_of (sym f))
wider_whole HugeInt HugeInt kind e = let f : HugeInt ≡ kind = cc in (refl, refl, ap scale_of (sym f))
wider_whole k l kind e = cc

wider_sum : (k l kind : SqlType) → wider k l ≡ Some kind → Sum k l kind
wider_sum k l kind e =
    let z = wider_whole k l kind e in
    let a : scale_of k ≡ 0 = z.0 in
    let b : scale_of l ≡ 0 = z.1 in
    record { numbers = wider_numbers k l kind e; left_places = omega arith; right_places = omega arith }

wider_product : (k l kind : SqlType) → wider k l ≡ Some kind → Product k l kind
wider_product k l kind e =
    let z = wider_whole k l kind e in
    let a : scale_of k ≡ 0 = z.0 in
    let b : scale_of l ≡ 0 = z.1 in
    let c : scale_of kind ≡ 0 = z.2 in
    record { numbers = wider_numbers k l kind e; places = omega arith }

decimal_sums : (k l : SqlType) (w s v t : ℕ) (kind : SqlType) → IsNumeric k → IsNumeric l → scale_of k ≡ s → scale_of l ≡ t → decimal_sum w s v t ≡ Some kind → Sum k l kind
decimal_sums k l w s v t kind a b p q e =
    let width = max (w - s) (v - t) + max s t + 1 in
    let some : 1 ≤ max (w - s) (v - t) + max s t + 1 = omega arith in
    let d = decimal_is (nat_le width 38) (nat_le (max s t) width) width (max s t) kind refl refl some e in
    let at : scale_of kind ≡ max s t = ap scale_of (sym d.0) in
    record {
      numbers = record { left = a; right = b; result = subst IsNumeric d.0 d.1 };
      left_places = omega arith;
      right_places = omega arith;
    }

pub sum_numbers : (k l kind : SqlType) → IsProper k → IsProper l → sum_type k l ≡ Some kind → Sum k l kind
sum_numbers (Decimal w s) (Decimal v t) kind p q e = decimal_sums (Decimal w s) (Decimal v t) w s v t kind p q refl refl e
sum_numbers (Decimal w s) Integer kind p q e = decimal_sums (Decimal w s) Integer w s 10 0 kind p tt refl refl e
sum_numbers (Decimal w s) BigInt kind p q e = decimal_sums (Decimal w s) BigInt w s 19 0 kind p tt refl refl e
sum_numbers Integer (Decimal v t) kind p q e = decimal_sums Integer (Decimal v t) 10 0 v t kind tt q refl refl e
sum_numbers BigInt (Decimal v t) kind p q e = decimal_sums BigInt (Decimal v t) 19 0 v t kind tt q refl refl e
sum_numbers k l kind p q e = wider_sum k l kind e

decimal_products : (k l : SqlType) (w s : ℕ) (kind : SqlType) → IsNumeric k → IsNumeric l → 1 ≤ w → scale_of k + scale_of l ≡ s
    → cond (nat_le w 38 && nat_le s w) (Some (Decimal w s)) None ≡ Some kind → Product k l kind
decimal_products k l w s kind a b j p e =
    let d = decimal_is (nat_le w 38) (nat_le s w) w s kind refl refl j e in
    record { numbers = record { left = a; right = b; result = subst IsNumeric d.0 d.1 }; places = p ∙ ap scale_of d.0 }

some_more : (w v : ℕ) → 1 ≤ w → 1 ≤ w + v
some_more w v h = omega arith

more_some : (w v : ℕ) → 1 ≤ v → 1 ≤ w + v
more_some w v h = omega arith

none_behind : (s : ℕ) → s + 0 ≡ s
none_behind s = omega arith

none_before : (s : ℕ) → 0 + s ≡ s
none_before s = omega arith

pub product_numbers : (k l kind : SqlType) → IsProper k → IsProper l → product_type k l ≡ Some kind → Product k l kind
product_numbers (Decimal w s) (Decimal v t) kind p q e = decimal_products (Decimal w s) (Decimal v t) (w + v) (s + t) kind p q (some_more w v p.0) refl e
product_numbers (Decimal w s) Integer kind p q e = decimal_products (Decimal w s) Integer (w + 10) s kind p tt (some_more w 10 p.0) (none_behind s) e
product_numbers (Decimal w s) BigInt kind p q e = decimal_products (Decimal w s) BigInt (w + 19) s kind p tt (some_more w 19 p.0) (none_behind s) e
product_numbers Integer (Decimal v t) kind p q e = decimal_products Integer (Decimal v t) (10 + v) t kind tt q (more_some 10 v q.0) (none_before t) e
product_numbers BigInt (Decimal v t) kind p q e = decimal_products BigInt (Decimal v t) (19 + v) t kind tt q (more_some 19 v q.0) (none_before t) e
product_numbers k l kind p q e = wider_product k l kind e

-- a number has no date beside it
pub plus_numbers : (k l kind : SqlType) → IsNumeric k → IsProper k → IsProper l → plus_type k l ≡ Some kind → Sum k l kind
plus_numbers Boolean l kind n p q e = absurd n
plus_numbers Integer l kind n p q e = sum_numbers Integer l kind p q e
plus_numbers BigInt l kind n p q e = sum_numbers BigInt l kind p q e
plus_numbers HugeInt l kind n p q e = sum_numbers HugeInt l kind p q e
plus_numbers (Decimal w s) l kind n p q e = sum_numbers (Decimal w s) l kind p q e
plus_numbers Date l kind n p q e = absurd n
plus_numbers Varchar l kind n p q e = absurd n

pub minus_numbers : (k l kind : SqlType) → IsNumeric k → IsProper k → IsProper l → minus_type k l ≡ Some kind → Sum k l kind
minus_numbers Boolean l kind n p q e = absurd n
minus_numbers Integer l kind n p q e = sum_numbers Integer l kind p q e
minus_numbers BigInt l kind n p q e = sum_numbers BigInt l kind p q e
minus_numbers HugeInt l kind n p q e = sum_numbers HugeInt l kind p q e
minus_numbers (Decimal w s) l kind n p q e = sum_numbers (Decimal w s) l kind p q e
minus_numbers Date l kind n p q e = absurd n
minus_numbers Varchar l kind n p q e = absurd n

pub result_numbers : (sign : ChainSign) (k l kind : SqlType) → IsNumeric k → IsLinked sign k l kind → Numbers k l kind
result_numbers Plus k l kind n h = (plus_numbers k l kind n h.left_proper h.right_proper h.gives).numbers
result_numbers Minus k l kind n h = (minus_numbers k l kind n h.left_proper h.right_proper h.gives).numbers
result_numbers Times k l kind n h = (product_numbers k l kind h.left_proper h.right_proper h.gives).numbers
result_numbers Quotient k l kind n h = wider_numbers k l kind h.gives
result_numbers Remainder k l kind n h = wider_numbers k l kind h.gives

-- a date, and what may stand beside it
pub record Dates (sign : ChainSign) (l kind : SqlType) : Type 0 where
  pub result : IsProper kind
  pub amount : IsAmount kind

dates_same : (sign : ChainSign) (l m kind : SqlType) → IsProper m → IsAmount m → Some m ≡ Some kind → Dates sign l kind
dates_same sign l m kind p q e = let f : m ≡ kind = cc in record { result = subst IsProper f p; amount = subst IsAmount f q }

result_dates : (sign : ChainSign) (l kind : SqlType) → result_type sign Date l ≡ Some kind → Dates sign l kind
result_dates Plus Integer kind e = dates_same Plus Integer Date kind tt tt e
result_dates Plus BigInt kind e = dates_same Plus BigInt Date kind tt tt e
result_dates Plus l kind e = cc
result_dates Minus Integer kind e = dates_same Minus Integer Date kind tt tt e
result_dates Minus BigInt kind e = dates_same Minus BigInt Date kind tt tt e
result_dates Minus Date kind e = dates_same Minus Date BigInt kind tt tt e
result_dates Minus l kind e = cc
result_dates Times l kind e = cc
result_dates Quotient l kind e = cc
result_dates Remainder l kind e = cc

-- neither a number nor a date stands in no chain
no_sum : (k l kind : SqlType) → sum_type k l ≡ Some kind → IsAmount k
no_sum Boolean l kind e = cc
no_sum Integer l kind e = tt
no_sum BigInt l kind e = tt
no_sum HugeInt l kind e = tt
no_sum (Decimal w s) l kind e = tt
no_sum Date l kind e = tt
no_sum Varchar l kind e = cc

no_product : (k l kind : SqlType) → product_type k l ≡ Some kind → IsAmount k
no_product Boolean l kind e = cc
no_product Integer l kind e = tt
no_product BigInt l kind e = tt
no_product HugeInt l kind e = tt
no_product (Decimal w s) l kind e = tt
no_product Date l kind e = tt
no_product Varchar l kind e = cc

no_whole : (k l kind : SqlType) → wider k l ≡ Some kind → IsAmount k
no_whole Boolean l kind e = cc
no_whole Integer l kind e = tt
no_whole BigInt l kind e = tt
no_whole HugeInt l kind e = tt
no_whole (Decimal w s) l kind e = tt
no_whole Date l kind e = tt
no_whole Varchar l kind e = cc

left_amount : (sign : ChainSign) (k l kind : SqlType) → result_type sign k l ≡ Some kind → IsAmount k
left_amount Plus Date l kind e = tt
left_amount Plus k l kind e = no_sum k l kind e
left_amount Minus Date l kind e = tt
left_amount Minus k l kind e = no_sum k l kind e
left_amount Times k l kind e = no_product k l kind e
left_amount Quotient k l kind e = no_whole k l kind e
left_amount Remainder k l kind e = no_whole k l kind e

-- what stands before a sign
pub linked_left : (sign : ChainSign) (k l kind : SqlType) → IsLinked sign k l kind → IsAmount k
linked_left sign k l kind h = left_amount sign k l kind h.gives

by_left : (sign : ChainSign) (k l kind : SqlType) → IsAmount k → IsLinked sign k l kind → IsProper kind × IsAmount kind
by_left sign Boolean l kind a h = absurd a
by_left sign Integer l kind a h = let n = (result_numbers sign Integer l kind tt h).result in (numeric_proper kind n, numeric_is_amount kind n)
by_left sign BigInt l kind a h = let n = (result_numbers sign BigInt l kind tt h).result in (numeric_proper kind n, numeric_is_amount kind n)
by_left sign HugeInt l kind a h = let n = (result_numbers sign HugeInt l kind tt h).result in (numeric_proper kind n, numeric_is_amount kind n)
by_left sign (Decimal w s) l kind a h = let n = (result_numbers sign (Decimal w s) l kind h.left_proper h).result in (numeric_proper kind n, numeric_is_amount kind n)
by_left sign Date l kind a h = let d = result_dates sign l kind h.gives in (d.result, d.amount)
by_left sign Varchar l kind a h = absurd a

-- what a link gives may be written
pub linked_proper : (sign : ChainSign) (k l kind : SqlType) → IsLinked sign k l kind → IsProper kind
linked_proper sign k l kind h = (by_left sign k l kind (linked_left sign k l kind h) h).0

pub linked_amount : (sign : ChainSign) (k l kind : SqlType) → IsLinked sign k l kind → IsAmount kind
linked_amount sign k l kind h = (by_left sign k l kind (linked_left sign k l kind h) h).1
