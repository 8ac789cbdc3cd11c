-- The values of aggregates have the types that these give.
use Rattle.std.proofs.Common.{◌≡◌, ℕ, zero, suc, ◌+◌, ◌-◌, ◌*◌, ◌≤◌, ◌^◌, ℤ, pos, ◌+ℤ◌, Bool, true, false, cond, nat_le, List, [], ◌∷◌, ◌++◌, length, refl, subst, Option, Some, None, arith}
use Rattle.std.specs.Option.{option_map}
use Rattle.std.specs.Prelude.{◌≤ℤ◌, Ok, Err, IfSome, FitsSigned, fold, ⊤}
use Rattle.std.specs.Int.{w32, w64}
use Rattle.std.specs.List.{AllByRecursion}
use Rattle.std.specs.Ordering.{is_gt}
use Rattle.std.proofs.lemmas.Int.{ints}
use Rattle.std.proofs.lemmas.Bool.{leb-true}
use Rattle.plan_tree.proofs.JoinLemmas.{all-on}
use Rattle.std.proofs.Math.Nat.{pow-le-pow_right}
use Rattle.ooc_bags.specs.Rows.{value_eq}
use Rattle.ooc_decimal.specs.Numeric.{scale_of}
use Rattle.ooc_types.specs.Strict.{strict_cmp}
use Rattle.ooc_types.specs.declared.value.Value.{Value}
use Rattle.ooc_types.specs.declared.value.Value.TheVariants.{Null, Truth, Number, Day, Text}
use Rattle.ooc_types.specs.declared.schema.SqlType.{SqlType}
use Rattle.ooc_types.specs.declared.schema.SqlType.TheVariants.{Boolean, Integer, BigInt, HugeInt, Decimal, Date, Varchar}
use Rattle.sql_expr.specs.declared.tree.Expr.{Expr}
use Rattle.sql_expr.specs.Arithmetic.{Meaning}
use Rattle.sql_expr.specs.Comparison.{is_null}
use Rattle.sql_expr.specs.Kinds.{kind_of}
use Rattle.sql_expr.specs.Outcomes.{digits_of}
use Rattle.sql_expr.specs.Values.{OnValue}
use Rattle.bound_tree.specs.declared.kinds.AggregateKind.{AggregateKind}
use Rattle.bound_tree.specs.declared.kinds.AggregateKind.TheVariants as of
use Rattle.sql_meaning.specs.Aggregates.{State, either_of, finished, greater, lesser, nothing_taken, one_taken, or_null, present_value, state_of, sum_value, together}
use Rattle.sql_meaning.specs.Found.{Row}
use Rattle.sql_meaning.specs.Groups.{argument, arguments, perhaps_once, value_found}
use Rattle.sql_meaning.specs.Judged.{RowValue}
use Rattle.sql_meaning.specs.Statements.{agg_kind_of, argument_scale}
use Rattle.well_formed.specs.Aggregates.{aggregate_type, sum_type, most_summed}
use Rattle.bound_laws.specs.Meeting.{IsValue}
use Rattle.bound_laws.proofs.Lists.{all-firsts}

abbrev most_rows : ℕ
most_rows = 10 ^ 11

abbrev step : State → Value → State
step state value = together state (one_taken value)

-- ---- how many

pub taken-all : (s : State) (vs : List Value) → (fold step s vs).taken ≡ s.taken + length vs
taken-all s [] = omega arith
taken-all s (v ∷ vs) = let h = taken-all (step s v) vs in omega arith

one-most : (b : Bool) → cond b 0 1 ≤ 1
one-most true = omega arith
one-most false = omega arith

pub present-most : (s : State) (vs : List Value) → (fold step s vs).present ≤ s.present + length vs
present-most s [] = omega arith
present-most s (v ∷ vs) = let h = present-most (step s v) vs in let one = one-most (is_null v) in omega arith

-- ---- the least and the most

module _ (P : Value → Type 0) where
  either-has : (f : Value → Value → Value) → ((v w : Value) → P v → P w → P (f v w)) → (a b : Option Value) → IfSome a P → IfSome b P → IfSome (either_of f a b) P
  either-has f to None b h k = k
  either-has f to (Some a) None h k = h
  either-has f to (Some a) (Some b) h k = to a b h k

  picked : (b : Bool) (v w : Value) → P v → P w → P (cond b v w)
  picked true v w h k = h
  picked false v w h k = k

  some-present : (b : Bool) (v : Value) → P v → IfSome (cond b None (Some v)) P
  some-present true v h = tt
  some-present false v h = h

  pub least-has : (s : State) (vs : List Value) → IfSome s.least P → AllByRecursion P vs → IfSome (fold step s vs).least P
  least-has s [] h all = h
  least-has s (v ∷ vs) h all =
      least-has (step s v) vs (either-has lesser (λ v w p q. picked (is_gt (strict_cmp v w)) w v q p) s.least (present_value v) h (some-present (is_null v) v all.0)) all.1

  pub most-has : (s : State) (vs : List Value) → IfSome s.most P → AllByRecursion P vs → IfSome (fold step s vs).most P
  most-has s [] h all = h
  most-has s (v ∷ vs) h all =
      most-has (step s v) vs (either-has greater (λ v w p q. picked (is_gt (strict_cmp v w)) v w p q) s.most (present_value v) h (some-present (is_null v) v all.0)) all.1

-- ---- sums

-- within a bound on both sides
abbrev IsNear : ℕ → ℤ → Type 0
IsNear n t = (pos 0 ≤ℤ (t +ℤ pos n)) × (t ≤ℤ pos n)

module _ (bound : ℕ) where
  abbrev sum_bound : ℕ → ℕ
  sum_bound zero = 0
  sum_bound (suc n) = sum_bound n + bound

  near-sum : (n : ℕ) (a b : Option ℤ) → IfSome a (IsNear (sum_bound n)) → IfSome b (IsNear bound) → IfSome (either_of ◌+ℤ◌ a b) (IsNear (sum_bound (suc n)))
  near-sum n None None h k = tt
  near-sum n None (Some b) h k = let low = k.0 in let high = k.1 in (omega (arith, ints), omega (arith, ints))
  near-sum n (Some a) None h k = let low = h.0 in let high = h.1 in (omega (arith, ints), omega (arith, ints))
  near-sum n (Some a) (Some b) h k =
      let low = h.0 in let high = h.1 in let lower = k.0 in let higher = k.1 in (omega (arith, ints), omega (arith, ints))

  near-all : (n : ℕ) (s : State) (vs : List Value) → IfSome s.total (IsNear (sum_bound n)) → AllByRecursion (λ v. IfSome (digits_of v) (IsNear bound)) vs
      → IfSome (fold step s vs).total (IsNear (sum_bound (n + length vs)))
  near-all n s [] h all = subst (λ (m : ℕ). IfSome s.total (IsNear (sum_bound m))) (let e : n ≡ n + 0 = omega arith in e) h
  near-all n s (v ∷ vs) h all =
      subst (λ (m : ℕ). IfSome (fold step s (v ∷ vs)).total (IsNear (sum_bound m))) (let e : suc n + length vs ≡ n + suc (length vs) = omega arith in e)
      (near-all (suc n) (step s v) vs (near-sum n s.total (digits_of v) h all.0) all.1)

  pub sum-near : (vs : List Value) → AllByRecursion (λ v. IfSome (digits_of v) (IsNear bound)) vs → IfSome (state_of vs).total (IsNear (sum_bound (length vs)))
  sum-near vs all = subst (λ (m : ℕ). IfSome (state_of vs).total (IsNear (sum_bound m))) (let e : 0 + length vs ≡ length vs = omega arith in e) (near-all 0 nothing_taken vs tt all)

integer_bound : (n : ℕ) → sum_bound (2 ^ 63) n ≡ n * 2 ^ 63
integer_bound zero = omega arith
integer_bound (suc n) = let h = integer_bound n in omega arith

decimal_bound : (n : ℕ) → sum_bound (10 ^ 27 - 1) n ≡ n * (10 ^ 27 - 1)
decimal_bound zero = omega arith
decimal_bound (suc n) = let h = decimal_bound n in omega arith

-- ---- the value of an aggregate

-- the values that an argument gives
abbrev pub AreArguments : ℕ → Option Expr → List Value → Type 0
AreArguments limit None vs = ⊤
AreArguments limit (Some e) vs = AllByRecursion (IsValue limit (kind_of e)) vs

module _ (limit : ℕ) where
  count-value : (n : ℕ) → n ≤ most_rows → IsValue limit BigInt (Number (pos n) 0)
  count-value n few = record { form = (omega (arith, ints), refl); range = omega (arith, ints) }

  given-kind : (a b : SqlType) (v : Value) → Some a ≡ Some b → IsValue limit a v → IsValue limit b v
  given-kind a b v is h = let e : a ≡ b = cc in subst (λ (k : SqlType). IsValue limit k v) e h

  pub null-value : (kind : SqlType) → IsValue limit kind Null
  null-value kind = record { form = tt; range = tt }

  or-null-value : (kind : SqlType) (v : Option Value) → IfSome v (IsValue limit kind) → IsValue limit kind (or_null v)
  or-null-value kind None h = null-value kind
  or-null-value kind (Some v) h = h

  integer-near : (v : Value) → IsValue limit Integer v → IfSome (digits_of v) (IsNear (2 ^ 63))
  integer-near Null h = tt
  integer-near (Truth b) h = tt
  integer-near (Number d s) h = let r : FitsSigned w32 d = h.range in (omega (arith, ints), omega (arith, ints))
  integer-near (Day d) h = let no : Integer ≡ Date = h.form.0 in cc
  integer-near (Text bytes) h = tt

  bigint-near : (v : Value) → IsValue limit BigInt v → IfSome (digits_of v) (IsNear (2 ^ 63))
  bigint-near Null h = tt
  bigint-near (Truth b) h = tt
  bigint-near (Number d s) h = let r : FitsSigned w64 d = h.range in (omega (arith, ints), omega (arith, ints))
  bigint-near (Day d) h = let no : BigInt ≡ Date = h.form.0 in cc
  bigint-near (Text bytes) h = tt

  decimal-near : (w s : ℕ) (v : Value) → w ≤ 27 → IsValue limit (Decimal w s) v → IfSome (digits_of v) (IsNear (10 ^ 27 - 1))
  decimal-near w s Null narrow h = tt
  decimal-near w s (Truth b) narrow h = tt
  decimal-near w s (Number d m) narrow h =
      let below : 10 ^ w ≤ 10 ^ 27 = pow-le-pow_right {n = 10} (omega arith) narrow in
      let high = h.range.0 in
      let low = h.range.1 in
      (omega (arith, ints), omega (arith, ints))
  decimal-near w s (Day d) narrow h = let no : Decimal w s ≡ Date = h.form.0 in cc
  decimal-near w s (Text bytes) narrow h = tt

  huge-sum : (n : ℕ) (t : Option ℤ) → n ≤ most_rows → IfSome t (IsNear (sum_bound (2 ^ 63) n)) → IsValue limit HugeInt (sum_value 0 t)
  huge-sum n None few near = null-value HugeInt
  huge-sum n (Some t) few near =
      let b = integer_bound n in
      let low = near.0 in
      let high = near.1 in
      record { form = (omega (arith, ints), refl); range = omega (arith, ints) }

  wide-sum : (n s : ℕ) (t : Option ℤ) → n ≤ most_rows → IfSome t (IsNear (sum_bound (10 ^ 27 - 1) n)) → IsValue limit (Decimal 38 s) (sum_value s t)
  wide-sum n s None few near = null-value (Decimal 38 s)
  wide-sum n s (Some t) few near =
      let b = decimal_bound n in
      let low = near.0 in
      let high = near.1 in
      record { form = (omega (arith, ints), refl); range = (omega (arith, ints), omega (arith, ints)) }

  decimal-sum : (w s : ℕ) (result : SqlType) (vs : List Value) (b : Bool) → nat_le w most_summed ≡ b → cond b (Some (Decimal 38 s)) None ≡ Some result → length vs ≤ most_rows
      → AllByRecursion (IsValue limit (Decimal w s)) vs → IsValue limit result (sum_value s (state_of vs).total)
  decimal-sum w s result vs true narrow is few all =
      given-kind (Decimal 38 s) result (sum_value s (state_of vs).total) is
      (wide-sum (length vs) s (state_of vs).total few
      (sum-near (10 ^ 27 - 1) vs (all-on (IsValue limit (Decimal w s)) (λ v. IfSome (digits_of v) (IsNear (10 ^ 27 - 1))) (λ v h. decimal-near w s v (leb-true w 27 narrow) h) vs all)))
  decimal-sum w s result vs false narrow is few all = cc

  summed-value : (kind result : SqlType) (vs : List Value) → sum_type kind ≡ Some result → length vs ≤ most_rows → AllByRecursion (IsValue limit kind) vs
      → IsValue limit result (sum_value (scale_of kind) (state_of vs).total)
  summed-value Boolean result vs is few all = cc
  summed-value Integer result vs is few all =
      given-kind HugeInt result (sum_value 0 (state_of vs).total) is
      (huge-sum (length vs) (state_of vs).total few (sum-near (2 ^ 63) vs (all-on (IsValue limit Integer) (λ v. IfSome (digits_of v) (IsNear (2 ^ 63))) integer-near vs all)))
  summed-value BigInt result vs is few all =
      given-kind HugeInt result (sum_value 0 (state_of vs).total) is
      (huge-sum (length vs) (state_of vs).total few (sum-near (2 ^ 63) vs (all-on (IsValue limit BigInt) (λ v. IfSome (digits_of v) (IsNear (2 ^ 63))) bigint-near vs all)))
  summed-value HugeInt result vs is few all = cc
  summed-value (Decimal w s) result vs is few all = decimal-sum w s result vs (nat_le w most_summed) refl is few all
  summed-value Date result vs is few all = cc
  summed-value Varchar result vs is few all = cc

  -- over at most so many values the value of an aggregate has its type
  pub finished-value : (kind : AggregateKind) (argument : Option Expr) (result : SqlType) (vs : List Value) → aggregate_type kind (option_map kind_of argument) ≡ Some result
      → length vs ≤ most_rows → AreArguments limit argument vs → IsValue limit result (finished (agg_kind_of kind) (argument_scale argument) (state_of vs))
  finished-value of.CountRows None result vs is few all =
      given-kind BigInt result (Number (pos (state_of vs).taken) 0) is (count-value (state_of vs).taken (let h = taken-all nothing_taken vs in omega arith))
  finished-value of.CountRows (Some e) result vs is few all = cc
  finished-value of.Count None result vs is few all = cc
  finished-value of.Count (Some e) result vs is few all =
      given-kind BigInt result (Number (pos (state_of vs).present) 0) is (count-value (state_of vs).present (let h = present-most nothing_taken vs in omega arith))
  finished-value of.CountDistinct None result vs is few all = cc
  finished-value of.CountDistinct (Some e) result vs is few all =
      given-kind BigInt result (Number (pos (state_of vs).present) 0) is (count-value (state_of vs).present (let h = present-most nothing_taken vs in omega arith))
  finished-value of.Sum None result vs is few all = cc
  finished-value of.Sum (Some e) result vs is few all = summed-value (kind_of e) result vs is few all
  finished-value of.Min None result vs is few all = cc
  finished-value of.Min (Some e) result vs is few all =
      given-kind (kind_of e) result (or_null (state_of vs).least) is (or-null-value (kind_of e) (state_of vs).least (least-has (IsValue limit (kind_of e)) nothing_taken vs tt all))
  finished-value of.Max None result vs is few all = cc
  finished-value of.Max (Some e) result vs is few all =
      given-kind (kind_of e) result (or_null (state_of vs).most) is (or-null-value (kind_of e) (state_of vs).most (most-has (IsValue limit (kind_of e)) nothing_taken vs tt all))

-- ---- the values that are taken

more-found : (m : Meaning) (rest : List Value) (n : ℕ) → length rest ≤ n → length ((value_found m).rows ++ rest) ≤ suc n
more-found (Err fault) rest n few = omega arith
more-found (Ok value) rest n few = omega arith

arguments-few : (argument_of : Option RowValue) (rows : List Row) → length (arguments argument_of rows).rows ≤ length rows
arguments-few argument_of [] = omega arith
arguments-few argument_of (row ∷ rows) = more-found (argument argument_of row) (arguments argument_of rows).rows (length rows) (arguments-few argument_of rows)

-- an aggregate takes no more values than it counts
pub taken-few : (distinct : Bool) (argument_of : Option RowValue) (rows : List Row) (n : ℕ)
    → cond distinct (length (perhaps_once distinct (arguments argument_of rows).rows)) (length rows) ≤ n → length (perhaps_once distinct (arguments argument_of rows).rows) ≤ n
taken-few true argument_of rows n few = few
taken-few false argument_of rows n few = let h = arguments-few argument_of rows in omega arith

pub found-has : (P : Value → Type 0) (m : Meaning) → OnValue P m → AllByRecursion P (value_found m).rows
found-has P (Err fault) h = tt
found-has P (Ok value) h = (h, tt)

pub once-has : (P : Value → Type 0) (distinct : Bool) (vs : List Value) → AllByRecursion P vs → AllByRecursion P (perhaps_once distinct vs)
once-has P false vs all = all
once-has P true vs all = all-firsts P value_eq vs all
