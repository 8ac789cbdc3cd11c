-- Aggregates stay sound: their sums fit 128 bits, and their cells keep their form.
use Rattle.std.proofs.Common.{◌≡◌, ℕ, suc, ◌+◌, ◌-◌, ◌*◌, ◌^◌, ◌<◌, ◌≤◌, Bool, true, false, cond, ltb, eqb, nat_le, refl, sym, ap, subst, ◌∙◌, arith, ℤ, pos, negsuc, ◌≤ℤ◌, ◌<ℤ◌, SFits}
use Rattle.std.specs.Prelude.{neg_ℤ, ◌+ℤ◌, ◌*ℤ◌, int_lt, unsigned_abs}
use Rattle.std.specs.Int.{w32, w64, w128, Width}
use Rattle.std.proofs.Math.Nat.{mul-le-mul, add-mul}
use Rattle.std.proofs.lemmas.Bool.{ltb-true, eqb-true}
use Rattle.std.proofs.lemmas.Int.{ints}
use Prim.Native.Nat.{zero}
use Rattle.ooc_types.specs.declared.value.Value.{Value}
use Rattle.ooc_types.specs.declared.value.Value.TheVariants.{Null, Truth, Number, Day, Text}
use Rattle.ooc_types.specs.declared.schema.SqlType.{SqlType}
use Rattle.ooc_types.specs.declared.schema.SqlType.TheVariants.{Boolean, Integer, BigInt, HugeInt, Decimal, Date, Varchar}
use Rattle.ooc_types.specs.Meets.{IsNumberOf}
use Rattle.ooc_decimal.specs.Numeric.{scale_of}
use Rattle.ooc_decimal.specs.Ends.{most_of, below_of, between, nearest_of}
use Rattle.ooc_decimal.proofs.Point.{unit_below}
use Rattle.ooc_decimal.proofs.EndLemmas.{most-Decimal, below-Decimal}
use Rattle.date_values.specs.Calendar.{nearest_day}
use Rattle.agg_states.specs.declared.kind.Best.{Best}
use Rattle.agg_states.specs.declared.kind.Best.TheVariants.{Least, Most}
use Rattle.agg_states.specs.declared.kind.AggKind.{AggKind}
use Rattle.agg_states.specs.declared.kind.AggKind.TheVariants.{CountRows, Count, Sum, Min, Max}
use Rattle.agg_states.specs.Aggregates.{is_null}
use Rattle.agg_states.specs.Tally.{row_limit, nearest_value, number_of, plus, pick, both, cell_of, restored_count, restored_sum}
use Rattle.agg_states.specs.Bounds.{IsOfForm, IsSummable, IsCount, IsSum, IsCell, IsSound}
use Rattle.agg_states.specs.Cells.{SumFits, CanJoin}

within_fits : (z : ℤ) → neg_ℤ (pos 170_141_183_460_469_231_731_687_303_715_884_105_727) ≤ℤ z → z ≤ℤ pos 170_141_183_460_469_231_731_687_303_715_884_105_727 → SFits w128 z
within_fits (pos n) low high = record { sfits = omega (arith, ints) }
within_fits (negsuc n) low high = record { sfits = omega (arith, ints) }

small_ends : (of : SqlType) → IsSummable of → (below_of of ≤ 10 ^ 27) × (most_of of ≤ 10 ^ 27)
small_ends Integer is = (omega arith, omega arith)
small_ends BigInt is = (omega arith, omega arith)
small_ends (Decimal w s) is = (omega (arith, below-Decimal w s (omega arith), unit_below w 27 is), omega (arith, most-Decimal w s (omega arith), unit_below w 27 is))
small_ends HugeInt is = absurd is
small_ends Boolean is = absurd is
small_ends Date is = absurd is
small_ends Varchar is = absurd is

small_products : (of : SqlType) (rows : ℕ) → IsSummable of → rows ≤ row_limit → (rows * below_of of ≤ 10 ^ 38) × (rows * most_of of ≤ 10 ^ 38)
small_products of rows is few =
    let ends = small_ends of is in
    (mul-le-mul few ends.0, mul-le-mul few ends.1)

between_within : (b m : ℕ) (z : ℤ) → (neg_ℤ (pos b) ≤ℤ between (neg_ℤ (pos b)) (pos m) z) × (between (neg_ℤ (pos b)) (pos m) z ≤ℤ pos m)
between_within b m z = (grind (arith, ints), grind (arith, ints))

-- a number between ends on both sides of zero is no longer than before
low_fits : (w : Width) (b : ℕ) (z : ℤ) → SFits w z → int_lt z (neg_ℤ (pos b)) ≡ true → SFits w (neg_ℤ (pos b))
low_fits w zero (pos n) h e = record { sfits = omega (arith, h.sfits) }
low_fits w zero (negsuc n) h e = record { sfits = omega (arith, h.sfits) }
low_fits w (suc k) (pos n) h e = cc
low_fits w (suc k) (negsuc n) h e = record { sfits = omega (arith, h.sfits, ltb-true k n e) }

high_fits : (w : Width) (m : ℕ) (z : ℤ) → SFits w z → int_lt (pos m) z ≡ true → SFits w (pos m)
high_fits w m (pos n) h e = record { sfits = omega (arith, h.sfits, ltb-true m n e) }
high_fits w m (negsuc n) h e = cc

between_fits : (w : Width) (b m : ℕ) (z : ℤ) → SFits w z → SFits w (between (neg_ℤ (pos b)) (pos m) z)
between_fits w b m z h = go (int_lt z (neg_ℤ (pos b))) (int_lt (pos m) z) refl refl
  where
    go : (s t : Bool) → int_lt z (neg_ℤ (pos b)) ≡ s → int_lt (pos m) z ≡ t → SFits w (cond s (neg_ℤ (pos b)) (cond t (pos m) z))
    go true t e f = low_fits w b z h e
    go false true e f = high_fits w m z h f
    go false false e f = h

nearest_number_form : (of : SqlType) (d : ℤ) (s : ℕ) → IsNumberOf of d s → IsNumberOf of (nearest_of of d) s
nearest_number_form Boolean d s h = absurd h
nearest_number_form Date d s h = absurd h
nearest_number_form Varchar d s h = absurd h
nearest_number_form Integer d s h = (between_fits w32 (below_of Integer) (most_of Integer) d h.0, h.1)
nearest_number_form BigInt d s h = (between_fits w64 (below_of BigInt) (most_of BigInt) d h.0, h.1)
nearest_number_form HugeInt d s h = (between_fits w128 (below_of HugeInt) (most_of HugeInt) d h.0, h.1)
nearest_number_form (Decimal w p) d s h = (between_fits (cond (nat_le w 18) w64 w128) (below_of (Decimal w p)) (most_of (Decimal w p)) d h.0, h.1)

nearest_form : (of : SqlType) (v : Value) → IsOfForm of v → IsOfForm of (nearest_value of v)
nearest_form of (Number d s) h = nearest_number_form of d s h
nearest_form of (Day d) h = (h.0, between_fits w32 719162 2932896 d h.1)
nearest_form of Null h = h
nearest_form of (Truth t) h = h
nearest_form of (Text b) h = h

form_scale : (of : SqlType) (d : ℤ) (s : ℕ) → IsNumberOf of d s → s ≡ scale_of of
form_scale Boolean d s h = absurd h
form_scale Date d s h = absurd h
form_scale Varchar d s h = absurd h
form_scale Integer d s h = h.1
form_scale BigInt d s h = h.1
form_scale HugeInt d s h = h.1
form_scale (Decimal w p) d s h = h.1

one_of : (P : Value → Type 0) (v w : Value) (a b c : Bool) → P v → P w → P (cond a v (cond b w (cond c w v)))
one_of P v w true b c p q = p
one_of P v w false true c p q = q
one_of P v w false false true p q = q
one_of P v w false false false p q = p

pick_form : (of : SqlType) (best : Best) (v w : Value) → IsOfForm of v → IsOfForm of w → IsOfForm of (pick best v w)
pick_form of best v w p q = one_of (IsOfForm of) v w (is_null w) (is_null v) _ p q

-- sums of numbers of a type
sum_more : (of : SqlType) (m n : ℕ) (v w : Value) → IsSum of m v → IsSum of n w → IsSum of (m + n) (plus v w)
sum_more of m n Null (Number b t) p q =
    (omega (arith, ints, q.0, add-mul m n (below_of of)), omega (arith, ints, q.1, add-mul m n (most_of of)), q.2)
sum_more of m n Null Null p q = tt
sum_more of m n (Number a s) Null p q =
    (omega (arith, ints, p.0, add-mul m n (below_of of)), omega (arith, ints, p.1, add-mul m n (most_of of)), p.2)
sum_more of m n (Number a s) (Number b t) p q =
    (omega (arith, ints, p.0, q.0, add-mul m n (below_of of)), omega (arith, ints, p.1, q.1, add-mul m n (most_of of)), p.2)
sum_more of m n v (Truth b) p q = absurd q
sum_more of m n v (Day d) p q = absurd q
sum_more of m n v (Text t) p q = absurd q
sum_more of m n (Truth b) w p q = absurd p
sum_more of m n (Day d) w p q = absurd p
sum_more of m n (Text t) w p q = absurd p

one_sum : (of : SqlType) (v : Value) → IsOfForm of v → IsSum of 1 (number_of (nearest_value of v))
one_sum of (Number d s) h =
    let near = between_within (below_of of) (most_of of) d in
    (omega (arith, ints, near.0), omega (arith, ints, near.1), form_scale of d s h)
one_sum of Null h = tt
one_sum of (Truth b) h = tt
one_sum of (Day d) h = tt
one_sum of (Text t) h = tt

pub sum_fits : (of : SqlType) (m n : ℕ) (v : Value) (b : ℤ) (t : ℕ) → IsSummable of → m + n ≤ row_limit → IsSum of m v → IsSum of n (Number b t) → SumFits v b
sum_fits of m n (Number a s) b t is few p q =
    let within = sum_more of m n (Number a s) (Number b t) p q in
    let small = small_products of (m + n) is few in
    within_fits (a +ℤ b) (omega (arith, ints, within.0, small.0)) (omega (arith, ints, within.1, small.1))
sum_fits of m n Null b t is few p q = tt
sum_fits of m n (Truth x) b t is few p q = tt
sum_fits of m n (Day x) b t is few p q = tt
sum_fits of m n (Text x) b t is few p q = tt

-- counts
count_more : (m n : ℕ) (v w : Value) → IsCount m v → IsCount n w → IsCount (m + n) (plus v w)
count_more m n (Number a s) (Number b t) p q = (omega (arith, ints, p.0, q.0), omega (arith, ints, p.1, q.1), p.2)
count_more m n v Null p q = absurd q
count_more m n v (Truth b) p q = absurd q
count_more m n v (Day d) p q = absurd q
count_more m n v (Text t) p q = absurd q
count_more m n Null w p q = absurd p
count_more m n (Truth b) w p q = absurd p
count_more m n (Day d) w p q = absurd p
count_more m n (Text t) w p q = absurd p

count_later : (m : ℕ) (v : Value) → IsCount m v → IsCount (m + 1) v
count_later m (Number a s) p = (p.0, omega (arith, ints, p.1), p.2)
count_later m Null p = absurd p
count_later m (Truth b) p = absurd p
count_later m (Day d) p = absurd p
count_later m (Text t) p = absurd p

pub count_fits : (m n : ℕ) (v : Value) (b : ℤ) (t : ℕ) → m + n ≤ row_limit → IsCount m v → IsCount n (Number b t) → SumFits v b
count_fits m n (Number a s) b t few p q = within_fits (a +ℤ b) (omega (arith, ints, p.0, q.0)) (omega (arith, ints, p.1, q.1))
count_fits m n Null b t few p q = tt
count_fits m n (Truth x) b t few p q = tt
count_fits m n (Day x) b t few p q = tt
count_fits m n (Text x) b t few p q = tt

one_count : IsCount 1 (Number (pos 1) 0)
one_count = (omega (arith, ints), omega (arith, ints), refl)

count_one : (m : ℕ) (v w : Value) → IsCount m v → IsCount (m + 1) (plus v (cond (is_null w) Null (Number (pos 1) 0)))
count_one m v w p = go (is_null w)
  where
    plus_null : (v : Value) → IsCount m v → IsCount (m + 1) (plus v Null)
    plus_null (Number a s) p = count_later m (Number a s) p
    plus_null Null p = absurd p
    plus_null (Truth b) p = absurd p
    plus_null (Day d) p = absurd p
    plus_null (Text t) p = absurd p

    go : (b : Bool) → IsCount (m + 1) (plus v (cond b Null (Number (pos 1) 0)))
    go true = plus_null v p
    go false = count_more m 1 v (Number (pos 1) 0) p one_count

-- with a value more
pub sound_more : (kind : AggKind) (of : SqlType) (rows : ℕ) (cell v : Value) → IsSound kind of rows cell → rows < row_limit → ((kind ≡ CountRows → ⊥) → IsOfForm of v)
    → IsSound kind of (rows + 1) (both kind cell (cell_of kind of v))
sound_more CountRows of rows cell v h few take = (omega arith, count_more rows 1 cell (Number (pos 1) 0) h.1 one_count)
sound_more Count of rows cell v h few take = (omega arith, count_one rows cell v h.1)
sound_more Sum of rows cell v h few take = (omega arith, (h.1.0, sum_more of rows 1 cell (number_of (nearest_value of v)) h.1.1 (one_sum of v (take (λ e. cc)))))
sound_more Min of rows cell v h few take = (omega arith, pick_form of Least cell (nearest_value of v) h.1 (nearest_form of v (take (λ e. cc))))
sound_more Max of rows cell v h few take = (omega arith, pick_form of Most cell (nearest_value of v) h.1 (nearest_form of v (take (λ e. cc))))

-- with all that another aggregate took
pub sound_both : (kind : AggKind) (of : SqlType) (m n : ℕ) (v w : Value) → IsSound kind of m v → IsSound kind of n w → m + n ≤ row_limit → IsSound kind of (m + n) (both kind v w)
sound_both CountRows of m n v w p q few = (few, count_more m n v w p.1 q.1)
sound_both Count of m n v w p q few = (few, count_more m n v w p.1 q.1)
sound_both Sum of m n v w p q few = (few, (p.1.0, sum_more of m n v w p.1.1 q.1.1))
sound_both Min of m n v w p q few = (few, pick_form of Least v w p.1 q.1)
sound_both Max of m n v w p q few = (few, pick_form of Most v w p.1 q.1)

-- a number that was taken fits what is there
pub one_fits : (of : SqlType) (rows : ℕ) (v : Value) (d : ℤ) (s : ℕ) → IsSummable of → rows < row_limit → IsSum of rows v → IsNumberOf of d s → SumFits v (nearest_of of d)
one_fits of rows v d s is few p form = sum_fits of rows 1 v (nearest_of of d) s is (omega arith) p (one_sum of (Number d s) form)

-- what was kept
pub product_low : (rows b : ℕ) → pos rows *ℤ neg_ℤ (pos b) ≡ neg_ℤ (pos (rows * b))
product_low rows zero = omega (arith, ints)
product_low rows (suc b) = refl

pub product_high : (rows m : ℕ) → pos rows *ℤ pos m ≡ pos (rows * m)
product_high rows m = refl

product_fits : (of : SqlType) (rows : ℕ) → IsSummable of → rows ≤ row_limit → SFits w128 (neg_ℤ (pos (rows * below_of of))) × SFits w128 (pos (rows * most_of of))
product_fits of rows is few =
    let small = small_products of rows is few in (
      within_fits (neg_ℤ (pos (rows * below_of of))) (omega (arith, ints, small.0)) (omega (arith, ints, small.0)),
      within_fits (pos (rows * most_of of)) (omega (arith, ints, small.1)) (omega (arith, ints, small.1)),
    )

pub low_product_fits : (of : SqlType) (rows : ℕ) → IsSummable of → rows ≤ row_limit → SFits w128 (pos rows *ℤ neg_ℤ (pos (below_of of)))
low_product_fits of rows is few = subst (λ (z : ℤ). SFits w128 z) (sym (product_low rows (below_of of))) (product_fits of rows is few).0

pub high_product_fits : (of : SqlType) (rows : ℕ) → IsSummable of → rows ≤ row_limit → SFits w128 (pos rows *ℤ pos (most_of of))
high_product_fits of rows is few = (product_fits of rows is few).1

pub take_fits : (kind : AggKind) (of : SqlType) (rows : ℕ) (cell v : Value) (d : ℤ) (s : ℕ) → kind ≡ Sum → v ≡ Number d s → IsSound kind of rows cell → rows < row_limit → ((kind ≡ CountRows → ⊥) → IsOfForm of v) → SumFits cell (nearest_of of d)
take_fits kind of rows cell v d s is value sound few form =
    let own : IsSound Sum of rows cell = subst (λ (k : AggKind). IsSound k of rows cell) is sound in
    let number : IsNumberOf of d s = subst (λ (x : Value). IsOfForm of x) value (form (λ e. apart (sym is ∙ e))) in
    one_fits of rows cell d s own.1.0 few own.1.1 number
  where
    apart : Sum ≡ CountRows → ⊥
    apart e = cc

pub join_fits : (kind : AggKind) (of : SqlType) (m n : ℕ) (v w : Value) → IsSound kind of m v → IsSound kind of n w → m + n ≤ row_limit → CanJoin kind v w
join_fits CountRows of m n v (Number b t) p q few = count_fits m n v b t few p.1 q.1
join_fits CountRows of m n v Null p q few = tt
join_fits CountRows of m n v (Truth x) p q few = tt
join_fits CountRows of m n v (Day x) p q few = tt
join_fits CountRows of m n v (Text x) p q few = tt
join_fits Count of m n v (Number b t) p q few = count_fits m n v b t few p.1 q.1
join_fits Count of m n v Null p q few = tt
join_fits Count of m n v (Truth x) p q few = tt
join_fits Count of m n v (Day x) p q few = tt
join_fits Count of m n v (Text x) p q few = tt
join_fits Sum of m n v (Number b t) p q few = sum_fits of m n v b t p.1.0 few p.1.1 q.1.1
join_fits Sum of m n v Null p q few = tt
join_fits Sum of m n v (Truth x) p q few = tt
join_fits Sum of m n v (Day x) p q few = tt
join_fits Sum of m n v (Text x) p q few = tt
join_fits Min of m n v w p q few = tt
join_fits Max of m n v w p q few = tt

pub count_restored : (rows : ℕ) (kept : Value) → IsCount rows (restored_count rows kept)
count_restored rows (Number d s) = go (eqb s 0)
  where
    go : (b : Bool) → IsCount rows (cond b (Number (between (pos 0) (pos rows) d) 0) (Number (pos 0) 0))
    go true = let near = between_within 0 rows d in (near.0, near.1, refl)
    go false = (omega (arith, ints), omega (arith, ints), refl)
count_restored rows Null = (omega (arith, ints), omega (arith, ints), refl)
count_restored rows (Truth x) = (omega (arith, ints), omega (arith, ints), refl)
count_restored rows (Day x) = (omega (arith, ints), omega (arith, ints), refl)
count_restored rows (Text x) = (omega (arith, ints), omega (arith, ints), refl)

pub sum_restored : (of : SqlType) (rows : ℕ) (kept : Value) → IsSum of rows (restored_sum of rows kept)
sum_restored of rows (Number d s) = go (eqb s (scale_of of)) refl
  where
    go : (b : Bool) → eqb s (scale_of of) ≡ b → IsSum of rows (cond b (Number (between (neg_ℤ (pos (rows * below_of of))) (pos (rows * most_of of)) d) s) Null)
    go true e = let near = between_within (rows * below_of of) (rows * most_of of) d in (near.0, near.1, eqb-true s (scale_of of) e)
    go false e = tt
sum_restored of rows Null = tt
sum_restored of rows (Truth x) = tt
sum_restored of rows (Day x) = tt
sum_restored of rows (Text x) = tt

pub sound_as : (k l : AggKind) (of named : SqlType) (n : ℕ) (w : Value) → k ≡ l → of ≡ named → IsSound l named n w → IsSound k of n w
sound_as k l of named n w e f h = subst (λ (x : AggKind). IsSound x of n w) (sym e) (subst (λ (y : SqlType). IsSound l y n w) (sym f) h)
