-- Numbers times a power of ten, and their order.
use Rattle.std.proofs.Common.{◌≡◌, ℕ, suc, ℤ, pos, negsuc, true, false, cond, ◌+◌, ◌*◌, ◌-◌, ◌^◌, ◌<◌, ◌≤◌, refl, ◌∙◌, sym, ap, subst, arith, Less, Equal, Greater, int_cmp, SFits, ◌<ℤ◌, ◌≤ℤ◌}
use Rattle.std.specs.Prelude.{◌*ℤ◌}
use Rattle.std.specs.Int.{w128}
use Rattle.std.proofs.Math.Nat.{mul-lt-mul_of_pos_right, mul-le-mul_right, mul-le-mul_left, mul_assoc, zero-mul, one-le-pow, pow-suc}
use Rattle.std.proofs.Math.Dec.{ltb}
use Rattle.std.proofs.lemmas.Nat.{pow-add}
use Rattle.std.proofs.lemmas.Bool.{ltb-true, ltb-false, lt-ltb, le-ltb}
use Rattle.std.proofs.lemmas.Bool.Decides.{nat_tests}
use Rattle.std.proofs.Math.IntN.{neg_ℤ}
use Rattle.std.proofs.lemmas.Int.{ints}
use Prim.Native.Nat.{zero}
use Rattle.ooc_types.specs.Order.{in_units}

-- a test of two numbers is that of their products
ltb-mul : (a b k : ℕ) → 0 < k → ltb (a * k) (b * k) ≡ ltb a b
ltb-mul a b k h = elim (ltb a b) as (λ t. ltb a b ≡ t → ltb (a * k) (b * k) ≡ t) [
  | true ↦ λ e. lt-ltb (a * k) (b * k) (mul-lt-mul_of_pos_right (ltb-true a b e) h)
  | false ↦ λ e. le-ltb (a * k) (b * k) (mul-le-mul_right k (ltb-false a b e))
] refl

neg_is : (n : ℕ) → 0 < n → neg_ℤ (pos n) ≡ negsuc (n - 1)
neg_is zero h = absurd (omega arith)
neg_is (suc n) h = ap negsuc (omega arith)

product_above : (a k : ℕ) → 0 < k → 0 < suc a * k
product_above a k h = omega (arith, mul-lt-mul_of_pos_right {m = 0} {n = suc a} {k = k} (omega arith) h)

neg_cmp : (m n : ℕ) → 0 < m → 0 < n → int_cmp (negsuc (m - 1)) (negsuc (n - 1)) ≡ cond (ltb n m) Less (cond (ltb m n) Greater Equal)
neg_cmp m n p q = grind (arith, nat_tests)

pub times : (a b : ℤ) (k : ℕ) → 0 < k → int_cmp (a *ℤ pos k) (b *ℤ pos k) ≡ int_cmp a b
times (pos a) (pos b) k h = rw (ltb-mul a b k h, ltb-mul b a k h) refl
times (pos a) (negsuc b) k h = rw (neg_is (suc b * k) (product_above b k h)) refl
times (negsuc a) (pos b) k h = rw (neg_is (suc a * k) (product_above a k h)) refl
times (negsuc a) (negsuc b) k h = rw (neg_is (suc a * k) (product_above a k h), neg_is (suc b * k) (product_above b k h))
    (neg_cmp (suc a * k) (suc b * k) (product_above a k h) (product_above b k h) ∙ rw (ltb-mul (suc b) (suc a) k h, ltb-mul (suc a) (suc b) k h) (grind (arith, nat_tests)))

neg-mul : (p n : ℕ) → neg_ℤ (pos p) *ℤ pos n ≡ neg_ℤ (pos (p * n))
neg-mul zero n = rw (zero-mul n) refl
neg-mul (suc p) n = refl

pub times_times : (a : ℤ) (m n : ℕ) → (a *ℤ pos m) *ℤ pos n ≡ a *ℤ pos (m * n)
times_times (pos a) m n = ap pos (mul_assoc a m n)
times_times (negsuc a) m n = neg-mul (suc a * m) n ∙ ap (λ x. neg_ℤ (pos x)) (mul_assoc (suc a) m n)

-- a power of ten at n is at least ten times that at a smaller i
power_above : (i n : ℕ) → i < n → 10 ^ i * 10 ≤ 10 ^ n
power_above i n h =
    let e : 10 ^ n ≡ 10 ^ i * 10 * 10 ^ (n - suc i) = ap (λ k. 10 ^ k) (omega arith) ∙ pow-add 10 (suc i) (n - suc i) ∙ ap (λ k. k * 10 ^ (n - suc i)) (pow-suc 10 i) in
    let one : 1 ≤ 10 ^ (n - suc i) = one-le-pow (n - suc i) 10 (omega arith) in
    let m = mul-le-mul_left (10 ^ i * 10) one in
    omega (arith, e, m)

too_large : (x : ℕ) → (SFits w128 (pos x) → ⊥) → 2 ^ 127 ≤ x
too_large x over = elim (ltb x (2 ^ 127)) as (λ t. ltb x (2 ^ 127) ≡ t → 2 ^ 127 ≤ x) [
  | true ↦ λ e. absurd (over (record { sfits = ltb-true x (2 ^ 127) e }))
  | false ↦ λ e. ltb-false x (2 ^ 127) e
] refl

too_small : (x : ℕ) → 0 < x → (SFits w128 (neg_ℤ (pos x)) → ⊥) → 2 ^ 127 < x
too_small zero h over = absurd (omega arith)
too_small (suc x) h over = elim (ltb x (2 ^ 127)) as (λ t. ltb x (2 ^ 127) ≡ t → 2 ^ 127 < suc x) [
  | true ↦ λ e. absurd (over (record { sfits = ltb-true x (2 ^ 127) e }))
  | false ↦ λ e. omega (arith, ltb-false x (2 ^ 127) e)
] refl

-- past the last digit that fits, the sign decides
pub past_high : (a b : ℤ) (i n : ℕ) → i < n → (SFits w128 ((a *ℤ pos (10 ^ i)) *ℤ pos 10) → ⊥) → SFits w128 b → pos 0 ≤ℤ a → Greater ≡ int_cmp (a *ℤ pos (10 ^ n)) b
past_high (pos a) (negsuc b) i n h over fits sign = refl
past_high (pos a) (pos b) i n h over fits sign =
    let large = too_large (a * 10 ^ i * 10) over in
    let more = mul-le-mul_left a (power_above i n h) in
    let same = mul_assoc a (10 ^ i) 10 in
    let top : b < 2 ^ 127 = fits.sfits in
    let above : b < a * 10 ^ n = omega arith in
    grind (arith, nat_tests)
past_high (negsuc a) b i n h over fits sign = absurd (omega arith)

neg_below : (x : ℕ) (b : ℤ) → 2 ^ 127 < x → SFits w128 b → Less ≡ int_cmp (negsuc (x - 1)) b
neg_below x (pos b) h fits = refl
neg_below x (negsuc b) h fits =
    let top : b < 2 ^ 127 = fits.sfits in
    grind (arith, nat_tests)

pub past_low : (a b : ℤ) (i n : ℕ) → i < n → (SFits w128 ((a *ℤ pos (10 ^ i)) *ℤ pos 10) → ⊥) → SFits w128 b → a <ℤ pos 0 → Less ≡ int_cmp (a *ℤ pos (10 ^ n)) b
past_low (pos a) b i n h over fits sign = absurd (omega (arith, ints))
past_low (negsuc a) b i n h over fits sign =
    let P : ℤ → Type 0 = SFits w128 in
    let some : 0 < 10 ^ i = one-le-pow i 10 (omega arith) in
    let p = product_above a (10 ^ i) some in
    let q : 0 < suc a * 10 ^ i * 10 = omega arith in
    let small = too_small (suc a * 10 ^ i * 10) q (λ f. over (subst P (sym (neg-mul (suc a * 10 ^ i) 10)) f)) in
    let more = mul-le-mul_left (suc a) (power_above i n h) in
    let same = mul_assoc (suc a) (10 ^ i) 10 in
    let far : 2 ^ 127 < suc a * 10 ^ n = omega arith in
    rw (neg_is (suc a * 10 ^ n) (omega arith)) (neg_below (suc a * 10 ^ n) b far fits)

-- two numbers at their scales, and in one unit
pub aligned : (a b : ℤ) (m n : ℕ) → m ≤ n → n < 256 → int_cmp (a *ℤ pos (10 ^ (n - m))) b ≡ int_cmp (a *ℤ pos (10 ^ (255 - m))) (b *ℤ pos (10 ^ (255 - n)))
aligned a b m n h fits =
    sym (times (a *ℤ pos (10 ^ (n - m))) b (10 ^ (255 - n)) (one-le-pow (255 - n) 10 (omega arith)))
    ∙ ap (λ x. int_cmp x (b *ℤ pos (10 ^ (255 - n))))
    (times_times a (10 ^ (n - m)) (10 ^ (255 - n)) ∙ ap (λ k. a *ℤ pos k) (sym (pow-add 10 (n - m) (255 - n)) ∙ ap (λ k. 10 ^ k) (omega arith)))

units_times : (a : ℤ) (m n : ℕ) → m < 256 → in_units a m *ℤ pos (10 ^ (m + n)) ≡ (a *ℤ pos (10 ^ n)) *ℤ pos (10 ^ 255)
unfolding in_units
units_times a m n h =
    times_times a (10 ^ (255 - m)) (10 ^ (m + n))
    ∙ ap (λ k. a *ℤ pos k) (sym (pow-add 10 (255 - m) (m + n)) ∙ ap (λ k. 10 ^ k) (omega arith) ∙ pow-add 10 n 255)
    ∙ sym (times_times a (10 ^ n) (10 ^ 255))

-- two numbers in one unit, and crosswise times the powers of ten of their scales
pub crosswise : (a b : ℤ) (m n : ℕ) → m < 256 → n < 256 → int_cmp (in_units a m) (in_units b n) ≡ int_cmp (a *ℤ pos (10 ^ n)) (b *ℤ pos (10 ^ m))
crosswise a b m n p q =
    sym (times (in_units a m) (in_units b n) (10 ^ (m + n)) (one-le-pow (m + n) 10 (omega arith)))
    ∙ ap (λ x. int_cmp x (in_units b n *ℤ pos (10 ^ (m + n)))) (units_times a m n p)
    ∙ ap (λ k. int_cmp ((a *ℤ pos (10 ^ n)) *ℤ pos (10 ^ 255)) (in_units b n *ℤ pos (10 ^ k))) (omega arith)
    ∙ ap (λ x. int_cmp ((a *ℤ pos (10 ^ n)) *ℤ pos (10 ^ 255)) x) (units_times b n m q)
    ∙ times (a *ℤ pos (10 ^ n)) (b *ℤ pos (10 ^ m)) (10 ^ 255) (one-le-pow 255 10 (omega arith))
