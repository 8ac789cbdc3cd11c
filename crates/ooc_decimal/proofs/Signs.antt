-- Numbers by sign and magnitude: sums and products.
use Rattle.std.proofs.Common.{◌≡◌, ℕ, suc, ◌+◌, ◌-◌, ◌*◌, ◌^◌, ◌<◌, ◌≤◌, Bool, true, false, not, refl, ◌∙◌, ap, sym, arith, ℤ, pos, negsuc}
use Rattle.std.specs.Prelude.{unsigned_abs, neg_ℤ, ◌+ℤ◌, ◌-ℤ◌, ◌*ℤ◌}
use Rattle.std.proofs.lemmas.Int.{ints}
use Rattle.std.proofs.lemmas.Bool.Decides.{nat_tests}
use Rattle.std.proofs.lemmas.Nat.{pow-add}
use Rattle.std.proofs.Math.Nat.{mul_assoc}
use Rattle.std.proofs.Math.IntN.{ℤ_ind, +ℤ_idr, +ℤ_assoc, +ℤ_one, -ℤ_one, suc_ℤ-*ℤ, pred_ℤ-*ℤ, zero-*ℤ, *ℤ-one, one, neg_ℤ-neg_ℤ}
use Prim.Native.Nat.{zero}
use Rattle.ooc_decimal.specs.Numeric.{signed}
use Rattle.ooc_decimal.specs.Exact.{at_scale}

pub sum_same : (negative : Bool) (a b : ℕ) → signed negative (a + b) ≡ signed negative a +ℤ signed negative b
sum_same false a b = refl
sum_same true a b = omega (arith, ints)

pub sum_left : (negative : Bool) (a b : ℕ) → b ≤ a → signed negative (a - b) ≡ signed negative a +ℤ signed (not negative) b
sum_left false a b h = omega (arith, ints)
sum_left true a b h = omega (arith, ints)

pub sum_right : (negative : Bool) (a b : ℕ) → a ≤ b → signed (not negative) (b - a) ≡ signed negative a +ℤ signed (not negative) b
sum_right false a b h = omega (arith, ints)
sum_right true a b h = omega (arith, ints)

pub abs-signed : (negative : Bool) (n : ℕ) → unsigned_abs (signed negative n) ≡ n
abs-signed false n = refl
abs-signed true zero = refl
abs-signed true (suc n) = refl

pub times_signed : (negative : Bool) (m k : ℕ) → signed negative (m * k) ≡ signed negative m *ℤ pos k
times_signed false m k = refl
times_signed true zero k = let none : 0 * k ≡ 0 = omega arith in rw none refl
times_signed true (suc m) k = refl

pub opposite : (negative : Bool) (n : ℕ) → signed (not negative) n ≡ neg_ℤ (signed negative n)
opposite false n = refl
opposite true zero = refl
opposite true (suc n) = refl

pub times_times : (negative : Bool) (n a b : ℕ) → (signed negative n *ℤ pos a) *ℤ pos b ≡ signed negative n *ℤ pos (a * b)
times_times negative n a b =
    ap (λ z. z *ℤ pos b) (sym (times_signed negative n a)) ∙ sym (times_signed negative (n * a) b) ∙ ap (signed negative) (mul_assoc n a b) ∙ times_signed negative n (a * b)

pub over_sum : (x y k : ℤ) → (x +ℤ y) *ℤ k ≡ x *ℤ k +ℤ y *ℤ k
over_sum x y k = ℤ_ind (λ z. (x +ℤ z) *ℤ k ≡ x *ℤ k +ℤ z *ℤ k)
    (ap (λ z. z *ℤ k) (+ℤ_idr x) ∙ sym (ap (λ z. x *ℤ k +ℤ z) (zero-*ℤ k) ∙ +ℤ_idr (x *ℤ k)))
    (λ n known.
    ap (λ z. z *ℤ k) (sym (+ℤ_assoc x (pos n) (pos 1)) ∙ +ℤ_one (x +ℤ pos n))
    ∙ suc_ℤ-*ℤ (x +ℤ pos n) k
    ∙ ap (λ z. z +ℤ k) known
    ∙ +ℤ_assoc (x *ℤ k) (pos n *ℤ k) k
    ∙ ap (λ z. x *ℤ k +ℤ z) (sym (suc_ℤ-*ℤ (pos n) k) ∙ ap (λ z. z *ℤ k) (sym (+ℤ_one (pos n)))))
    (λ n known.
    ap (λ z. z *ℤ k) (sym (+ℤ_assoc x (neg_ℤ (pos n)) (neg_ℤ (pos 1))) ∙ -ℤ_one (x +ℤ neg_ℤ (pos n)))
    ∙ pred_ℤ-*ℤ (x +ℤ neg_ℤ (pos n)) k
    ∙ ap (λ z. z -ℤ k) known
    ∙ +ℤ_assoc (x *ℤ k) (neg_ℤ (pos n) *ℤ k) (neg_ℤ k)
    ∙ ap (λ z. x *ℤ k +ℤ z) (sym (pred_ℤ-*ℤ (neg_ℤ (pos n)) k) ∙ ap (λ z. z *ℤ k) (sym (-ℤ_one (neg_ℤ (pos n))))))
    y

-- a small number brings no large one near
pub stays_large : (x y : ℤ) → unsigned_abs x ≤ 2 ^ 127 → 2 ^ 128 < unsigned_abs y → 2 ^ 127 < unsigned_abs (x +ℤ y)
stays_large (pos a) (pos b) small large = omega arith
stays_large (pos a) (negsuc b) small large = grind (arith, nat_tests)
stays_large (negsuc a) (pos b) small large = grind (arith, nat_tests)
stays_large (negsuc a) (negsuc b) small large = omega arith

neg_times : (z : ℤ) (k : ℕ) → neg_ℤ z *ℤ pos k ≡ neg_ℤ (z *ℤ pos k)
neg_times (pos zero) k = let none : 0 * k ≡ 0 = omega arith in rw none refl
neg_times (pos (suc n)) k = refl
neg_times (negsuc n) k = sym (neg_ℤ-neg_ℤ (pos (suc n * k)))

-- a sum with the opposite number is a difference
pub difference : (a b x y z : ℤ) (t to a_scale b_scale : ℕ) → a ≡ x → b ≡ y → z ≡ neg_ℤ y → t ≡ to → x *ℤ pos (10 ^ (t - a_scale)) +ℤ z *ℤ pos (10 ^ (t - b_scale)) ≡ at_scale a a_scale to -ℤ at_scale b b_scale to
difference a b x y z t to a_scale b_scale ex ey ez et =
    rw (ez, et, ex, ey) (ap (λ w. x *ℤ pos (10 ^ (to - a_scale)) +ℤ w) (neg_times y (10 ^ (to - b_scale))))

-- two numbers raised to one scale, and both at that scale
pub at_one_scale : (a_negative : Bool) (a : ℕ) (b_negative : Bool) (b a_places b_places : ℕ) → a_places ≤ b_places → (signed a_negative a +ℤ signed b_negative b *ℤ pos (10 ^ (b_places - a_places))) *ℤ pos (10 ^ a_places) ≡ signed a_negative a *ℤ pos (10 ^ a_places) +ℤ signed b_negative b *ℤ pos (10 ^ b_places)
at_one_scale a_negative a b_negative b a_places b_places h =
    let power : 10 ^ (b_places - a_places) * 10 ^ a_places ≡ 10 ^ b_places = sym (pow-add 10 (b_places - a_places) a_places) ∙ ap (λ k. 10 ^ k) (omega arith) in
    over_sum (signed a_negative a) (signed b_negative b *ℤ pos (10 ^ (b_places - a_places))) (pos (10 ^ a_places))
    ∙ ap (λ z. signed a_negative a *ℤ pos (10 ^ a_places) +ℤ z) (times_times b_negative b (10 ^ (b_places - a_places)) (10 ^ a_places) ∙ ap (λ k. signed b_negative b *ℤ pos k) power)

-- a number at its own scale
pub at_own_scale : (z : ℤ) (scale to : ℕ) → scale ≡ to → z ≡ z *ℤ pos (10 ^ (to - scale))
unfolding one
at_own_scale z scale to e =
    let none : to - scale ≡ 0 = omega arith in
    sym (ap (λ k. z *ℤ pos (10 ^ k)) none ∙ *ℤ-one z)
