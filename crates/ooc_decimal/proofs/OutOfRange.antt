-- No type of numbers reaches beyond an `i128`, and none but HUGEINT has its least value.
use Rattle.std.proofs.Common.{◌≡◌, ℕ, suc, ◌^◌, ◌<◌, ◌≤◌, Bool, true, false, refl, ◌∙◌, ap, sym, subst, ltb, arith, ℤ, pos, negsuc, SFits, ◌*◌}
use Rattle.std.specs.Prelude.{unsigned_abs, ◌+ℤ◌, ◌*ℤ◌}
use Rattle.std.specs.Int.{w128, IsNonZero}
use Rattle.std.proofs.lemmas.Bool.{ltb-true, ltb-false}
use Rattle.std.proofs.lemmas.Int.{ints, unsigned_abs-mul}
use Rattle.std.proofs.Math.Nat.{le-mul_of_pos_right, pow-suc, mul_assoc}
use Prim.Native.Nat.{zero}
use Rattle.ooc_types.specs.declared.schema.SqlType.{SqlType}
use Rattle.ooc_types.specs.declared.schema.SqlType.TheVariants.{Boolean, Integer, BigInt, HugeInt, Decimal, Date, Varchar}
use Rattle.ooc_types.specs.Meets.{IsInRange}
use Rattle.ooc_decimal.specs.Numeric.{IsNumeric, signed}
use Rattle.ooc_decimal.proofs.Point.{unit_below, unit_above}
use Rattle.ooc_decimal.proofs.Signs.{times_signed, abs-signed, stays_large}

-- what is in a range fits an `i128`
fits : (kind : SqlType) → IsNumeric kind → (z : ℤ) → IsInRange kind z → SFits w128 z
fits Boolean numeric z inside = absurd inside
fits Date numeric z inside = absurd inside
fits Varchar numeric z inside = absurd inside
fits HugeInt numeric z inside = inside
fits Integer numeric (pos n) inside = let h : n < 2 ^ 31 = inside.sfits in record { sfits = omega arith }
fits Integer numeric (negsuc n) inside = let h : n < 2 ^ 31 = inside.sfits in record { sfits = omega arith }
fits BigInt numeric (pos n) inside = let h : n < 2 ^ 63 = inside.sfits in record { sfits = omega arith }
fits BigInt numeric (negsuc n) inside = let h : n < 2 ^ 63 = inside.sfits in record { sfits = omega arith }
fits (Decimal width scale) numeric (pos n) inside = record { sfits = omega (arith, ints, inside.0, unit_below width 38 numeric.1) }
fits (Decimal width scale) numeric (negsuc n) inside = record { sfits = omega (arith, ints, inside.1, unit_below width 38 numeric.1) }

-- what needs more than an `i128` is in no range
pub unfit : (kind : SqlType) → IsNumeric kind → (z : ℤ) → (SFits w128 z → ⊥) → IsInRange kind z → ⊥
unfit kind numeric z more inside = more (fits kind numeric z inside)

large_unfit : (z : ℤ) → 2 ^ 127 < unsigned_abs z → SFits w128 z → ⊥
large_unfit (pos n) large small = let h : n < 2 ^ 127 = small.sfits in omega arith
large_unfit (negsuc n) large small = let h : n < 2 ^ 127 = small.sfits in omega arith

pub too_large : (kind : SqlType) → IsNumeric kind → (z : ℤ) → 2 ^ 127 < unsigned_abs z → IsInRange kind z → ⊥
too_large kind numeric z large = unfit kind numeric z (large_unfit z large)

pub signed_too_large : (kind : SqlType) → IsNumeric kind → (negative : Bool) (n : ℕ) → 2 ^ 127 < n → IsInRange kind (signed negative n) → ⊥
signed_too_large kind numeric negative n large inside = too_large kind numeric (signed negative n) (omega (arith, abs-signed negative n)) inside

-- of the two numbers of magnitude 2^127 the positive one is in no range
pub outside : (kind : SqlType) → IsNumeric kind → (negative : Bool) (n : ℕ) → 2 ^ 127 ≤ n → (negative ≡ true → 2 ^ 127 < n) → IsInRange kind (signed negative n) → ⊥
outside kind numeric true n large more = signed_too_large kind numeric true n (more refl)
outside kind numeric false n large more = unfit kind numeric (pos n) (λ small. let h : n < 2 ^ 127 = small.sfits in omega arith)

not_below : (n bound : ℕ) → (n < bound → ⊥) → bound ≤ n
not_below n bound more = elim (ltb n bound) as (λ t. ltb n bound ≡ t → bound ≤ n) [
  | true ↦ λ e. absurd (more (ltb-true n bound e))
  | false ↦ λ e. ltb-false n bound e
] refl

-- a number with zeros behind it that needs more than 128 bits: it has a zero at least, so it isn't 2^128 itself
beyond : (n places : ℕ) → n < 2 ^ 128 → (n * 10 ^ places < 2 ^ 128 → ⊥) → 2 ^ 128 < n * 10 ^ places
beyond n zero small more = absurd (more (omega arith))
beyond n (suc places) small more =
    let tenth : n * 10 ^ suc places ≡ n * 10 ^ places * 10 = ap (λ k. n * k) (pow-suc 10 places) ∙ sym (mul_assoc n (10 ^ places) 10) in
    let large : 2 ^ 128 ≤ n * 10 ^ suc places = not_below (n * 10 ^ suc places) (2 ^ 128) more in
    omega (arith, tenth, large)

-- so a sum with it is beyond each type, whatever the other number of at most 127 bits
pub sum_beyond : (a_negative : Bool) (a : ℕ) (b_negative : Bool) (b places : ℕ) → a ≤ 2 ^ 127 → b < 2 ^ 128 → (b * 10 ^ places < 2 ^ 128 → ⊥) → 2 ^ 127 < unsigned_abs (signed a_negative a +ℤ signed b_negative b *ℤ pos (10 ^ places))
sum_beyond a_negative a b_negative b places a_small b_small more =
    let size : unsigned_abs (signed b_negative b *ℤ pos (10 ^ places)) ≡ b * 10 ^ places = sym (ap unsigned_abs (times_signed b_negative b (10 ^ places))) ∙ abs-signed b_negative (b * 10 ^ places) in
    stays_large (signed a_negative a) (signed b_negative b *ℤ pos (10 ^ places)) (omega (arith, abs-signed a_negative a)) (omega (arith, size, beyond b places b_small more))

pub times_too_large : (kind : SqlType) → IsNumeric kind → (z : ℤ) (places : ℕ) → 2 ^ 127 < unsigned_abs z → IsInRange kind (z *ℤ pos (10 ^ places)) → ⊥
times_too_large kind numeric z places large inside =
    too_large kind numeric (z *ℤ pos (10 ^ places)) (omega (arith, unsigned_abs-mul z (pos (10 ^ places)), le-mul_of_pos_right {m = 10 ^ places} (unsigned_abs z) (unit_above places))) inside

pub raised_too_large : (kind : SqlType) → IsNumeric kind → (negative : Bool) (n k : ℕ) → (n * k < 2 ^ 128 → ⊥) → IsInRange kind (signed negative n *ℤ pos k) → ⊥
raised_too_large kind numeric negative n k more inside =
    let P : ℤ → Type 0 = IsInRange kind in
    signed_too_large kind numeric negative (n * k) (omega (arith, not_below (n * k) (2 ^ 128) more)) (subst P (sym (times_signed negative n k)) inside)

pub not_zero : (z : ℤ) → SFits w128 z → (z ≡ pos 0 → ⊥) → IsNonZero w128 z
not_zero (pos zero) fits some = absurd (some refl)
not_zero (pos (suc n)) fits some = omega arith
not_zero (negsuc n) fits some = let h : n < 2 ^ 127 = fits.sfits in omega arith
