-- The strict order is total, what ties in it is the same value, and of values of one type it is the order of values.
use Rattle.std.proofs.Common.{◌≡◌, ℕ, ◌<◌, ◌-◌, ◌^◌, ℤ, true, false, List, refl, sym, ap, ap₂, ◌∙◌, arith, Ordering, Less, Equal, Greater, nat_cmp, int_cmp}
use Rattle.std.specs.Ordering.{ordering_then}
use Rattle.std.specs.Cmp.{IsTotalOrder}
use Rattle.std.proofs.Math.Nat.{one-le-pow}
use Rattle.std.proofs.lemmas.Cmp.{on_total, then_total, nat_cmp_total, tied_itself}
use Rattle.std.proofs.lemmas.Map.Lookups.{CmpEqualImpliesEq, exact_unsigned, exact_signed, exact_bytes}
use Rattle.ooc_types.specs.declared.value.Value.{Value}
use Rattle.ooc_types.specs.declared.value.Value.TheVariants.{Null, Truth, Number, Day, Text}
use Rattle.ooc_types.specs.declared.schema.SqlType.{SqlType}
use Rattle.ooc_types.specs.declared.schema.SqlType.TheVariants.{Boolean, Integer, BigInt, HugeInt, Decimal, Date, Varchar}
use Rattle.ooc_types.specs.Order.{in_units, value_cmp}
use Rattle.ooc_types.specs.Meets.{HasForm, IsNumberOf}
use Rattle.ooc_types.specs.Strict.{scale_in, strict_cmp}
use Rattle.ooc_types.proofs.Scaled.{times}
use Rattle.ooc_types.proofs.ValueOrder.{then-Equal, value_cmp_total, value_cmp-Number, value_cmp-Day, value_cmp-Text, value_cmp-class}

then-ties : (a b : Ordering) → ordering_then a b ≡ Equal → (a ≡ Equal) × (b ≡ Equal)
then-ties Less b e = cc
then-ties Equal b e = (refl, e)
then-ties Greater b e = cc

numbers_tie : (a b : ℤ) (m n : ℕ) → value_cmp (Number a m) (Number b n) ≡ Equal → m ≡ n → Number a m ≡ Number b n
unfolding in_units
numbers_tie a b m n e same =
    let moved : int_cmp (in_units a m) (in_units b m) ≡ Equal = ap (λ k. int_cmp (in_units a m) (in_units b k)) same ∙ sym (value_cmp-Number a m b n) ∙ e in
    let some : 0 < 10 ^ (255 - m) = one-le-pow (255 - m) 10 (omega arith) in
    let digits : a ≡ b = exact_signed a b (sym (times a b (10 ^ (255 - m)) some) ∙ moved) in
    ap₂ Number digits same

values_tie : (v w : Value) → value_cmp v w ≡ Equal → scale_in v ≡ scale_in w → v ≡ w
unfolding value_cmp
values_tie (Number a m) (Number b n) e s = numbers_tie a b m n e s
values_tie (Day a) (Day b) e s = ap Day (exact_signed a b (sym (value_cmp-Day a b) ∙ e))
values_tie (Text s) (Text t) e same = ap Text (exact_bytes s t (sym (value_cmp-Text s t) ∙ e))
values_tie Null Null e s = refl
values_tie (Truth true) (Truth true) e s = refl
values_tie (Truth false) (Truth false) e s = refl
values_tie (Truth true) (Truth false) e s = cc
values_tie (Truth false) (Truth true) e s = cc
values_tie (Truth true) w e s = cc
values_tie (Truth false) w e s = cc
values_tie v (Truth true) e s = cc
values_tie v (Truth false) e s = cc
values_tie v w e s = cc

pub strict_total : IsTotalOrder strict_cmp
strict_total = then_total value_cmp_total (on_total scale_in nat_cmp_total)

pub strict_ties : CmpEqualImpliesEq strict_cmp
strict_ties v w e =
    let parts = then-ties (value_cmp v w) (nat_cmp (scale_in v) (scale_in w)) e in
    values_tie v w parts.0 (exact_unsigned (scale_in v) (scale_in w) parts.1)

places : SqlType → ℕ
places Boolean = 0
places Integer = 0
places BigInt = 0
places HugeInt = 0
places (Decimal width scale) = scale
places Date = 0
places Varchar = 0

scale-is : (kind : SqlType) (a : ℤ) (m : ℕ) → IsNumberOf kind a m → m ≡ places kind
unfolding places
scale-is Boolean a m h = absurd h
scale-is Integer a m h = h.1
scale-is BigInt a m h = h.1
scale-is HugeInt a m h = h.1
scale-is (Decimal width scale) a m h = h.1
scale-is Date a m h = absurd h
scale-is Varchar a m h = absurd h

same-scale : (v w : Value) → scale_in v ≡ scale_in w → strict_cmp v w ≡ value_cmp v w
same-scale v w e = ap (λ k. ordering_then (value_cmp v w) (nat_cmp (scale_in v) k)) (sym e) ∙ ap (ordering_then (value_cmp v w)) (tied_itself nat_cmp_total (scale_in v)) ∙ then-Equal (value_cmp v w)

pub strict-of-kind : (limit : ℕ) (kind : SqlType) (v w : Value) → HasForm limit kind v → HasForm limit kind w → strict_cmp v w ≡ value_cmp v w
unfolding value_cmp
strict-of-kind limit kind (Number a m) (Number b n) p q = same-scale (Number a m) (Number b n) (scale-is kind a m p ∙ sym (scale-is kind b n q))
strict-of-kind limit kind (Number a m) (Truth true) p q = refl
strict-of-kind limit kind (Number a m) (Truth false) p q = refl
strict-of-kind limit kind (Number a m) w p q = refl
strict-of-kind limit kind (Truth true) (Number b n) p q = refl
strict-of-kind limit kind (Truth false) (Number b n) p q = refl
strict-of-kind limit kind v (Number b n) p q = refl
strict-of-kind limit kind (Truth x) w p q = same-scale (Truth x) w refl
strict-of-kind limit kind (Day d) w p q = same-scale (Day d) w refl
strict-of-kind limit kind (Text t) w p q = same-scale (Text t) w refl
strict-of-kind limit kind Null w p q = same-scale Null w refl
