-- The tests of values, and what they tell.
use Rattle.std.proofs.Common.{◌≡◌, ◌≤◌, ◌<◌, ℕ, ◌+◌, ◌^◌, ◌⊎◌, inl, inr, Bool, true, false, Option, Some, None, List, refl, ap, arith, ℤ, pos, negsuc}
use Rattle.std.specs.Prelude.{nat_lt, if◌then◌else◌, SomeIff, MatchOption, ◌+ℤ◌, ◌<ℤ◌, IsUtf8}
use Rattle.std.specs.Str.{is_utf8}
use Rattle.std.proofs.lemmas.Str.{IsUtf8-from_is_utf8}
use Rattle.std.proofs.lemmas.Int.{ints}
use Rattle.std.proofs.lemmas.Bool.{lt-ltb, le-ltb}
use Rattle.std.proofs.lemmas.Bool.Decides.{leb_tells}
use Rattle.ooc_types.specs.declared.schema.SqlType.{SqlType}
use Rattle.ooc_types.specs.declared.schema.SqlType.TheVariants.{Boolean, Integer, BigInt, HugeInt, Decimal, Date, Varchar}
use Rattle.ooc_types.specs.Meets.{IsInRange}
use Rattle.ooc_decimal.specs.Numeric.{IsNumeric}
use Rattle.ooc_decimal.specs.Numeral.{spelled}
use Rattle.ooc_decimal.specs.Read.{IsReadAs}
use Rattle.csv_load.specs.Numbers.{is_below, is_in_range, number_of}

-- what isn't UTF-8 fails the test
pub no_text : (bytes : List ℕ) → ¬ (IsUtf8 bytes) → false ≡ is_utf8 bytes
no_text bytes none = by (is_utf8 bytes) refl
  where
    by : (b : Bool) → is_utf8 bytes ≡ b → false ≡ b
    by true e = absurd (none (IsUtf8-from_is_utf8 bytes e))
    by false e = refl

below : (n bound : ℕ) → ((nat_lt n bound ≡ true) × (n < bound)) ⊎ ((nat_lt n bound ≡ false) × (bound ≤ n))
below n bound = elim (leb_tells bound n) [
  | inl h ↦ inr (le-ltb n bound h.1, h.1)
  | inr h ↦ inl (lt-ltb n bound h.1, h.1)
]

decimal_within : (bound : ℕ) (z : ℤ) → ((is_below bound z ≡ true) × ((z <ℤ pos bound) × (pos 0 <ℤ (z +ℤ pos bound)))) ⊎ ((is_below bound z ≡ false) × ((z <ℤ pos bound) × (pos 0 <ℤ (z +ℤ pos bound)) → ⊥))
decimal_within bound (pos n) = elim (below n bound) [
  | inl h ↦ let k : n < bound = h.1 in inl (h.0, (omega (arith, ints), omega (arith, ints)))
  | inr h ↦ let k : bound ≤ n = h.1 in inr (h.0, λ g. let l : pos n <ℤ pos bound = g.0 in omega (arith, ints))
]
decimal_within bound (negsuc n) = elim (below (n + 1) bound) [
  | inl h ↦ let k : n + 1 < bound = h.1 in inl (h.0, (omega (arith, ints), omega (arith, ints)))
  | inr h ↦ let k : bound ≤ n + 1 = h.1 in inr (h.0, λ g. let l : pos 0 <ℤ (negsuc n +ℤ pos bound) = g.1 in omega (arith, ints))
]

-- the test tells whether a number is in the range of its type
pub range_tells : (kind : SqlType) → IsNumeric kind → (z : ℤ) → ((is_in_range kind z ≡ true) × IsInRange kind z) ⊎ ((is_in_range kind z ≡ false) × (IsInRange kind z → ⊥))
range_tells Boolean numeric z = absurd numeric
range_tells Date numeric z = absurd numeric
range_tells Varchar numeric z = absurd numeric
range_tells (Decimal width scale) numeric z = decimal_within (10 ^ width) z
range_tells Integer numeric (pos n) = elim (below n (2 ^ 31)) [ inl h ↦ inl (h.0, record { sfits = h.1 }) | inr h ↦ inr (h.0, λ g. let k : n < 2 ^ 31 = g.sfits in let l : 2 ^ 31 ≤ n = h.1 in omega arith) ]
range_tells Integer numeric (negsuc n) = elim (below n (2 ^ 31)) [ inl h ↦ inl (h.0, record { sfits = h.1 }) | inr h ↦ inr (h.0, λ g. let k : n < 2 ^ 31 = g.sfits in let l : 2 ^ 31 ≤ n = h.1 in omega arith) ]
range_tells BigInt numeric (pos n) = elim (below n (2 ^ 63)) [ inl h ↦ inl (h.0, record { sfits = h.1 }) | inr h ↦ inr (h.0, λ g. let k : n < 2 ^ 63 = g.sfits in let l : 2 ^ 63 ≤ n = h.1 in omega arith) ]
range_tells BigInt numeric (negsuc n) = elim (below n (2 ^ 63)) [ inl h ↦ inl (h.0, record { sfits = h.1 }) | inr h ↦ inr (h.0, λ g. let k : n < 2 ^ 63 = g.sfits in let l : 2 ^ 63 ≤ n = h.1 in omega arith) ]
range_tells HugeInt numeric (pos n) = elim (below n (2 ^ 127)) [ inl h ↦ inl (h.0, record { sfits = h.1 }) | inr h ↦ inr (h.0, λ g. let k : n < 2 ^ 127 = g.sfits in let l : 2 ^ 127 ≤ n = h.1 in omega arith) ]
range_tells HugeInt numeric (negsuc n) = elim (below n (2 ^ 127)) [ inl h ↦ inl (h.0, record { sfits = h.1 }) | inr h ↦ inr (h.0, λ g. let k : n < 2 ^ 127 = g.sfits in let l : 2 ^ 127 ≤ n = h.1 in omega arith) ]

exact : (outcome : Option ℤ) (P : Type 0) (z : ℤ) → P → SomeIff outcome P z → outcome ≡ Some z
exact None P z p h = absurd (h p)
exact (Some x) P z p h = ap Some h.1

inexact : (outcome : Option ℤ) (P : Type 0) (z : ℤ) → (P → ⊥) → SomeIff outcome P z → outcome ≡ None
inexact None P z p h = refl
inexact (Some x) P z p h = absurd (p h.0)

-- what is read as a number is the number of the field
pub number_is : (kind : SqlType) → IsNumeric kind → (text : List ℕ) (outcome : Option ℤ) → IsReadAs kind text outcome → outcome ≡ number_of kind text
unfolding number_of
number_is kind numeric text outcome h = by (spelled kind text) h
  where
    by : (o : Option ℤ) → MatchOption o (outcome ≡ None) (λ z. SomeIff outcome (IsInRange kind z) z) → ◌≡◌ {A = Option ℤ} outcome (elim o [ None ↦ None | Some n ↦ if is_in_range kind n then Some n else None ])
    by None h = h
    by (Some z) h = elim (range_tells kind numeric z) [
      | inl t ↦ rw t.0 (exact outcome (IsInRange kind z) z t.1 h)
      | inr f ↦ rw f.0 (inexact outcome (IsInRange kind z) z f.1 h)
    ]
