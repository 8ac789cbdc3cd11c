-- Keys are told apart by their bytes.
use Rattle.std.proofs.Common.{◌≡◌, ℕ, suc, ◌+◌, ◌<◌, ◌^◌, ℤ, true, false, List, [], ◌∷◌, ◌++◌, length, get_or, refl, sym, ap, ap₂, ◌∙◌, arith, Ordering, Less, Equal, Greater, append_assoc}
use Rattle.std.specs.Prelude.{All, ◌↔◌}
use Rattle.std.specs.Int.{from_bool}
use Rattle.std.proofs.lemmas.Cmp.{tied_itself}
use Rattle.std.proofs.lemmas.Map.Lookups.{exact_signed, exact_bytes}
use Rattle.ooc_types.specs.declared.value.Value.{Value}
use Rattle.ooc_types.specs.declared.value.Value.TheVariants.{Null, Truth, Number, Day, Text}
use Rattle.ooc_types.specs.Order.{value_cmp}
use Rattle.ooc_types.specs.Canonical.{reduce, digits_bytes, day_bytes, length_bytes, value_bytes, canonical}
use Rattle.ooc_types.specs.Keys.{IsHeld, HasShortText, AreEqual}
use Rattle.ooc_types.proofs.ValueOrder.{value_cmp_total, value_cmp-Number, value_cmp-Day, value_cmp-Text}
use Rattle.ooc_types.proofs.Bytes.{digits_same, days_same, lengths_same, length-digits_bytes, length-day_bytes, length-length_bytes, fronts_same}
use Rattle.ooc_types.proofs.Reduced.{reduce-fits, same-reduce, reduce-same}

-- what is asked of a value of a key
abbrev IsKeyValue : Value → Type 0
IsKeyValue v = IsHeld v × HasShortText v

-- equal values have equal bytes
bytes_of-equal : (v w : Value) → IsKeyValue v → IsKeyValue w → value_cmp v w ≡ Equal → value_bytes v ≡ value_bytes w
unfolding value_cmp
bytes_of-equal (Number d s) (Number e t) p q same =
    ap (λ r. 1 ∷ r.1 ∷ digits_bytes r.0) (same-reduce d e s t p.0.1 q.0.1 (sym (value_cmp-Number d s e t) ∙ same))
bytes_of-equal (Day d) (Day e) p q same = ap (λ x. 4 ∷ day_bytes x) (exact_signed d e (sym (value_cmp-Day d e) ∙ same))
bytes_of-equal (Text s) (Text t) p q same = ap (λ x. 3 ∷ length_bytes (length x) ++ x) (exact_bytes s t (sym (value_cmp-Text s t) ∙ same))
bytes_of-equal Null Null p q same = refl
bytes_of-equal (Truth true) (Truth true) p q same = refl
bytes_of-equal (Truth false) (Truth false) p q same = refl
bytes_of-equal (Truth true) (Truth false) p q same = cc
bytes_of-equal (Truth false) (Truth true) p q same = cc
bytes_of-equal (Truth true) w p q same = cc
bytes_of-equal (Truth false) w p q same = cc
bytes_of-equal v (Truth true) p q same = cc
bytes_of-equal v (Truth false) p q same = cc
bytes_of-equal v w p q same = cc

abbrev rest_of : List ℕ → List ℕ
rest_of [] = []
rest_of (x ∷ xs) = xs

numbers_apart : (d e : ℤ) (s t : ℕ) (k l : List ℕ) → IsKeyValue (Number d s) → IsKeyValue (Number e t) → value_bytes (Number d s) ++ k ≡ value_bytes (Number e t) ++ l → (value_cmp (Number d s) (Number e t) ≡ Equal) × (k ≡ l)
numbers_apart d e s t k l p q same =
    let scales : (reduce d s).1 ≡ (reduce e t).1 = ap (λ x. get_or x 1 0) same in
    let parts = fronts_same (digits_bytes (reduce d s).0) (digits_bytes (reduce e t).0) k l (length-digits_bytes (reduce d s).0 ∙ sym (length-digits_bytes (reduce e t).0)) (ap (λ x. rest_of (rest_of x)) same) in
    let digits = digits_same (reduce d s).0 (reduce e t).0 (reduce-fits d s p.0.0) (reduce-fits e t q.0.0) parts.0 in
    (value_cmp-Number d s e t ∙ reduce-same d e s t p.0.1 q.0.1 (λ i. (digits i, scales i)), parts.1)

texts_apart : (s t k l : List ℕ) → length s < 2 ^ 32 → length t < 2 ^ 32 → value_bytes (Text s) ++ k ≡ value_bytes (Text t) ++ l → (s ≡ t) × (k ≡ l)
texts_apart s t k l p q same =
    let parts = fronts_same (length_bytes (length s)) (length_bytes (length t)) (s ++ k) (t ++ l) (length-length_bytes (length s) ∙ sym (length-length_bytes (length t)))
    (sym (append_assoc (length_bytes (length s)) s k) ∙ ap rest_of same ∙ append_assoc (length_bytes (length t)) t l) in
    fronts_same s t k l (lengths_same (length s) (length t) p q parts.0) parts.1

value_apart : (v w : Value) (k l : List ℕ) → IsKeyValue v → IsKeyValue w → value_bytes v ++ k ≡ value_bytes w ++ l → (value_cmp v w ≡ Equal) × (k ≡ l)
value_apart (Number d s) (Number e t) k l p q same = numbers_apart d e s t k l p q same
value_apart (Day d) (Day e) k l p q same =
    let parts = fronts_same (day_bytes d) (day_bytes e) k l (length-day_bytes d ∙ sym (length-day_bytes e)) (ap rest_of same) in
    (ap (λ x. value_cmp (Day d) (Day x)) (sym (days_same d e p.0 q.0 parts.0)) ∙ tied_itself value_cmp_total (Day d), parts.1)
value_apart (Text s) (Text t) k l p q same =
    let parts = texts_apart s t k l p.1 q.1 same in
    (ap (λ x. value_cmp (Text s) (Text x)) (sym parts.0) ∙ tied_itself value_cmp_total (Text s), parts.1)
value_apart Null Null k l p q same = (tied_itself value_cmp_total Null, ap rest_of same)
value_apart (Truth true) (Truth true) k l p q same = (tied_itself value_cmp_total (Truth true), ap (λ x. rest_of (rest_of x)) same)
value_apart (Truth false) (Truth false) k l p q same = (tied_itself value_cmp_total (Truth false), ap (λ x. rest_of (rest_of x)) same)
value_apart (Truth true) (Truth false) k l p q same = absurd (omega (arith, ap (λ x. get_or x 1 0) same))
value_apart (Truth false) (Truth true) k l p q same = absurd (omega (arith, ap (λ x. get_or x 1 0) same))
value_apart v w k l p q same = absurd (omega (arith, ap (λ x. get_or x 0 0) same))

some_bytes : (v : Value) (k : List ℕ) → [] ≡ value_bytes v ++ k → ⊥
some_bytes Null k e = cc
some_bytes (Truth b) k e = cc
some_bytes (Number d s) k e = cc
some_bytes (Day d) k e = cc
some_bytes (Text t) k e = cc

keys_apart : (key other : List Value) → All IsKeyValue key → All IsKeyValue other → canonical key ≡ canonical other → AreEqual key other
keys_apart [] [] p q same = tt
keys_apart [] (w ∷ ws) p q same = absurd (some_bytes w (canonical ws) same)
keys_apart (v ∷ vs) [] p q same = absurd (some_bytes v (canonical vs) (sym same))
keys_apart (v ∷ vs) (w ∷ ws) p q same =
    let parts = value_apart v w (canonical vs) (canonical ws) (p 0 v (omega arith)) (q 0 w (omega arith)) same in
    (parts.0, keys_apart vs ws (λ k d h. p (suc k) d (omega arith)) (λ k d h. q (suc k) d (omega arith)) parts.1)

keys_equal : (key other : List Value) → All IsKeyValue key → All IsKeyValue other → AreEqual key other → canonical key ≡ canonical other
keys_equal [] [] p q same = refl
keys_equal [] (w ∷ ws) p q same = absurd same
keys_equal (v ∷ vs) [] p q same = absurd same
keys_equal (v ∷ vs) (w ∷ ws) p q same = ap₂ ◌++◌ (bytes_of-equal v w (p 0 v (omega arith)) (q 0 w (omega arith)) same.0) (keys_equal vs ws (λ k d h. p (suc k) d (omega arith)) (λ k d h. q (suc k) d (omega arith)) same.1)

pub keys_told_apart : (key other : List Value) → All IsHeld key → All IsHeld other → All HasShortText key → All HasShortText other → (canonical key ≡ canonical other) ↔ AreEqual key other
keys_told_apart key other p q r s =
    let first : All IsKeyValue key = λ k d h. (p k d h, r k d h) in
    let second : All IsKeyValue other = λ k d h. (q k d h, s k d h) in
    (keys_apart key other first second, keys_equal key other first second)
