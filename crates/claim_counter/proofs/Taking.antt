-- A row of slots that is emptied from the front.
use Rattle.std.proofs.Common.{◌≡◌, ◌≢◌, ℕ, zero, suc, ◌+◌, ◌<◌, ◌≤◌, Bool, true, false, List, [], ◌∷◌, ◌++◌, length, take, set, get_or, sym, ap, ◌∙◌, arith, get_or-set_same, get_or-set_other}
use mathlib.Core.Option.{some, some-ne-none, some-injective}
use mathlib.Core.Logic.{dite}
use native.Mathlib.Decide.{ℕ_discrete}
use lib.ListN.{get_elem?}

take_suc : {A : Type 0} (xs : List A) (i : ℕ) (v : A) → get_elem? xs i ≡ some v → take i xs ++ v ∷ [] ≡ take (suc i) xs
take_suc [] i v e = absurd (some-ne-none v (sym e))
take_suc (x ∷ xs) zero v e = ap (λ (y : _). y ∷ []) (sym (some-injective x v e))
take_suc (x ∷ xs) (suc i) v e = ap (λ (ys : _). x ∷ ys) (take_suc xs i v e)

pub take_next : {A : Type 0} (xs ys : List A) (i : ℕ) (v : A) → get_elem? xs i ≡ some v → ys ≡ take i xs → ys ++ v ∷ [] ≡ take (i + 1) xs
take_next xs ys i v e is = ap (λ (zs : _). zs ++ v ∷ []) is ∙ (take_suc xs i v e ∙ (let s : suc i ≡ i + 1 = omega arith in ap (λ (n : ℕ). take n xs) s))

pub emptied : (fs gs : List Bool) (i : ℕ) → gs ≡ set fs i false → i < length fs → ((k : ℕ) → k < i → get_or fs k false ≡ false) → (k : ℕ) → k < i + 1 → get_or gs k false ≡ false
emptied fs gs i is lt old k l = ap (λ (hs : List Bool). get_or hs k false) is ∙ dite (ℕ_discrete k i)
    (λ (e : k ≡ i). ap (λ (z : ℕ). get_or (set fs i false) z false) e ∙ get_or-set_same fs i false false lt)
    (λ (ne : k ≢ i). get_or-set_other fs i k false false (λ e. ne (omega (arith, e))) ∙ old k (grind (arith, l, ne)))

pub others : (fs gs : List Bool) (i n : ℕ) → gs ≡ set fs i false → ((k : ℕ) → i ≤ k → k < n → get_or fs k false ≡ true) → (k : ℕ) → i + 1 ≤ k → k < n → get_or gs k false ≡ true
others fs gs i n is old k le lt = ap (λ (hs : List Bool). get_or hs k false) is ∙ (get_or-set_other fs i k false false (λ e. omega (arith, e, le)) ∙ old k (omega (arith, le)) lt)
