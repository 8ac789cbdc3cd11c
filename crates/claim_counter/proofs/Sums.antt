-- Sums over lists in which one member changes, and how often a number is drawn.
use Rattle.std.proofs.Common.{◌≡◌, ◌≢◌, ℕ, zero, suc, ◌+◌, ◌≤◌, List, [], ◌∷◌, set, refl, sym, ap, ◌∙◌, arith}
use Rattle.std.specs.Prelude.{sum_by}
use Rattle.std.proofs.lemmas.List.Sums.{sum_by-cons}
use mathlib.Core.Option.{some, some-ne-none, some-injective}
use mathlib.Core.Logic.{dite}
use native.Mathlib.Decide.{ℕ_discrete}
use lib.ListN.{get_elem?}
use Rattle.number_bags.specs.Bags.{one_of}
use Rattle.number_bags.proofs.Bags.{one_same, one_other}
use Rattle.claim_counter.specs.Once.{IsOnce}

module _ {A : Type 0} where
  pub sum_set : (f : A → ℕ) (xs : List A) (i : ℕ) (v w : A) → get_elem? xs i ≡ some v → sum_by f (set xs i w) + f v ≡ sum_by f xs + f w
  sum_set f [] i v w e = absurd (some-ne-none v (sym e))
  sum_set f (x ∷ xs) zero v w e = let s : f x ≡ f v = ap f (some-injective x v e) in omega (arith, s, sum_by-cons f x xs, sum_by-cons f w xs)
  sum_set f (x ∷ xs) (suc i) v w e = let h = sum_set f xs i v w e in omega (arith, h, sum_by-cons f x xs, sum_by-cons f x (set xs i w))

  sum_le : (f g : A → ℕ) → ((x : A) → f x ≤ g x) → (xs : List A) → sum_by f xs ≤ sum_by g xs
  sum_le f g le [] = omega arith
  sum_le f g le (x ∷ xs) = let h = sum_le f g le xs in let k = le x in omega (arith, h, k, sum_by-cons f x xs, sum_by-cons g x xs)

  -- what one member has to spare, the sum has
  pub sum_spare : (f g : A → ℕ) → ((x : A) → f x ≤ g x) → (xs : List A) (i : ℕ) (v : A) → get_elem? xs i ≡ some v → sum_by f xs + g v ≤ sum_by g xs + f v
  sum_spare f g le [] i v e = absurd (some-ne-none v (sym e))
  sum_spare f g le (x ∷ xs) zero v e = let s : f x ≡ f v = ap f (some-injective x v e) in let t : g x ≡ g v = ap g (some-injective x v e) in let h = sum_le f g le xs in omega (arith, s, t, h, sum_by-cons f x xs, sum_by-cons g x xs)
  sum_spare f g le (x ∷ xs) (suc i) v e = let h = sum_spare f g le xs i v e in let k = le x in omega (arith, h, k, sum_by-cons f x xs, sum_by-cons g x xs)

  pub sum_has : (f : A → ℕ) (xs : List A) (i : ℕ) (v : A) → get_elem? xs i ≡ some v → f v ≤ sum_by f xs
  sum_has f [] i v e = absurd (some-ne-none v (sym e))
  sum_has f (x ∷ xs) zero v e = let s : f x ≡ f v = ap f (some-injective x v e) in omega (arith, s, sum_by-cons f x xs)
  sum_has f (x ∷ xs) (suc i) v e = let h = sum_has f xs i v e in omega (arith, h, sum_by-cons f x xs)

  -- where none has any of g, none has any of f
  sum_none : (f g : A → ℕ) (xs : List A) → sum_by g xs ≡ 0 → ((j : ℕ) (u : A) → get_elem? xs j ≡ some u → g u ≡ 0 → f u ≡ 0) → sum_by f xs ≡ 0
  sum_none f g [] e z = refl
  sum_none f g (x ∷ xs) e z =
      let c = sum_by-cons g x xs in
      let h = sum_none f g xs (omega (arith, e, c)) (λ j u. z (suc j) u) in
      let k = z 0 x refl (omega (arith, e, c)) in
      omega (arith, h, k, sum_by-cons f x xs)

  -- where one member has all of g, it has all of f
  pub sum_alone : (f g : A → ℕ) (xs : List A) (i : ℕ) (v : A) → get_elem? xs i ≡ some v → sum_by g xs ≤ g v → ((j : ℕ) (u : A) → get_elem? xs j ≡ some u → g u ≡ 0 → f u ≡ 0) → sum_by f xs ≡ f v
  sum_alone f g [] i v e le z = absurd (some-ne-none v (sym e))
  sum_alone f g (x ∷ xs) zero v e le z =
      let s : f x ≡ f v = ap f (some-injective x v e) in
      let t : g x ≡ g v = ap g (some-injective x v e) in
      let h = sum_none f g xs (omega (arith, le, t, sum_by-cons g x xs)) (λ j u. z (suc j) u) in
      omega (arith, s, h, sum_by-cons f x xs)
  sum_alone f g (x ∷ xs) (suc i) v e le z =
      let c = sum_by-cons g x xs in
      let m = sum_has g xs i v e in
      let k = z 0 x refl (omega (arith, le, m, c)) in
      let h = sum_alone f g xs i v e (omega (arith, le, c)) (λ j u. z (suc j) u) in
      omega (arith, h, k, sum_by-cons f x xs)

pub one_at : (n x : ℕ) → n ≡ x → one_of n x ≡ 1
one_at n x s = ap (one_of n) (sym s) ∙ one_same n

pub one_not : (n x : ℕ) → n ≢ x → one_of n x ≡ 0
one_not n x ne = one_other n x (λ e. ne (sym e))

-- the number n is drawn after all below it
pub once_next : (x n t t' : ℕ) → IsOnce x n t → t' ≡ t + one_of n x → IsOnce x (n + 1) t'
once_next x n t t' o e = dite (ℕ_discrete n x)
    (λ (s : n ≡ x). let b : one_of n x ≡ 1 = one_at n x s in let z = o.1 (omega (arith, s)) in ((λ l. omega (arith, e, b, z)), (λ l. absurd (omega (arith, s, l)))))
    (λ (s : n ≢ x). let b : one_of n x ≡ 0 = one_not n x s in ((λ l. let z = o.0 (grind (arith, l, s)) in omega (arith, e, b, z)), (λ l. let z = o.1 (omega (arith, l)) in omega (arith, e, b, z))))
