-- A sum over a list of which one place changed.
use Rattle.std.proofs.Common.{◌≡◌, ℕ, zero, suc, ◌+◌, ◌≤◌, set, List, [], ◌∷◌, sym, ap, arith}
use Rattle.std.specs.Prelude.{sum_by}
use Rattle.std.proofs.lemmas.List.Sums.{sum_by-cons}
use mathlib.Core.Option.{some, some-ne-none, some-injective}
use lib.ListN.{get_elem?}

module _ {A : Type 0} where
  pub sum_set : (f : A → ℕ) (xs : List A) (i : ℕ) (v w : A) → get_elem? xs i ≡ some v → sum_by f (set xs i w) + f v ≡ sum_by f xs + f w
  sum_set f [] i v w e = absurd (some-ne-none v (sym e))
  sum_set f (x ∷ xs) zero v w e = let s : f x ≡ f v = ap f (some-injective x v e) in omega (arith, s, sum_by-cons f x xs, sum_by-cons f w xs)
  sum_set f (x ∷ xs) (suc i) v w e = let h = sum_set f xs i v w e in omega (arith, h, sum_by-cons f x xs, sum_by-cons f x (set xs i w))

  pub sum_has : (f : A → ℕ) (xs : List A) (i : ℕ) (v : A) → get_elem? xs i ≡ some v → f v ≤ sum_by f xs
  sum_has f [] i v e = absurd (some-ne-none v (sym e))
  sum_has f (x ∷ xs) zero v e = let s : f x ≡ f v = ap f (some-injective x v e) in omega (arith, s, sum_by-cons f x xs)
  sum_has f (x ∷ xs) (suc i) v e = let h = sum_has f xs i v e in omega (arith, h, sum_by-cons f x xs)
