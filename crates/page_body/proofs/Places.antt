-- A list of which one place has another value, and a list with one place more.
use Rattle.std.proofs.Common.{◌≡◌, ◌≢◌, ℕ, ◌<◌, List, [], ◌∷◌, ◌++◌, length, suc, zero, refl, sym, subst, arith, Option, Some}
use Rattle.std.specs.Prelude.{slice_get, slice_set}
use Rattle.std.proofs.lemmas.Option.{slice_get_within}
use mathlib.Core.Logic.{dite}
use native.Mathlib.Decide.{ℕ_discrete}

set_same : {A : Type 0} (xs : List A) (i : ℕ) (v : A) → i < length xs → slice_get (slice_set xs i v) i ≡ Some v
set_same [] i v h = absurd (omega (arith, h))
set_same (x ∷ xs) zero v h = refl
set_same (x ∷ xs) (suc i) v h = set_same xs i v (omega (arith, h))

set_other : {A : Type 0} (xs : List A) (i j : ℕ) (v : A) → j ≢ i → slice_get (slice_set xs i v) j ≡ slice_get xs j
set_other [] i j v n = refl
set_other (x ∷ xs) zero zero v n = absurd (n refl)
set_other (x ∷ xs) zero (suc j) v n = refl
set_other (x ∷ xs) (suc i) zero v n = refl
set_other (x ∷ xs) (suc i) (suc j) v n = set_other xs i j v (λ e. n (omega (arith, e)))

push_other : {A : Type 0} (xs : List A) (x : A) (y : ℕ) → y ≢ length xs → slice_get (xs ++ x ∷ []) y ≡ slice_get xs y
push_other [] x zero n = absurd (n refl)
push_other [] x (suc y) n = refl
push_other (a ∷ xs) x zero n = refl
push_other (a ∷ xs) x (suc y) n = push_other xs x y (λ e. n (omega (arith, e)))

push_same : {A : Type 0} (xs : List A) (x : A) → slice_get (xs ++ x ∷ []) (length xs) ≡ Some x
push_same [] x = refl
push_same (a ∷ xs) x = push_same xs x

module _ {A : Type 0} (xs : List A) (i : ℕ) (v v' : A) (was : slice_get xs i ≡ Some v) where
  pub at_place : slice_get (slice_set xs i v') i ≡ Some v'
  at_place = set_same xs i v' (slice_get_within xs i v was)

  -- what holds at the place, and what holds elsewhere and stays
  pub by_place : (P : ℕ → Option A → Type 0) → P i (Some v') → ((y : ℕ) → y ≢ i → P y (slice_get xs y)) → (y : ℕ) → P y (slice_get (slice_set xs i v') y)
  by_place P here there y = dite (ℕ_discrete y i)
      (λ e. subst (λ z. P z (slice_get (slice_set xs i v') z)) (sym e) (subst (P i) (sym at_place) here))
      (λ n. subst (P y) (sym (set_other xs i y v' n)) (there y n))

  -- a fact that goes on at the place goes on everywhere
  pub goes_on : (P : Option A → Type 0) → (P (Some v) → P (Some v')) → (y : ℕ) → P (slice_get xs y) → P (slice_get (slice_set xs i v') y)
  goes_on P step = by_place (λ y o. P (slice_get xs y) → P o) (λ p. step (subst P was p)) (λ y n p. p)

-- one place more
pub by_push : {A : Type 0} (xs : List A) (v : A) (P : ℕ → Option A → Type 0) → P (length xs) (Some v) → ((y : ℕ) → y ≢ length xs → P y (slice_get xs y)) → (y : ℕ) → P y (slice_get (xs ++ v ∷ []) y)
by_push xs v P here there y = dite (ℕ_discrete y (length xs))
    (λ e. subst (λ z. P z (slice_get (xs ++ v ∷ []) z)) (sym e) (subst (P (length xs)) (sym (push_same xs v)) here))
    (λ n. subst (P y) (sym (push_other xs v y n)) (there y n))
