-- A list with one element put in, at a place that is there or at its end.
use Rattle.std.proofs.Common.{◌≡◌, ◌≢◌, ℕ, zero, suc, List, [], ◌∷◌, ◌++◌, length, Option, Some, None, refl, sym, ap, subst, inl, inr, ◌∙◌}
use Rattle.std.specs.Prelude.{slice_get, slice_set, IsSomeAnd}
use Rattle.std.proofs.lemmas.Bool.{cases_eq}

pub record Puts {A : Type 0} (old new : List A) (place : ℕ) (value : A) : Type 0 where
  pub there : slice_get new place ≡ Some value
  pub others : (k : ℕ) → k ≢ place → slice_get new k ≡ slice_get old k

set_same : {A : Type 0} (xs : List A) (i : ℕ) (x v : A) → slice_get xs i ≡ Some x → slice_get (slice_set xs i v) i ≡ Some v
set_same [] i x v e = absurd (let h : ⊥ = cc in h)
set_same (y ∷ ys) zero x v e = refl
set_same (y ∷ ys) (suc i) x v e = set_same ys i x v e

set_other : {A : Type 0} (xs : List A) (i k : ℕ) (v : A) → k ≢ i → slice_get (slice_set xs i v) k ≡ slice_get xs k
set_other [] i k v ne = refl
set_other (y ∷ ys) zero zero v ne = absurd (ne refl)
set_other (y ∷ ys) zero (suc k) v ne = refl
set_other (y ∷ ys) (suc i) zero v ne = refl
set_other (y ∷ ys) (suc i) (suc k) v ne = set_other ys i k v (λ e. ne (ap suc e))

pub puts_set : {A : Type 0} (xs : List A) (i : ℕ) (x v : A) → slice_get xs i ≡ Some x → Puts xs (slice_set xs i v) i v
puts_set xs i x v e = record { there = set_same xs i x v e; others = λ k ne. set_other xs i k v ne }

push_same : {A : Type 0} (xs : List A) (v : A) → slice_get (xs ++ v ∷ []) (length xs) ≡ Some v
push_same [] v = refl
push_same (y ∷ ys) v = push_same ys v

push_other : {A : Type 0} (xs : List A) (k : ℕ) (v : A) → k ≢ length xs → slice_get (xs ++ v ∷ []) k ≡ slice_get xs k
push_other [] zero v ne = absurd (ne refl)
push_other [] (suc k) v ne = refl
push_other (y ∷ ys) zero v ne = refl
push_other (y ∷ ys) (suc k) v ne = push_other ys k v (λ e. ne (ap suc e))

pub puts_push : {A : Type 0} (xs : List A) (v : A) → Puts xs (xs ++ v ∷ []) (length xs) v
puts_push xs v = record { there = push_same xs v; others = λ k ne. push_other xs k v ne }

-- what holds of each element
pub each_put : {A : Type 0} (old new : List A) (place : ℕ) (v : A) (P : ℕ → A → Type 0) → Puts old new place v → P place v → ((k : ℕ) (x : A) → k ≢ place → slice_get old k ≡ Some x → P k x) → (k : ℕ) (x : A) → slice_get new k ≡ Some x → P k x
each_put old new place v P put here others k x e =
    elim (cases_eq k place) [
      | inl same ↦ let there = put.there in let is : v ≡ x = cc in subst (λ j. P j x) (sym same) (subst (P place) is here)
      | inr ne ↦ others k x ne (sym (put.others k ne) ∙ e)
    ]

-- what holds of an element that is there
pub at_some : {A : Type 0} (o : Option A) (P : A → Type 0) (x : A) → o ≡ Some x → P x → IsSomeAnd o P
at_some o P x e h = rw e h

pub of_some : {A : Type 0} (o : Option A) (P : A → Type 0) (x : A) → o ≡ Some x → IsSomeAnd o P → P x
of_some o P x e h = rw e at h

pub some_of : {A : Type 0} (o : Option A) (P : A → Type 0) → IsSomeAnd o P → (x : A) × (o ≡ Some x) × P x
some_of None P h = absurd h
some_of (Some x) P h = (x, refl, h)

pub on_put : {A : Type 0} (old new : List A) (place : ℕ) (v : A) (k : ℕ) (P Q : A → Type 0) → Puts old new place v → IsSomeAnd (slice_get old k) P → ((x : A) → k ≡ place → slice_get old place ≡ Some x → P x → Q v) → ((x : A) → k ≢ place → P x → Q x) → IsSomeAnd (slice_get new k) Q
on_put old new place v k P Q put h here others =
    let some = some_of (slice_get old k) P h in
    elim (cases_eq k place) [
      | inl same ↦ at_some (slice_get new k) Q v (ap (slice_get new) same ∙ put.there) (here some.0 same (ap (slice_get old) (sym same) ∙ some.1) some.2)
      | inr ne ↦ at_some (slice_get new k) Q some.0 (put.others k ne ∙ some.1) (others some.0 ne some.2)
    ]

pub same_at : {A : Type 0} (o : Option A) (x y : A) → o ≡ Some x → o ≡ Some y → x ≡ y
same_at o x y e f = cc
