-- A list with one item more at its end, by place.
use Rattle.std.proofs.Common.{⊎_elim, ◌⊎◌, ◌≡◌, ℕ, List, [], ◌∷◌, ◌++◌, length, suc, zero, refl, ap, Some, inl, inr}
use Rattle.std.specs.Prelude.{slice_get}

pub get_front : {A : Type 0} (xs : List A) (x : A) (i : ℕ) (y : A) → slice_get xs i ≡ Some y → slice_get (xs ++ x ∷ []) i ≡ Some y
get_front [] x i y is = absurd (cc is)
get_front (z ∷ zs) x zero y is = is
get_front (z ∷ zs) x (suc i) y is = get_front zs x i y is

pub get_end : {A : Type 0} (xs : List A) (x : A) → slice_get (xs ++ x ∷ []) (length xs) ≡ Some x
get_end [] x = refl
get_end (z ∷ zs) x = get_end zs x

pub get_snoc : {A : Type 0} (xs : List A) (x : A) (i : ℕ) (y : A) → slice_get (xs ++ x ∷ []) i ≡ Some y → (slice_get xs i ≡ Some y) ⊎ ((i ≡ length xs) × (y ≡ x))
get_snoc [] x zero y is = inr (refl, cc is)
get_snoc [] x (suc i) y is = absurd (cc is)
get_snoc (z ∷ zs) x zero y is = inl is
get_snoc (z ∷ zs) x (suc i) y is = ⊎_elim (λ a. inl a) (λ b. inr (ap suc b.0, b.1)) (get_snoc zs x i y is)
