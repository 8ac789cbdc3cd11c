-- Lists that a function makes of 0, 1, .. below a number, and the first element that passes a test.
use Rattle.std.proofs.Common.{◌≡◌, ℕ, zero, suc, ◌+◌, ◌<◌, ◌≤◌, Bool, true, false, cond, List, [], ◌∷◌, ◌++◌, length, get_or, set, map, Option, Some, None, ◌⊎◌, inl, inr, refl, ap, ◌∙◌, arith}
use Rattle.std.specs.Prelude.{find}
use Rattle.std.specs.List.{range_with_len, flat_map}

map_from : {X : Type 0} (f g : ℕ → X) (a n : ℕ) → ((k : ℕ) → a ≤ k → k < a + n → f k ≡ g k) → map f (range_with_len a n) ≡ map g (range_with_len a n)
map_from f g a zero h = refl
map_from f g a (suc n) h =
    ap (λ x. x ∷ map f (range_with_len (a + 1) n)) (h a (omega arith) (omega arith)) ∙ ap (λ xs. g a ∷ xs) (map_from f g (a + 1) n (λ k low high. h k (omega arith) (omega arith)))

pub map_same : {X : Type 0} (f g : ℕ → X) (n : ℕ) → ((k : ℕ) → k < n → f k ≡ g k) → map f (range_with_len 0 n) ≡ map g (range_with_len 0 n)
map_same f g n h = map_from f g 0 n (λ k low high. h k (omega arith))

flat_from : {X : Type 0} (F G : ℕ → List X) (a n : ℕ) → ((k : ℕ) → a ≤ k → k < a + n → F k ≡ G k) → flat_map F (range_with_len a n) ≡ flat_map G (range_with_len a n)
flat_from F G a zero h = refl
flat_from F G a (suc n) h =
    ap (λ xs. xs ++ flat_map F (range_with_len (a + 1) n)) (h a (omega arith) (omega arith)) ∙ ap (λ xs. G a ++ xs) (flat_from F G (a + 1) n (λ k low high. h k (omega arith) (omega arith)))

pub flat_map_same : {X : Type 0} (F G : ℕ → List X) (n : ℕ) → ((k : ℕ) → k < n → F k ≡ G k) → flat_map F (range_with_len 0 n) ≡ flat_map G (range_with_len 0 n)
flat_map_same F G n h = flat_from F G 0 n (λ k low high. h k (omega arith))

-- the first that passes, where the ones before don't
pub find_at : {X : Type 0} (p : X → Bool) (xs : List X) (k : ℕ) (d : X) → k < length xs → ((j : ℕ) → j < k → p (get_or xs j d) ≡ false) → p (get_or xs k d) ≡ true → find p xs ≡ Some (get_or xs k d)
find_at p [] k d inside before here = absurd (omega arith)
find_at p (x ∷ xs) zero d inside before here = rw here
find_at p (x ∷ xs) (suc k) d inside before here = rw (before 0 (omega arith)) (find_at p xs k d (omega arith) (λ j less. before (suc j) (omega arith)) here)

pub find_none : {X : Type 0} (p : X → Bool) (xs : List X) (d : X) → ((j : ℕ) → j < length xs → p (get_or xs j d) ≡ false) → find p xs ≡ None
find_none p [] d none = refl
find_none p (x ∷ xs) d none = rw (none 0 (omega arith)) (find_none p xs d (λ j less. none (suc j) (omega arith)))

-- more behind a list in which one passes
pub find_front : {X : Type 0} (p : X → Bool) (xs ys : List X) (k : ℕ) (d : X) → k < length xs → p (get_or xs k d) ≡ true → find p (xs ++ ys) ≡ find p xs
find_front p [] ys k d inside here = absurd (omega arith)
find_front p (x ∷ xs) ys zero d inside here = rw here
find_front p (x ∷ xs) ys (suc k) d inside here = ap (cond (p x) (Some x)) (find_front p xs ys k d (omega arith) here)

kept : {X : Type 0} (p : X → Bool) (x : X) (old new : Option X) (was now : X) → (new ≡ old) ⊎ ((old ≡ Some was) × (new ≡ Some now)) → (cond (p x) (Some x) new ≡ cond (p x) (Some x) old) ⊎ ((cond (p x) (Some x) old ≡ Some was) × (cond (p x) (Some x) new ≡ Some now))
kept p x old new was now h = by_test (p x) (Some x) old new was now h
  where
    by_test : {X : Type 0} (b : Bool) (first old new : Option X) (was now : X) → (new ≡ old) ⊎ ((old ≡ Some was) × (new ≡ Some now)) → (cond b first new ≡ cond b first old) ⊎ ((cond b first old ≡ Some was) × (cond b first new ≡ Some now))
    by_test true first old new was now h = inl refl
    by_test false first old new was now h = h

-- an element that passes is replaced by one that passes: the first stays, or was that element and is now the other
pub find_set : {X : Type 0} (p : X → Bool) (xs : List X) (k : ℕ) (y d : X) → k < length xs → p (get_or xs k d) ≡ true → p y ≡ true → (find p (set xs k y) ≡ find p xs) ⊎ ((find p xs ≡ Some (get_or xs k d)) × (find p (set xs k y) ≡ Some y))
find_set p [] k y d inside here there = absurd (omega arith)
find_set p (x ∷ xs) zero y d inside here there = inr (rw here, rw there)
find_set p (x ∷ xs) (suc k) y d inside here there = kept p x (find p xs) (find p (set xs k y)) (get_or xs k d) y (find_set p xs k y d (omega arith) here there)
