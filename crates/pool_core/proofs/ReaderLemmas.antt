-- Who reads a page, after one claim less.
use Rattle.std.proofs.Common.{◌≡◌, ℕ, zero, suc, Bool, true, false, cond, eqb, ltb, ◌<◌, List, [], ◌∷◌, length, get_or, Some, None, refl, ap, arith}
use Rattle.std.specs.Prelude.{remove, position}
use Rattle.std.specs.List.{position_or_len}
use Rattle.std.proofs.lemmas.List.Quantifiers.{position-Some}
use Rattle.std.proofs.lemmas.List.Sums.{fails_before_first}
use Rattle.std.proofs.lemmas.Bool.{ltb-false}
use Rattle.pool_core.specs.Readers.{without_one}

at_place : (actor : ℕ) (readers : List ℕ) (i : ℕ) → i < length readers → eqb (get_or readers i 0) actor ≡ true → ((k : ℕ) → k < i → eqb (get_or readers k 0) actor ≡ false) → without_one actor readers ≡ remove readers i
at_place actor [] i inside here before = absurd (omega arith)
at_place actor (x ∷ xs) zero inside here before = rw here refl
at_place actor (x ∷ xs) (suc i) inside here before =
    rw (before 0 (omega arith)) (ap (λ ys. x ∷ ys) (at_place actor xs i (omega arith) here (λ k below. before (suc k) (omega arith))))

nowhere : (actor : ℕ) (readers : List ℕ) → ((k : ℕ) → k < length readers → eqb (get_or readers k 0) actor ≡ false) → without_one actor readers ≡ readers
nowhere actor [] none = refl
nowhere actor (x ∷ xs) none = rw (none 0 (omega arith)) (ap (λ ys. x ∷ ys) (nowhere actor xs (λ k below. none (suc k) (omega arith))))

-- the first claim that is found goes
pub without-found : (actor : ℕ) (readers : List ℕ) (place : ℕ) → position (λ other. eqb other actor) readers ≡ Some place → without_one actor readers ≡ remove readers place
without-found actor readers place e =
    let h = position-Some (λ other. eqb other actor) readers place 0 e in
    at_place actor readers place h.0 h.1 h.2

none_beyond : (b : Bool) (n : ℕ) → cond b (Some n) None ≡ None → b ≡ false
none_beyond true n e = absurd (let h : ⊥ = cc in h)
none_beyond false n e = refl

-- where no claim is found, none goes
pub without-absent : (actor : ℕ) (readers : List ℕ) → position (λ other. eqb other actor) readers ≡ None → without_one actor readers ≡ readers
without-absent actor readers e =
    let p = λ (other : ℕ). eqb other actor in
    let long = ltb-false (position_or_len p readers) (length readers) (none_beyond (ltb (position_or_len p readers) (length readers)) (position_or_len p readers) e) in
    nowhere actor readers (λ k below. fails_before_first p readers k 0 (omega arith))
