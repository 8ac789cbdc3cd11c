-- Bags of one number, of lists put together, and of a list with a number left out.
use Rattle.std.proofs.Common.{◌≡◌, ◌≢◌, ℕ, ◌+◌, ◌<◌, ◌≤◌, Bool, true, false, List, [], ◌∷◌, ◌++◌, length, ap, refl, sym, subst, arith, eqb, eq-eqb, ne_eqb}
use Rattle.std.specs.Prelude.{cond}
use mathlib.Core.Logic.{dite}
use native.Mathlib.Decide.{ℕ_discrete}
use Rattle.number_bags.specs.Bags.{one_of, times, without}

pub one_same : (x : ℕ) → one_of x x ≡ 1
unfolding one_of
one_same x = ap (λ b. cond b 1 0) (eq-eqb x x refl)

pub one_other : (x y : ℕ) → y ≢ x → one_of x y ≡ 0
unfolding one_of
one_other x y other = ap (λ b. cond b 1 0) (ne_eqb x y (λ e. other (sym e)))

choice_most : (b : Bool) → cond b 1 0 ≤ 1
choice_most true = omega arith
choice_most false = omega arith

pub one_most : (x y : ℕ) → one_of x y ≤ 1
unfolding one_of
one_most x y = choice_most (eqb x y)

pub times_both : (xs ys : List ℕ) (y : ℕ) → times (xs ++ ys) y ≡ times xs y + times ys y
times_both [] ys y = omega arith
times_both (x ∷ xs) ys y = omega (arith, times_both xs ys y)

-- a choice by `y == x`, by its two cases
by_eq : (F : Bool → Type 0) (y x : ℕ) → (y ≡ x → F true) → (y ≢ x → F false) → F (eqb y x)
by_eq F y x hit miss = dite (ℕ_discrete y x) (λ e. subst F (sym (eq-eqb y x e)) (hit e)) (λ n. subst F (sym (ne_eqb y x n)) (miss n))

pub times_without : (x : ℕ) (ys : List ℕ) → 0 < times ys x → (z : ℕ) → times ys z ≡ times (without x ys) z + one_of x z
times_without x [] has z = absurd (omega (arith, has))
times_without x (y ∷ ys) has z = by_eq (λ b. one_of y z + times ys z ≡ times (cond b ys (y ∷ without x ys)) z + one_of x z) y x
    (λ e. let k : one_of y z ≡ one_of x z = ap (λ n. one_of n z) e in omega (arith, k))
    (λ n. let k = times_without x ys (omega (arith, has, one_other y x (λ e. n (sym e)))) z in omega (arith, k))

pub length_without : (x : ℕ) (ys : List ℕ) → 0 < times ys x → length ys ≡ length (without x ys) + 1
length_without x [] has = absurd (omega (arith, has))
length_without x (y ∷ ys) has = by_eq (λ b. length (y ∷ ys) ≡ length (cond b ys (y ∷ without x ys)) + 1) y x
    (λ e. omega arith)
    (λ n. let k = length_without x ys (omega (arith, has, one_other y x (λ e. n (sym e)))) in omega (arith, k))
