-- A list whose numbers stand at most so often as they may is at most as long as all that may stand.
use Rattle.std.proofs.Common.{◌≡◌, ◌≢◌, ℕ, ◌+◌, ◌-◌, ◌<◌, ◌≤◌, zero, suc, List, [], ◌∷◌, length, refl, sym, subst, arith}
use Rattle.std.specs.Prelude.{slice_index, slice_set, sum, replicate}
use Rattle.std.proofs.lemmas.List.Sums.{sum_by-cons}
use Rattle.std.proofs.Math.Decide.{dec_le}
use Rattle.std.proofs.Math.Nat.{lt_of_not-le}
use mathlib.Core.Logic.{dite}
use native.Mathlib.Decide.{ℕ_discrete}
use Rattle.number_bags.specs.Bags.{one_of, times}
use Rattle.number_bags.proofs.Bags.{one_same, one_other}

sum_step : (u : ℕ) (us : List ℕ) → sum (u ∷ us) ≡ u + sum us
sum_step u us = sum_by-cons (λ y. y) u us

index_within : (us : List ℕ) (i : ℕ) → 0 < slice_index us i → i < length us
index_within [] i h = absurd (omega (arith, h))
index_within (u ∷ us) zero h = omega arith
index_within (u ∷ us) (suc i) h = let k = index_within us i h in omega (arith, k)

set_same : (us : List ℕ) (i v : ℕ) → i < length us → slice_index (slice_set us i v) i ≡ v
set_same [] i v h = absurd (omega (arith, h))
set_same (u ∷ us) zero v h = refl
set_same (u ∷ us) (suc i) v h = set_same us i v (omega (arith, h))

set_other : (us : List ℕ) (i j v : ℕ) → j ≢ i → slice_index (slice_set us i v) j ≡ slice_index us j
set_other [] i j v n = refl
set_other (u ∷ us) zero zero v n = absurd (n refl)
set_other (u ∷ us) zero (suc j) v n = refl
set_other (u ∷ us) (suc i) zero v n = refl
set_other (u ∷ us) (suc i) (suc j) v n = set_other us i j v (λ e. n (omega (arith, e)))

sum_set : (us : List ℕ) (i v : ℕ) → i < length us → sum (slice_set us i v) + slice_index us i ≡ sum us + v
sum_set [] i v h = absurd (omega (arith, h))
sum_set (u ∷ us) zero v h = omega (arith, sum_step u us, sum_step v us)
sum_set (u ∷ us) (suc i) v h = let k = sum_set us i v (omega (arith, h)) in omega (arith, k, sum_step u us, sum_step u (slice_set us i v))

pub among : (ks us : List ℕ) → ((y : ℕ) → times ks y ≤ slice_index us y) → length ks ≤ sum us
among [] us h = omega arith
among (k ∷ ks) us h =
    let here = h k in
    let some : 0 < slice_index us k = omega (arith, here, one_same k) in
    let within = index_within us k some in
    let rest : (y : ℕ) → times ks y ≤ slice_index (slice_set us k (slice_index us k - 1)) y = λ y. dite (ℕ_discrete y k)
    (λ e. subst (λ z. times ks z ≤ slice_index (slice_set us k (slice_index us k - 1)) z) (sym e) (let a = set_same us k (slice_index us k - 1) within in omega (arith, a, here, one_same k)))
    (λ n. let a = set_other us k y (slice_index us k - 1) n in let b = h y in omega (arith, a, b, one_other k y n)) in
    let less = among ks (slice_set us k (slice_index us k - 1)) rest in
    omega (arith, less, sum_set us k (slice_index us k - 1) within, some)

abbrev ones : ℕ → List ℕ
ones zero = []
ones (suc n) = 1 ∷ ones n

ones_sum : (n : ℕ) → sum (ones n) ≡ n
ones_sum zero = refl
ones_sum (suc n) = let k = ones_sum n in omega (arith, k, sum_step 1 (ones n))

ones_at : (n i : ℕ) → i < n → slice_index (ones n) i ≡ 1
ones_at zero i h = absurd (omega (arith, h))
ones_at (suc n) zero h = refl
ones_at (suc n) (suc i) h = ones_at n i (omega (arith, h))

pub few_below : (xs : List ℕ) (bound : ℕ) → ((y : ℕ) → times xs y ≤ 1) → ((y : ℕ) → bound ≤ y → times xs y ≡ 0) → length xs ≤ bound
few_below xs bound once none =
    let may : (y : ℕ) → times xs y ≤ slice_index (ones bound) y = λ y. dite (dec_le bound y)
    (λ past. let k = none y past in omega (arith, k))
    (λ n. let k = ones_at bound y (lt_of_not-le n) in let o = once y in omega (arith, k, o)) in
    let k = among xs (ones bound) may in omega (arith, k, ones_sum bound)
