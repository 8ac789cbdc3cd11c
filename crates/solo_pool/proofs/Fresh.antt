-- The tables of a pool that was just opened.
use Rattle.std.proofs.Common.{◌≡◌, ℕ, List, [], ◌∷◌, ◌++◌, length, suc, zero, refl, sym, ap, ◌∙◌, subst, arith, Some}
use Rattle.std.specs.Prelude.{slice_index, sum, replicate}
use Rattle.page_body.proofs.Places.{by_push}
use Rattle.solo_pool.specs.declared.entry.Place.{Place}
use Rattle.solo_pool.specs.declared.entry.Place.TheVariants.{Spare, Open, Owned}
use Rattle.solo_pool.specs.Spares.{IsSpare, AllSpare}
use Rattle.solo_pool.specs.Sound.{Sound}
use Rattle.solo_pool.specs.Writes.{Paid}
use Rattle.solo_pool.specs.Sums.{sum_step}

pub none_spare : (page : ℕ) → AllSpare page []
none_spare page i p at = absurd (cc at)

pub one_spare : (page : ℕ) (ps : List Place) (p : Place) → AllSpare page ps → IsSpare page (length ps) p → AllSpare page (ps ++ p ∷ [])
one_spare page ps p all is i q at = by_push ps p (λ y o. (q : Place) → o ≡ Some q → IsSpare page y q) (λ r e. let same : p ≡ r = cc e in subst (IsSpare page (length ps)) same is) (λ y n r e. all y r e) i q at

zeros_sum : (n : ℕ) → sum (replicate n 0) ≡ 0
zeros_sum zero = refl
zeros_sum (suc n) = let a = zeros_sum n in omega (arith, a, sum_step 0 (replicate n 0))

zeros_at : (n i : ℕ) → slice_index (replicate n 0) i ≡ 0
zeros_at zero i = refl
zeros_at (suc n) zero = refl
zeros_at (suc n) (suc i) = zeros_at n i

zeros_length : (n : ℕ) → length {A = ℕ} (replicate n 0) ≡ n
zeros_length zero = refl
zeros_length (suc n) = ap suc (zeros_length n)

module _ (page n : ℕ) (ps : List Place) (us : List ℕ) (long : length ps ≡ n) (all : AllSpare page ps) (zeros : us ≡ replicate n 0) where
  pub fresh_sound : Sound page [] ps us 0
  fresh_sound = record {
    long = ap length zeros ∙ zeros_length n ∙ sym long;
    total = sym (ap sum zeros ∙ zeros_sum n);
    owned = λ x f at. absurd (cc at);
    full = λ x f at. absurd (cc at);
    backed = λ i x at. absurd (all i (Owned x) at);
    spare = λ i f at. (all i (Spare f) at).0;
    spare_full = λ i f at. (all i (Spare f) at).1;
    idle = λ i f at. ap (λ z. slice_index z i) zeros ∙ zeros_at n i;
    opened = λ i at. absurd (all i Open at);
  }

pub fresh_paid : Paid [] 0 0
fresh_paid = record { most = omega arith; tickets = λ l. omega arith; once = λ l. omega arith }
