-- Two turns, of which the one taken first is given back first.
use Rattle.std.proofs.Common.{◌≡◌, ◌≢◌, ℕ, ◌<◌, List, ◌∷◌, ap, ◌∙◌, subst, sym, refl, arith, ne_eqb}
use Rattle.std.specs.Prelude.{cond}
use Rattle.number_bags.specs.Bags.{times, without}
use Rattle.evict_ring.proofs.Callers.{held_first, without_first}

pub held_second : (held xs : List ℕ) (j i x : ℕ) → held ≡ j ∷ i ∷ xs → x ≡ i → 0 < times held x
held_second held xs j i x is same = let h = held_first (i ∷ xs) xs i x refl same in subst (λ (h : List ℕ). 0 < times h x) (sym is) (omega (arith, h))

pub without_second : (held xs : List ℕ) (j i x : ℕ) → held ≡ j ∷ i ∷ xs → x ≡ i → i ≢ j → without x held ≡ j ∷ xs
without_second held xs j i x is same apart = ap (without x) is ∙ ap (λ b. cond b (i ∷ xs) (j ∷ without x (i ∷ xs))) (ne_eqb j x (λ e. apart (sym (e ∙ same)))) ∙ ap (λ (l : List ℕ). j ∷ l) (without_first (i ∷ xs) xs i x refl same)
