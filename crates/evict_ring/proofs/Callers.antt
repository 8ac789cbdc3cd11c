-- What callers of take and give need: the turns that a seat holds, as a bag.
use Rattle.std.proofs.Common.{◌≡◌, ℕ, ◌+◌, ◌<◌, List, ◌∷◌, ap, ◌∙◌, subst, sym, arith, eq-eqb}
use Rattle.std.specs.Prelude.{cond}
use Rattle.number_bags.specs.Bags.{one_of, times, without}
use Rattle.number_bags.proofs.Bags.{one_same}

-- a turn just taken can be given back
pub held_first : (held xs : List ℕ) (i x : ℕ) → held ≡ i ∷ xs → x ≡ i → 0 < times held x
held_first held xs i x is same = subst (λ (h : List ℕ). 0 < times h x) (sym is) (subst (λ (j : ℕ). 0 < one_of j x + times xs x) same (omega (arith, one_same x)))

-- and then the seat holds what it held before
pub without_first : (held xs : List ℕ) (i x : ℕ) → held ≡ i ∷ xs → x ≡ i → without x held ≡ xs
without_first held xs i x is same = ap (without x) is ∙ ap (λ b. cond b xs (i ∷ without x xs)) (eq-eqb i x (sym same))
