use Rattle.std.proofs.Common.{rules, ℕ, ◌<◌, ap, sym, ◌∙◌, subst}
use lib.ListN.{get_elem?}
use Rattle.claim_counter.proofs.Taking.{take_next, emptied, others}
use Rattle.claim_counter.proofs.places.take_all.Goals as goal

pub loop-i-preserved : goal.loop-i-preserved
loop-i-preserved g c =
    let inv = c.loop-i.invariant in
    let o = c.take-value.ensures.others in (
      o.0 ∙ inv.0,
      o.2 ∙ inv.1,
      c.push_reserved.ensures.capacity ∙ inv.2,
      search rules,
      c.push_reserved.ensures.items ∙ take_next _ _ _ _ (ap (λ xs. get_elem? xs c.loop-i.i) (sym inv.0) ∙ c.take-value.ensures.value) inv.4,
      emptied _ _ _ o.1 (search rules) inv.5,
      (λ k le lt. others _ _ _ _ o.1 inv.6 k le (subst (λ (n : ℕ). k < n) o.2 lt)),
    )
