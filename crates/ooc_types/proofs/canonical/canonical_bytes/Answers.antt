use Rattle.std.proofs.Common.{◌≡◌, ℕ, suc, List, ◌∷◌, ◌++◌, drop, get_or, rules, arith, subst, sym, ap, ◌∙◌, length, ◌<◌, ◌+◌, add-one, drop-cons, append_assoc}
use Rattle.std.proofs.lemmas.List.{get_or_default}
use borrow.Author.Count.{below_more}
use Rattle.ooc_types.specs.declared.value.Value.{Value}
use Rattle.ooc_types.specs.Canonical.{value_bytes, canonical}
use Rattle.ooc_types.specs.Keys.{IsHeld}
use Rattle.ooc_types.proofs.canonical.canonical_bytes.Goals as goal

one_more : (key : List Value) (i : ℕ) (v : Value) (old new all : List ℕ) → i < length key → v ≡ get_or key i v → new ≡ old ++ value_bytes v → old ++ canonical (drop i key) ≡ all → new ++ canonical (drop (i + 1) key) ≡ all
one_more key i v old new all inside is added so_far =
    let front : drop i key ≡ v ∷ drop (i + 1) key = rw add-one (drop-cons key i v inside ∙ ap (λ x. x ∷ drop (suc i) key) (sym is)) in
    ap (λ x. x ++ canonical (drop (i + 1) key)) added ∙ append_assoc old (value_bytes v) (canonical (drop (i + 1) key)) ∙ sym (ap (λ l. old ++ canonical l) front) ∙ so_far

pub loop-value-preserved : goal.loop-value-preserved
loop-value-preserved c =
    let inside : c.loop-value.value-index < length c.args.key.now = omega arith in
    record {
      held = below_more _ _ c.loop-value.invariant.held (λ d. subst IsHeld (c.value-item.is ∙ get_or_default c.args.key.now c.loop-value.value-index c.value-item.result d inside) c.push_value.ensures.held);
      bytes = one_more c.args.key.now c.loop-value.value-index c.value-item.result _ _ _ inside c.value-item.is c.in_ok-push_value.ensures.bytes c.loop-value.invariant.bytes;
    }

pub returns-clause-held : goal.returns-clause-held
returns-clause-held c k d h = c.loop-value.invariant.held k (omega arith) d
