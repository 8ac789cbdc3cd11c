use Rattle.std.proofs.Common.{false, ◌≡◌, ◌∷◌, rules, ap, sym, ◌∙◌, arith, None, Some}
use Rattle.std.specs.Prelude.{slice_get}
use Rattle.atomic_table.specs.Table.{rest}
use Rattle.claim_counter.proofs.HandKeeps.{draws, gives_back, drawn_last, same_first, item_at}
use Rattle.claim_counter.proofs.hand.Hand.draw_item.Goals as goal

pub fetch_add-n-requires : goal.fetch_add-n-requires
fetch_add-n-requires g c =
    let going : c.seat.inside.ended ≡ false = search rules in
    (search rules, search rules, draws _ _ _ _ c.seat.invariant.3 (c.seat.invariant.2 ∙ going))

pub load-requires : goal.load-requires
load-requires g c =
    let inv = c.seat.invariant in
    let d = c.fetch_add-n.ensures.2.0 (search rules) in
    let x = c.exchange-item.ensures.3 in
    let p = ap (λ m. m.0.parts) x ∙ ap (λ m. m.0.parts) d.2 in (
      search rules,
      search rules,
      gives_back _ _ _ c.fetch_add-n.result _ (omega (arith, p, inv.3)) (search rules)
          (ap (λ m. m.0.out) x ∙ (ap (λ m. m.0.out) d.2 ∙ ap (λ ns. c.fetch_add-n.result ∷ ns) inv.1))
          (ap (λ m. m.1) x ∙ (ap (λ m. (c.fetch_add-n.result, None) ∷ rest m.1) d.2 ∙ ap (λ l. (c.fetch_add-n.result, None) ∷ l) inv.0))
          (drawn_last c.fetch_add-n.result _ _ (ap (λ m. m.0.draws) x ∙ ap (λ m. m.0.draws) d.2)),
    )

pub exchange-item-requires : goal.exchange-item-requires
exchange-item-requires g c =
    let d = c.fetch_add-n.ensures.2.0 (search rules) in
    let e = ap (λ m. m.1) d.2 in
    (search rules, (Some d.0, e ∙ ap (λ l. (c.fetch_add-n.result, Some d.0) ∷ l) (sym (ap rest e))))

pub returns-in-Some-clause-some : goal.returns-in-Some-clause-some
returns-in-Some-clause-some g c =
    let d = c.fetch_add-n.ensures.2.0 (search rules) in
    let e = same_first _ _ _ _ _ _ _ (ap (λ m. m.1) d.2) c.exchange-item.ensures.2 in
    (search rules, ap (λ xs. slice_get xs c.fetch_add-n.result) (sym c.requires.own.1 ∙ sym (ap (λ s. s.items) c.seat.view_is)) ∙ item_at c.seat.inside.seat.me.0.items c.fetch_add-n.result d.0 d.1 ∙ e ∙ c.in-Some.is)
