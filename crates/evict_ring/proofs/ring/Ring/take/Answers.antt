use Rattle.std.proofs.Common.{rules, arith, ◌≡◌, ◌<◌, sym, ap, ◌∙◌, subst, refl, Some}
use Rattle.evict_ring.proofs.Keeps.{takes_turn}
use Rattle.evict_ring.proofs.Seated.{first_slot, took, counts, one_more, roomy}
use Rattle.atomic_table.specs.Seated.{TableId}
use Rattle.std.specs.Vec.{vec_capacity}
use Rattle.evict_ring.proofs.ring.Ring.take.Goals as goal

pub swap-found-requires : goal.swap-found-requires
swap-found-requires g c =
    let same : c.seat.inside.seat.me.0.about ≡ c.self.inside.table.shared.key.about.numbers = search rules in
    let lt : c.args.i < c.self.inside.table.shared.key.turns = search rules in
    (search rules, search rules, takes_turn g.T.TurnRule.holds c.self.inside.table.shared.key.about.numbers _ _ _ c.args.i _ same lt)

pub exchange-turn-requires : goal.exchange-turn-requires
exchange-turn-requires g c =
    let home : c.swap-found.result ≡ 0 = search rules in
    let p = c.swap-found.ensures.2.0 home in
    let e = p.2 in
    (search rules, (Some p.1, first_slot _ _ _ _ _ (ap (λ m. m.1) p.5) (omega (arith, e))))

pub push_reserved-requires : goal.push_reserved-requires
push_reserved-requires g c =
    let home : c.swap-found.result ≡ 0 = search rules in
    let p = c.swap-found.ensures.2.0 home in
    let same : c.seat.inside.seat.table_id ≡ c.self.inside.table.shared.table_id = search rules in
    let e = p.2 in
    let lt : c.args.i < c.self.inside.table.shared.table_id.slots = search rules in
    let below : p.0 < c.seat.inside.seat.table_id.slots = subst (λ (t : TableId). p.0 < t.slots) (sym same) (omega (arith, e, lt)) in
    let are = one_more _ _ _ _ p.0 refl c.seat.invariant.2 p.4 below (ap (λ m. m.0.held) p.5) in
    subst (λ n. n < vec_capacity c.seat.inside.out) (sym c.seat.inside.out.ok.0) (roomy _ _ _ c.seat.inside.out.items _ _ are (ap (λ m. m.0.held) p.5) c.seat.invariant.1 c.seat.invariant.3)

pub invariant_of-seat-2 : goal.invariant_of-seat-2
invariant_of-seat-2 g c =
    let home : c.swap-found.result ≡ 0 = search rules in
    let p = c.swap-found.ensures.2.0 home in
    let e = p.2 in
    let x = c.exchange-turn.ensures in
    let same : c.seat.inside.seat.table_id ≡ c.self.inside.table.shared.table_id = search rules in
    let lt : c.args.i < c.self.inside.table.shared.table_id.slots = search rules in
    let below : p.0 < c.seat.inside.seat.table_id.slots = subst (λ (t : TableId). p.0 < t.slots) (sym same) (omega (arith, e, lt)) in
    let slots = ap (λ (t : TableId). t.slots) (x.0 ∙ c.swap-found.ensures.0) in
    let o = c.push_reserved.ensures.items in
    let holds = ap (λ m. m.0.held) x.3 ∙ ap (λ m. m.0.held) p.5 in (
      took _ _ _ _ _ _ _ _ o c.seat.invariant.0 (ap (λ m. m.1) p.5) (ap (λ m. m.1) x.3),
      counts _ _ _ _ _ _ o c.seat.invariant.1 holds (omega (arith, e)),
      one_more _ _ _ _ p.0 slots c.seat.invariant.2 p.4 below holds,
      search rules,
    )
