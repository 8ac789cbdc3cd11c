use Rattle.std.proofs.Common.{rules, arith, ◌≡◌, ℕ, ◌-◌, ◌<◌, ◌∷◌, sym, ap, ◌∙◌, Some, None, refl, subst, length}
use Rattle.std.specs.Prelude.{slice_index}
use Rattle.atomic_table.specs.Table.{rest}
use Rattle.number_bags.specs.Bags.{times, without}
use Rattle.evict_ring.specs.Spun.{pairs}
use Rattle.evict_ring.specs.declared.rule.View.{View}
use Rattle.evict_ring.proofs.Keeps.{gives_turn}
use Rattle.evict_ring.proofs.Seated.{fronted, backed, times_left, one_less, held_below}
use Rattle.atomic_table.specs.Seated.{TableId}
use Rattle.evict_ring.proofs.ring.Ring.give.Goals as goal

pub exchange-requires : goal.exchange-requires
exchange-requires g c =
    let at : c.place_of-place.result < length c.seat.inside.out.items = search rules in
    let is : slice_index c.seat.inside.out.items c.place_of-place.result ≡ c.args.turn.frame = search rules in
    let b : c.len.result - 1 - c.place_of-place.result ≡ length c.seat.inside.out.items - 1 - c.place_of-place.result = search rules in
    let f = fronted c.seat.inside.out.items c.place_of-place.result c.args.turn.frame _ _ _ at is b c.seat.invariant.0 (ap (λ m. m.1) c.spin.ensures.me) in
    (search rules, (None, f ∙ ap (λ l. (c.args.turn.frame, None) ∷ l) (sym (ap rest f))))

pub swap-requires : goal.swap-requires
swap-requires g c =
    let i = c.args.turn.frame in
    let e = ap (λ m. m.1) c.exchange.ensures.3 in
    let pm : c.exchange.new.seat.me.0 ≡ c.seat.inside.seat.me.0 = ap (λ m. m.0) c.exchange.ensures.3 ∙ ap (λ m. m.0) c.spin.ensures.me in
    let had : 0 < times c.seat.inside.seat.me.0.held i = search rules in
    let has : 0 < times c.exchange.new.seat.me.0.held i = subst (λ (v : View). 0 < times v.held i) (sym pm) had in
    let all : c.self.inside.table.shared.table_id.slots ≡ c.self.inside.table.shared.key.turns = search rules in
    let one_table : c.seat.inside.seat.table_id ≡ c.self.inside.table.shared.table_id = search rules in
    let lt : i < c.self.inside.table.shared.key.turns = subst (λ n. i < n) all (subst (λ (t : TableId). i < t.slots) one_table (held_below _ _ _ c.seat.invariant.2 had)) in
    let fits : g.T.TurnRule.holds c.self.inside.table.shared.key.about.numbers c.args.turn = search rules in
    (search rules, search rules, gives_turn _ _ _ _ i c.exchange.new.seat.me c.args.turn lt all refl fits (e ∙ ap (λ l. (i, Some c.args.turn) ∷ l) (sym (ap rest e))) has)

pub invariant_of-seat : goal.invariant_of-seat
invariant_of-seat g c =
    let i = c.args.turn.frame in
    let out = c.seat.inside.out.items in
    let at : c.place_of-place.result < length c.seat.inside.out.items = search rules in
    let is : slice_index c.seat.inside.out.items c.place_of-place.result ≡ c.args.turn.frame = search rules in
    let b : c.len.result - 1 - c.place_of-place.result ≡ length c.seat.inside.out.items - 1 - c.place_of-place.result = search rules in
    let f = fronted c.seat.inside.out.items c.place_of-place.result c.args.turn.frame _ _ _ at is b c.seat.invariant.0 (ap (λ m. m.1) c.spin.ensures.me) in
    let pm : c.exchange.new.seat.me.0 ≡ c.seat.inside.seat.me.0 = ap (λ m. m.0) c.exchange.ensures.3 ∙ ap (λ m. m.0) c.spin.ensures.me in
    let had : 0 < times c.seat.inside.seat.me.0.held i = search rules in
    let gave = c.swap.ensures.2 in
    let num = gave.1 in
    let same : gave.0 ≡ i = omega (arith, num) in
    let o = ap (λ m. m.1) gave.2 ∙ ap rest (ap (λ m. m.1) c.exchange.ensures.3) ∙ ap rest f in
    let hp = ap (λ m. m.0.held) c.spin-2.ensures.me ∙ ap (λ m. m.0.held) gave.2 ∙ ap (λ (j : ℕ). without j c.exchange.new.seat.me.0.held) same ∙ ap (λ (v : View). without i v.held) pm in
    let one_table : c.spin-2.new.seat.table_id ≡ c.seat.inside.seat.table_id = search rules in
    let different = one_less _ _ _ _ i (ap (λ (t : TableId). t.slots) one_table) c.seat.invariant.2 had hp in (
      backed out c.place_of-place.result _ _ at o (ap (λ m. m.1) c.spin-2.ensures.me) ∙ ap pairs (sym c.remove.ensures.items),
      (λ x. ap (λ l. times l x) c.remove.ensures.items ∙ times_left out c.seat.inside.seat.me.0.held c.place_of-place.result i at is c.seat.invariant.1 had x ∙ ap (λ l. times l x) (sym hp)),
      different,
      search rules,
    )
