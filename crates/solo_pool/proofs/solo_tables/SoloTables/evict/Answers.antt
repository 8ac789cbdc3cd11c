use Rattle.std.proofs.Common.{rules, arith, ◌≡◌, ◌≤◌, ◌+◌, subst, sym, length-set}
use Rattle.page_body.specs.Bodies.{CanRest, writes_to_rest}
use Rattle.page_body.specs.Stands.{StandsFor}
use Rattle.solo_pool.specs.declared.entry.Entry.{Entry}
use Rattle.solo_pool.specs.declared.entry.Place.TheVariants.{Open}
use Rattle.solo_pool.proofs.Evict.{out_within, out_slot, out_use, out_resident, out_page, out_same, out_number, out_full, out_opened, out_others, out_paid}
use Rattle.solo_pool.proofs.solo_tables.SoloTables.evict.Goals as goal

pub index-requires : goal.index-requires
index-requires g c = let k = out_within g.L.Mark.TicketMark.tells c.args.i c.args.at c.args.self.now.page c.args.self.now.held c.args.self.now.entries.items c.args.self.now.places.items c.args.self.now.uses.items c.args.self.now.sound c.requires.place in search rules

pub spill-requires-clause-resident : goal.spill-requires-clause-resident
spill-requires-clause-resident g c = out_resident g.L.Mark.TicketMark.tells c.args.i c.args.at c.args.self.now.page c.args.self.now.held c.args.self.now.entries.items c.args.self.now.places.items c.args.self.now.uses.items c.args.self.now.sound c.requires.place c.index.result.now c.index.ensures

pub spill-requires-clause-page : goal.spill-requires-clause-page
spill-requires-clause-page g c = out_page g.L.Mark.TicketMark.tells c.args.i c.args.at c.args.self.now.page c.args.self.now.held c.args.self.now.entries.items c.args.self.now.places.items c.args.self.now.uses.items c.args.self.now.sound c.requires.place c.args.self.now.page_fits c.index.result.now c.index.ensures

pub index_mut-requires : goal.index_mut-requires
index_mut-requires g c = let k = out_within g.L.Mark.TicketMark.tells c.args.i c.args.at c.args.self.now.page c.args.self.now.held c.args.self.now.entries.items c.args.self.now.places.items c.args.self.now.uses.items c.args.self.now.sound c.requires.place in search rules

pub rest-frame-requires : goal.rest-frame-requires
rest-frame-requires g c = (subst (λ (z : Entry). CanRest z.body c.in_ok-given.given) (out_same g.L.Mark.TicketMark.tells c.args.i c.args.at c.args.self.now.page c.args.self.now.held c.args.self.now.entries.items c.args.self.now.places.items c.args.self.now.uses.items c.args.self.now.sound c.requires.place c.index.result.now c.index_mut.result.now c.index.ensures c.index_mut.ensures.value) c.in_ok-given.ensures.ready)

pub index_mut-requires-2 : goal.index_mut-requires-2
index_mut-requires-2 g c = let k = out_slot g.L.Mark.TicketMark.tells c.args.i c.args.at c.args.self.now.page c.args.self.now.held c.args.self.now.entries.items c.args.self.now.places.items c.args.self.now.uses.items c.args.self.now.sound c.requires.place in search rules

pub index_mut-requires-3 : goal.index_mut-requires-3
index_mut-requires-3 g c = let k = out_use g.L.Mark.TicketMark.tells c.args.i c.args.at c.args.self.now.page c.args.self.now.held c.args.self.now.entries.items c.args.self.now.places.items c.args.self.now.uses.items c.args.self.now.sound c.requires.place in search rules

pub invariant_of-self-2-clause-sound : goal.invariant_of-self-2-clause-sound
invariant_of-self-2-clause-sound g c = (out_opened g.L.Mark.TicketMark.tells c.args.i c.args.at c.args.self.now.page c.args.self.now.held c.args.self.now.entries.items c.args.self.now.places.items c.args.self.now.uses.items c.args.self.now.sound c.requires.place c.index_mut.result.now c.index_mut.ensures.value c.rest-frame.result c.rest-frame.ensures.frame c.requires.idle c.in_ok-given.given (subst (λ (z : Entry). CanRest z.body c.in_ok-given.given) (out_same g.L.Mark.TicketMark.tells c.args.i c.args.at c.args.self.now.page c.args.self.now.held c.args.self.now.entries.items c.args.self.now.places.items c.args.self.now.uses.items c.args.self.now.sound c.requires.place c.index.result.now c.index_mut.result.now c.index.ensures c.index_mut.ensures.value) c.in_ok-given.ensures.ready) c.rest-frame.new.self c.rest-frame.ensures.becomes (λ kind content stands. c.rest-frame.ensures.stands g.L.Mark.TicketMark.tells kind content stands (c.in_ok-given.ensures.stands kind content (subst (λ (z : Entry). StandsFor g.L.Mark.TicketMark.tells kind content z.body) (sym (out_same g.L.Mark.TicketMark.tells c.args.i c.args.at c.args.self.now.page c.args.self.now.held c.args.self.now.entries.items c.args.self.now.places.items c.args.self.now.uses.items c.args.self.now.sound c.requires.place c.index.result.now c.index_mut.result.now c.index.ensures c.index_mut.ensures.value)) stands)))).sound

pub returns-clause-number : goal.returns-clause-number
returns-clause-number g c = out_number g.L.Mark.TicketMark.tells c.args.i c.args.at c.args.self.now.page c.args.self.now.held c.args.self.now.entries.items c.args.self.now.places.items c.args.self.now.uses.items c.args.self.now.sound c.requires.place c.index_mut.result.now c.index_mut.ensures.value c.rest-frame.result c.rest-frame.ensures.frame

pub returns-clause-full : goal.returns-clause-full
returns-clause-full g c = out_full g.L.Mark.TicketMark.tells c.args.i c.args.at c.args.self.now.page c.args.self.now.held c.args.self.now.entries.items c.args.self.now.places.items c.args.self.now.uses.items c.args.self.now.sound c.requires.place c.index_mut.result.now c.index_mut.ensures.value c.rest-frame.result c.rest-frame.ensures.frame

pub returns-clause-opens : goal.returns-clause-opens
returns-clause-opens g c = out_opened g.L.Mark.TicketMark.tells c.args.i c.args.at c.args.self.now.page c.args.self.now.held c.args.self.now.entries.items c.args.self.now.places.items c.args.self.now.uses.items c.args.self.now.sound c.requires.place c.index_mut.result.now c.index_mut.ensures.value c.rest-frame.result c.rest-frame.ensures.frame c.requires.idle c.in_ok-given.given (subst (λ (z : Entry). CanRest z.body c.in_ok-given.given) (out_same g.L.Mark.TicketMark.tells c.args.i c.args.at c.args.self.now.page c.args.self.now.held c.args.self.now.entries.items c.args.self.now.places.items c.args.self.now.uses.items c.args.self.now.sound c.requires.place c.index.result.now c.index_mut.result.now c.index.ensures c.index_mut.ensures.value) c.in_ok-given.ensures.ready) c.rest-frame.new.self c.rest-frame.ensures.becomes (λ kind content stands. c.rest-frame.ensures.stands g.L.Mark.TicketMark.tells kind content stands (c.in_ok-given.ensures.stands kind content (subst (λ (z : Entry). StandsFor g.L.Mark.TicketMark.tells kind content z.body) (sym (out_same g.L.Mark.TicketMark.tells c.args.i c.args.at c.args.self.now.page c.args.self.now.held c.args.self.now.entries.items c.args.self.now.places.items c.args.self.now.uses.items c.args.self.now.sound c.requires.place c.index.result.now c.index_mut.result.now c.index.ensures c.index_mut.ensures.value)) stands)))

pub returns-clause-others : goal.returns-clause-others
returns-clause-others g c = out_others g.L.Mark.TicketMark.tells c.args.i c.args.at c.args.self.now.page c.args.self.now.held c.args.self.now.entries.items c.args.self.now.places.items c.args.self.now.uses.items c.args.self.now.sound c.requires.place c.index_mut.result.now c.index_mut.ensures.value c.rest-frame.result c.rest-frame.ensures.frame (record { kind = c.index_mut.result.now.kind; body = c.rest-frame.new.self; seal = c.index_mut.result.now.seal })

pub invariant_of-self-2-clause-paid : goal.invariant_of-self-2-clause-paid
invariant_of-self-2-clause-paid g c =
    let same = (out_same g.L.Mark.TicketMark.tells c.args.i c.args.at c.args.self.now.page c.args.self.now.held c.args.self.now.entries.items c.args.self.now.places.items c.args.self.now.uses.items c.args.self.now.sound c.requires.place c.index.result.now c.index_mut.result.now c.index.ensures c.index_mut.ensures.value) in
    out_paid g.L.Mark.TicketMark.tells c.args.i c.args.at c.args.self.now.page c.args.self.now.held c.args.self.now.entries.items c.args.self.now.places.items c.args.self.now.uses.items c.args.self.now.sound c.requires.place c.index_mut.result.now c.index_mut.ensures.value c.rest-frame.result c.rest-frame.ensures.frame c.in_ok-given.given (subst (λ (z : Entry). CanRest z.body c.in_ok-given.given) same c.in_ok-given.ensures.ready) c.rest-frame.new.self c.rest-frame.ensures.becomes c.args.self.now.sealed c.args.self.now.wrote c.spill.new.wrote (subst (λ (z : Entry). c.spill.new.wrote ≡ writes_to_rest z.body c.args.self.now.wrote) same c.in_ok-given.ensures.wrote) c.args.self.now.paid

pub invariant_of-self-2-clause-least : goal.invariant_of-self-2-clause-least
invariant_of-self-2-clause-least g c = subst (λ z. 24 ≤ z) (sym (length-set c.args.self.now.places.items c.args.i Open)) c.args.self.now.least

pub invariant_of-self-2-clause-most : goal.invariant_of-self-2-clause-most
invariant_of-self-2-clause-most g c = subst (λ z. z ≤ 16777216) (sym (length-set c.args.self.now.places.items c.args.i Open)) c.args.self.now.most

pub invariant_of-self-2-clause-within : goal.invariant_of-self-2-clause-within
invariant_of-self-2-clause-within g c = let k = c.requires.room in subst (λ z. c.args.self.now.held + 1 ≤ z) (sym (length-set c.args.self.now.places.items c.args.i Open)) (omega (arith, k))
