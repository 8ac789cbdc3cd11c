use Rattle.std.proofs.Common.{rules, ◌≤◌, subst, sym, length-set}
use Rattle.solo_pool.specs.declared.entry.Place.TheVariants.{Spare}
use Rattle.solo_pool.proofs.Come.{end_paid, end_slot, end_some, end_none}
use Rattle.solo_pool.proofs.solo_tables.SoloTables.end_page.Goals as goal

pub index_mut-requires-in-Some-frame : goal.index_mut-requires-in-Some-frame
index_mut-requires-in-Some-frame g c = let k = end_slot g.L.Mark.TicketMark.tells c.args.at c.args.self.now.page c.args.self.now.held c.args.self.now.entries.items c.args.self.now.places.items c.args.self.now.uses.items c.args.self.now.sound c.requires.within c.requires.free c.index_mut.result.now c.index_mut.ensures.value c.end_body-ticket.new.body c.end_body-ticket.ensures.gone c.end_body-ticket.ensures.dead c.end_body-ticket.result.1 c.end_body-ticket.ensures.frame c.in-Some-frame.frame c.in-Some-frame.is in search rules

pub invariant_of-self-clause-sound : goal.invariant_of-self-clause-sound
invariant_of-self-clause-sound g c = (end_some g.L.Mark.TicketMark.tells c.args.at c.args.self.now.page c.args.self.now.held c.args.self.now.entries.items c.args.self.now.places.items c.args.self.now.uses.items c.args.self.now.sound c.requires.within c.requires.free c.index_mut.result.now c.index_mut.ensures.value c.end_body-ticket.new.body c.end_body-ticket.ensures.gone c.end_body-ticket.ensures.dead c.end_body-ticket.result.1 c.end_body-ticket.ensures.frame c.in-Some-frame.frame c.in-Some-frame.is).sound

pub invariant_of-self-in_default-frame-clause-sound : goal.invariant_of-self-in_default-frame-clause-sound
invariant_of-self-in_default-frame-clause-sound g c = (end_none g.L.Mark.TicketMark.tells c.args.at c.args.self.now.page c.args.self.now.held c.args.self.now.entries.items c.args.self.now.places.items c.args.self.now.uses.items c.args.self.now.sound c.requires.within c.requires.free c.index_mut.result.now c.index_mut.ensures.value c.end_body-ticket.new.body c.end_body-ticket.ensures.gone c.end_body-ticket.ensures.dead c.end_body-ticket.result.1 c.end_body-ticket.ensures.frame c.in_default-frame.is).sound

pub returns-in-Some-frame-clause-ends : goal.returns-in-Some-frame-clause-ends
returns-in-Some-frame-clause-ends g c = end_some g.L.Mark.TicketMark.tells c.args.at c.args.self.now.page c.args.self.now.held c.args.self.now.entries.items c.args.self.now.places.items c.args.self.now.uses.items c.args.self.now.sound c.requires.within c.requires.free c.index_mut.result.now c.index_mut.ensures.value c.end_body-ticket.new.body c.end_body-ticket.ensures.gone c.end_body-ticket.ensures.dead c.end_body-ticket.result.1 c.end_body-ticket.ensures.frame c.in-Some-frame.frame c.in-Some-frame.is

pub returns-in_default-frame-clause-ends : goal.returns-in_default-frame-clause-ends
returns-in_default-frame-clause-ends g c = end_none g.L.Mark.TicketMark.tells c.args.at c.args.self.now.page c.args.self.now.held c.args.self.now.entries.items c.args.self.now.places.items c.args.self.now.uses.items c.args.self.now.sound c.requires.within c.requires.free c.index_mut.result.now c.index_mut.ensures.value c.end_body-ticket.new.body c.end_body-ticket.ensures.gone c.end_body-ticket.ensures.dead c.end_body-ticket.result.1 c.end_body-ticket.ensures.frame c.in_default-frame.is

pub invariant_of-self-clause-paid : goal.invariant_of-self-clause-paid
invariant_of-self-clause-paid g c = let k = end_paid g.L.Mark.TicketMark.tells c.args.at c.args.self.now.page c.args.self.now.held c.args.self.now.entries.items c.args.self.now.places.items c.args.self.now.uses.items c.args.self.now.sound c.requires.within c.requires.free c.index_mut.result.now c.index_mut.ensures.value c.end_body-ticket.new.body c.end_body-ticket.ensures.gone c.end_body-ticket.ensures.dead c.end_body-ticket.result.1 c.end_body-ticket.ensures.frame c.args.self.now.sealed c.args.self.now.wrote c.args.self.now.paid in search rules

pub invariant_of-self-in_default-frame-clause-paid : goal.invariant_of-self-in_default-frame-clause-paid
invariant_of-self-in_default-frame-clause-paid g c = let k = end_paid g.L.Mark.TicketMark.tells c.args.at c.args.self.now.page c.args.self.now.held c.args.self.now.entries.items c.args.self.now.places.items c.args.self.now.uses.items c.args.self.now.sound c.requires.within c.requires.free c.index_mut.result.now c.index_mut.ensures.value c.end_body-ticket.new.body c.end_body-ticket.ensures.gone c.end_body-ticket.ensures.dead c.end_body-ticket.result.1 c.end_body-ticket.ensures.frame c.args.self.now.sealed c.args.self.now.wrote c.args.self.now.paid in search rules

pub invariant_of-self-clause-least : goal.invariant_of-self-clause-least
invariant_of-self-clause-least g c = subst (λ z. 24 ≤ z) (sym (length-set c.args.self.now.places.items c.in-Some-frame.frame.number (Spare c.in-Some-frame.frame))) c.args.self.now.least

pub invariant_of-self-clause-most : goal.invariant_of-self-clause-most
invariant_of-self-clause-most g c = subst (λ z. z ≤ 16777216) (sym (length-set c.args.self.now.places.items c.in-Some-frame.frame.number (Spare c.in-Some-frame.frame))) c.args.self.now.most

pub invariant_of-self-clause-within : goal.invariant_of-self-clause-within
invariant_of-self-clause-within g c = subst (λ z. c.args.self.now.held ≤ z) (sym (length-set c.args.self.now.places.items c.in-Some-frame.frame.number (Spare c.in-Some-frame.frame))) c.args.self.now.within
