use Rattle.std.proofs.Common.{rules, ◌≤◌, subst, sym, length-set}
use Rattle.solo_pool.specs.declared.entry.Place.TheVariants.{Owned}
use Rattle.solo_pool.proofs.Come.{put_shown, put_paid, put_opens, put_pins}
use Rattle.solo_pool.proofs.solo_tables.SoloTables.put_page.Goals as goal

pub invariant_of-self-clause-sound : goal.invariant_of-self-clause-sound
invariant_of-self-clause-sound g c = (put_pins g.L.Mark.TicketMark.tells c.args.at c.args.self.now.page c.args.self.now.held c.args.self.now.entries.items c.args.self.now.places.items c.args.self.now.uses.items c.args.self.now.sound c.args.frame c.requires.within c.requires.body c.requires.own c.requires.full c.requires.stands c.index_mut.result.now c.index_mut.ensures.value c.install.new.self c.install.ensures.becomes (c.install.ensures.stands g.L.Mark.TicketMark.tells)).sound

pub returns-clause-pins : goal.returns-clause-pins
returns-clause-pins g c = put_pins g.L.Mark.TicketMark.tells c.args.at c.args.self.now.page c.args.self.now.held c.args.self.now.entries.items c.args.self.now.places.items c.args.self.now.uses.items c.args.self.now.sound c.args.frame c.requires.within c.requires.body c.requires.own c.requires.full c.requires.stands c.index_mut.result.now c.index_mut.ensures.value c.install.new.self c.install.ensures.becomes (c.install.ensures.stands g.L.Mark.TicketMark.tells)

pub returns-clause-opens : goal.returns-clause-opens
returns-clause-opens g c = put_opens g.L.Mark.TicketMark.tells c.args.at c.args.self.now.page c.args.self.now.held c.args.self.now.entries.items c.args.self.now.places.items c.args.self.now.uses.items c.args.self.now.sound c.args.frame c.requires.within c.requires.body c.requires.own c.requires.full c.requires.stands c.index_mut.result.now c.index_mut.ensures.value c.install.new.self c.install.ensures.becomes

pub returns-clause-there : goal.returns-clause-there
returns-clause-there g c = let k = put_shown g.L.Mark.TicketMark.tells c.args.at c.args.self.now.page c.args.self.now.held c.args.self.now.entries.items c.args.self.now.places.items c.args.self.now.uses.items c.args.self.now.sound c.args.frame c.requires.within c.requires.body c.requires.own c.requires.full c.requires.stands c.index_mut.result.now c.index_mut.ensures.value c.install.new.self c.install.ensures.becomes in search rules

pub invariant_of-self-clause-paid : goal.invariant_of-self-clause-paid
invariant_of-self-clause-paid g c = put_paid g.L.Mark.TicketMark.tells c.args.at c.args.self.now.page c.args.self.now.held c.args.self.now.entries.items c.args.self.now.places.items c.args.self.now.uses.items c.args.self.now.sound c.args.frame c.requires.within c.requires.body c.requires.own c.requires.full c.requires.stands c.index_mut.result.now c.index_mut.ensures.value c.install.new.self c.install.ensures.becomes c.args.self.now.sealed c.args.self.now.wrote c.args.self.now.paid

pub invariant_of-self-clause-least : goal.invariant_of-self-clause-least
invariant_of-self-clause-least g c = subst (λ z. 24 ≤ z) (sym (length-set c.args.self.now.places.items c.args.frame.number (Owned c.args.at))) c.args.self.now.least

pub invariant_of-self-clause-most : goal.invariant_of-self-clause-most
invariant_of-self-clause-most g c = subst (λ z. z ≤ 16777216) (sym (length-set c.args.self.now.places.items c.args.frame.number (Owned c.args.at))) c.args.self.now.most

pub invariant_of-self-clause-within : goal.invariant_of-self-clause-within
invariant_of-self-clause-within g c = subst (λ z. c.args.self.now.held ≤ z) (sym (length-set c.args.self.now.places.items c.args.frame.number (Owned c.args.at))) c.args.self.now.within
