use Rattle.std.proofs.Common.{rules, refl, arith, ◌≤◌, None, subst, sym, length-set, ◌-◌}
use Rattle.solo_pool.specs.declared.entry.Place.TheVariants.{Owned}
use Rattle.page_body.specs.declared.body.PageBody.TheVariants.{Resident}
use Rattle.solo_pool.proofs.Come.{new_closed, new_paid, new_unpinned, new_live}
use Rattle.solo_pool.proofs.Live.{live_within}
use Rattle.solo_pool.proofs.solo_tables.SoloTables.seal_new.Goals as goal

pub invariant_of-self-clause-sound : goal.invariant_of-self-clause-sound
invariant_of-self-clause-sound g c = (new_closed g.L.Mark.TicketMark.tells c.args.self.now.page c.args.self.now.held c.args.self.now.entries.items c.push_entry.new.entries.items c.args.self.now.places.items c.args.self.now.uses.items c.args.self.now.sound c.args.page c.requires.own c.requires.full (record { kind = c.args.page.kind; body = Resident c.args.page.frame None; seal = c.of-seal.result }) refl c.push_entry.ensures c.len-at.result (search rules)).sound

pub returns-clause-closes : goal.returns-clause-closes
returns-clause-closes g c = new_closed g.L.Mark.TicketMark.tells c.args.self.now.page c.args.self.now.held c.args.self.now.entries.items c.push_entry.new.entries.items c.args.self.now.places.items c.args.self.now.uses.items c.args.self.now.sound c.args.page c.requires.own c.requires.full (record { kind = c.args.page.kind; body = Resident c.args.page.frame None; seal = c.of-seal.result }) refl c.push_entry.ensures c.len-at.result (search rules)

pub returns-clause-live : goal.returns-clause-live
returns-clause-live g c = new_live g.L.Mark.TicketMark.tells c.args.self.now.page c.args.self.now.held c.args.self.now.entries.items c.push_entry.new.entries.items c.args.self.now.places.items c.args.self.now.uses.items c.args.self.now.sound c.args.page c.requires.own c.requires.full (record { kind = c.args.page.kind; body = Resident c.args.page.frame None; seal = c.of-seal.result }) refl c.push_entry.ensures c.len-at.result (search rules) (record { at = c.len-at.result; seal = c.of.result }) refl c.of.ensures c.of-seal.ensures refl c.requires.accepted c.args.self.now.page_fits.least

pub returns-clause-unpinned : goal.returns-clause-unpinned
returns-clause-unpinned g c = new_unpinned g.L.Mark.TicketMark.tells c.args.self.now.page c.args.self.now.held c.args.self.now.entries.items c.push_entry.new.entries.items c.args.self.now.places.items c.args.self.now.uses.items c.args.self.now.sound c.args.page c.requires.own c.requires.full (record { kind = c.args.page.kind; body = Resident c.args.page.frame None; seal = c.of-seal.result }) refl c.push_entry.ensures c.len-at.result (search rules)

pub invariant_of-self-clause-paid : goal.invariant_of-self-clause-paid
invariant_of-self-clause-paid g c = let k = new_paid g.L.Mark.TicketMark.tells c.args.self.now.page c.args.self.now.held c.args.self.now.entries.items c.push_entry.new.entries.items c.args.self.now.places.items c.args.self.now.uses.items c.args.self.now.sound c.args.page c.requires.own c.requires.full (record { kind = c.args.page.kind; body = Resident c.args.page.frame None; seal = c.of-seal.result }) refl c.push_entry.ensures c.len-at.result (search rules) c.args.self.now.sealed c.args.self.now.wrote c.args.self.now.paid in search rules

pub invariant_of-self-clause-least : goal.invariant_of-self-clause-least
invariant_of-self-clause-least g c = subst (λ z. 24 ≤ z) (sym (length-set c.args.self.now.places.items c.args.page.frame.number (Owned c.len-at.result))) c.args.self.now.least

pub invariant_of-self-clause-most : goal.invariant_of-self-clause-most
invariant_of-self-clause-most g c = subst (λ z. z ≤ 16777216) (sym (length-set c.args.self.now.places.items c.args.page.frame.number (Owned c.len-at.result))) c.args.self.now.most

pub invariant_of-self-clause-within : goal.invariant_of-self-clause-within
invariant_of-self-clause-within g c = let k = c.args.self.now.within in subst (λ z. c.args.self.now.held - 1 ≤ z) (sym (length-set c.args.self.now.places.items c.args.page.frame.number (Owned c.len-at.result))) (omega (arith, k))

pub returns-clause-differs : goal.returns-clause-differs
returns-clause-differs g c = λ other v same. let k = live_within g.L.Mark.TicketMark.tells c.args.self.now.page c.args.self.now.entries.items other v in let at = c.len-at.ensures in omega (arith, k, same, at)
