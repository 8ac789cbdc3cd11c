use Rattle.std.proofs.Common.{rules, refl, arith, ◌≤◌, ◌-◌, None, subst, sym, length-set}
use Rattle.solo_pool.specs.declared.entry.Place.TheVariants.{Owned}
use Rattle.page_body.specs.declared.body.PageBody.TheVariants.{Resident}
use Rattle.solo_pool.proofs.Come.{over_within, over_closed, over_paid, over_differs, over_unpinned, over_live}
use Rattle.solo_pool.proofs.solo_tables.SoloTables.seal_over.Goals as goal

pub index_mut-requires : goal.index_mut-requires
index_mut-requires g c = let k = over_within g.L.Mark.TicketMark.tells c.args.self.now.page c.args.self.now.held c.args.self.now.entries.items c.args.self.now.places.items c.args.self.now.uses.items c.args.self.now.sound c.args.at c.requires.vacant c.args.page c.requires.own c.requires.full (record { kind = c.args.page.kind; body = Resident c.args.page.frame None; seal = c.of-seal.result }) refl in search rules

pub invariant_of-self-clause-sound : goal.invariant_of-self-clause-sound
invariant_of-self-clause-sound g c = (over_closed g.L.Mark.TicketMark.tells c.args.self.now.page c.args.self.now.held c.args.self.now.entries.items c.args.self.now.places.items c.args.self.now.uses.items c.args.self.now.sound c.args.at c.requires.vacant c.args.page c.requires.own c.requires.full (record { kind = c.args.page.kind; body = Resident c.args.page.frame None; seal = c.of-seal.result }) refl).sound

pub invariant_of-self-clause-paid : goal.invariant_of-self-clause-paid
invariant_of-self-clause-paid g c = let k = over_paid g.L.Mark.TicketMark.tells c.args.self.now.page c.args.self.now.held c.args.self.now.entries.items c.args.self.now.places.items c.args.self.now.uses.items c.args.self.now.sound c.args.at c.requires.vacant c.args.page c.requires.own c.requires.full (record { kind = c.args.page.kind; body = Resident c.args.page.frame None; seal = c.of-seal.result }) refl c.args.self.now.sealed c.args.self.now.wrote c.args.self.now.paid in search rules

pub invariant_of-self-clause-least : goal.invariant_of-self-clause-least
invariant_of-self-clause-least g c = subst (λ z. 24 ≤ z) (sym (length-set c.args.self.now.places.items c.args.page.frame.number (Owned c.args.at))) c.args.self.now.least

pub invariant_of-self-clause-most : goal.invariant_of-self-clause-most
invariant_of-self-clause-most g c = subst (λ z. z ≤ 16777216) (sym (length-set c.args.self.now.places.items c.args.page.frame.number (Owned c.args.at))) c.args.self.now.most

pub invariant_of-self-clause-within : goal.invariant_of-self-clause-within
invariant_of-self-clause-within g c = let k = c.args.self.now.within in subst (λ z. c.args.self.now.held - 1 ≤ z) (sym (length-set c.args.self.now.places.items c.args.page.frame.number (Owned c.args.at))) (omega (arith, k))

pub returns-clause-closes : goal.returns-clause-closes
returns-clause-closes g c = over_closed g.L.Mark.TicketMark.tells c.args.self.now.page c.args.self.now.held c.args.self.now.entries.items c.args.self.now.places.items c.args.self.now.uses.items c.args.self.now.sound c.args.at c.requires.vacant c.args.page c.requires.own c.requires.full (record { kind = c.args.page.kind; body = Resident c.args.page.frame None; seal = c.of-seal.result }) refl

pub returns-clause-differs : goal.returns-clause-differs
returns-clause-differs g c = over_differs g.L.Mark.TicketMark.tells c.args.self.now.page c.args.self.now.held c.args.self.now.entries.items c.args.self.now.places.items c.args.self.now.uses.items c.args.self.now.sound c.args.at c.requires.vacant c.args.page c.requires.own c.requires.full (record { kind = c.args.page.kind; body = Resident c.args.page.frame None; seal = c.of-seal.result }) refl

pub returns-clause-live : goal.returns-clause-live
returns-clause-live g c = over_live g.L.Mark.TicketMark.tells c.args.self.now.page c.args.self.now.held c.args.self.now.entries.items c.args.self.now.places.items c.args.self.now.uses.items c.args.self.now.sound c.args.at c.requires.vacant c.args.page c.requires.own c.requires.full (record { kind = c.args.page.kind; body = Resident c.args.page.frame None; seal = c.of-seal.result }) refl (record { at = c.args.at; seal = c.of.result }) refl c.of.ensures c.of-seal.ensures refl c.requires.accepted c.args.self.now.page_fits.least

pub returns-clause-unpinned : goal.returns-clause-unpinned
returns-clause-unpinned g c = over_unpinned g.L.Mark.TicketMark.tells c.args.self.now.page c.args.self.now.held c.args.self.now.entries.items c.args.self.now.places.items c.args.self.now.uses.items c.args.self.now.sound c.args.at c.requires.vacant c.args.page c.requires.own c.requires.full (record { kind = c.args.page.kind; body = Resident c.args.page.frame None; seal = c.of-seal.result }) refl
