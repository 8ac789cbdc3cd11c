use Rattle.std.proofs.Common.{refl, arith, length-set, sym, subst, ◌≤◌, ◌-◌}
use Rattle.solo_pool.specs.declared.entry.Place.TheVariants.{Spare}
use Rattle.solo_pool.proofs.Turns.{gave_back, open_there}
use Rattle.solo_pool.proofs.solo_tables.SoloTables.give.Goals as goal

pub invariant_of-self-clause-sound : goal.invariant_of-self-clause-sound
invariant_of-self-clause-sound g c = (gave_back g.L.Mark.TicketMark.tells _ _ _ _ _ _ c.args.self.now.sound (open_there _ c.requires.own) c.args.frame refl c.requires.full).sound

pub returns-clause-closes : goal.returns-clause-closes
returns-clause-closes g c = gave_back _ _ _ _ _ _ _ c.args.self.now.sound (open_there _ c.requires.own) c.args.frame refl c.requires.full

pub invariant_of-self-clause-least : goal.invariant_of-self-clause-least
invariant_of-self-clause-least g c = subst (λ z. 24 ≤ z) (sym (length-set c.args.self.now.places.items c.args.frame.number (Spare c.args.frame))) c.args.self.now.least

pub invariant_of-self-clause-most : goal.invariant_of-self-clause-most
invariant_of-self-clause-most g c = subst (λ z. z ≤ 16777216) (sym (length-set c.args.self.now.places.items c.args.frame.number (Spare c.args.frame))) c.args.self.now.most

pub invariant_of-self-clause-within : goal.invariant_of-self-clause-within
invariant_of-self-clause-within g c = let k = c.args.self.now.within in subst (λ z. c.args.self.now.held - 1 ≤ z) (sym (length-set c.args.self.now.places.items c.args.frame.number (Spare c.args.frame))) (omega (arith, k))
