use Rattle.std.proofs.Common.{◌≡◌, ◌≤◌, ◌+◌, Some, slice_get, arith, subst, sym, length-set}
use Rattle.std.specs.Prelude.{IsSome}
use Rattle.solo_pool.specs.State.{spare_in}
use Rattle.solo_pool.specs.declared.entry.Place.TheVariants.{Owned, Open, Spare}
use Rattle.solo_pool.proofs.Found.{read_at}
use Rattle.solo_pool.proofs.Turns.{took_spare_as}
use Rattle.solo_pool.proofs.solo_tables.SoloTables.take_spare.Goals as goal

found : (g : _) (c : goal.After-self-in-Spare-2-1 g) → slice_get c.args.self.now.places.items c.args.i ≡ Some (Spare c.in-Spare.frame)
found g c = read_at _ _ _ _ c.requires.within c.index_mut.ensures.value c.in-Spare.ensures.value

pub invariant_of-self-clause-sound : goal.invariant_of-self-clause-sound
invariant_of-self-clause-sound g c = let at = read_at _ _ _ _ c.requires.within c.index_mut.ensures.value c.in-Spare.ensures.value in (took_spare_as g.L.Mark.TicketMark.tells _ _ _ _ _ _ _ _ c.args.self.now.sound c.requires.within at c.replace.ensures.after).sound

pub unreachable-requires : goal.unreachable-requires
unreachable-requires g c = let at = read_at c.args.self.now.places.items c.args.i _ _ c.requires.within c.index_mut.ensures.value c.in-Owned.ensures.value in
    let k : IsSome (spare_in (Some (Owned c.in-Owned.field-0))) = subst (λ o. IsSome (spare_in o)) at c.requires.spare in absurd (cc k)

pub unreachable-requires-in-Open : goal.unreachable-requires-in-Open
unreachable-requires-in-Open g c = let at = read_at c.args.self.now.places.items c.args.i _ _ c.requires.within c.index_mut.ensures.value c.in-Open.ensures.value in
    let k : IsSome (spare_in (Some Open)) = subst (λ o. IsSome (spare_in o)) at c.requires.spare in absurd (cc k)

pub returns-clause-number : goal.returns-clause-number
returns-clause-number g c = c.args.self.now.sound.spare _ _ (found g c)

pub returns-clause-full : goal.returns-clause-full
returns-clause-full g c = c.args.self.now.sound.spare_full _ _ (found g c)

pub returns-clause-opens : goal.returns-clause-opens
returns-clause-opens g c = took_spare_as _ _ _ _ _ _ _ _ _ c.args.self.now.sound c.requires.within (found g c) c.replace.ensures.after

pub invariant_of-self-clause-least : goal.invariant_of-self-clause-least
invariant_of-self-clause-least g c = subst (λ z. 24 ≤ z) (sym (length-set c.args.self.now.places.items c.args.i c.replace.new.dest)) c.args.self.now.least

pub invariant_of-self-clause-most : goal.invariant_of-self-clause-most
invariant_of-self-clause-most g c = subst (λ z. z ≤ 16777216) (sym (length-set c.args.self.now.places.items c.args.i c.replace.new.dest)) c.args.self.now.most

pub invariant_of-self-clause-within : goal.invariant_of-self-clause-within
invariant_of-self-clause-within g c = let k = c.requires.room in subst (λ z. c.args.self.now.held + 1 ≤ z) (sym (length-set c.args.self.now.places.items c.args.i c.replace.new.dest)) (omega (arith, k))
