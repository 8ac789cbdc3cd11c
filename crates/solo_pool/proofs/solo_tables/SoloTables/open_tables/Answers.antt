use Rattle.std.proofs.Common.{sym, subst, [], List}
use Rattle.solo_pool.specs.Sound.{Sound}
use Rattle.solo_pool.specs.Writes.{Paid}
use Rattle.solo_pool.specs.declared.entry.Entry.{Entry}
use Rattle.solo_pool.proofs.Fresh.{fresh_sound, fresh_paid}
use Rattle.solo_pool.proofs.solo_tables.SoloTables.open_tables.Goals as goal

pub invariant_of-result-clause-sound : goal.invariant_of-result-clause-sound
invariant_of-result-clause-sound g c = subst (λ (z : List Entry). Sound c.args.page z c.in_ok-places.places.items c.in_ok-uses.uses.items 0) (sym c.new.ensures.items)
    (fresh_sound c.args.page c.args.frames c.in_ok-places.places.items c.in_ok-uses.uses.items c.in_ok-places.ensures.count c.in_ok-places.ensures.spare c.in_ok-uses.ensures)

pub invariant_of-result-clause-paid : goal.invariant_of-result-clause-paid
invariant_of-result-clause-paid g c = subst (λ (z : List Entry). Paid z 0 0) (sym c.new.ensures.items) fresh_paid
