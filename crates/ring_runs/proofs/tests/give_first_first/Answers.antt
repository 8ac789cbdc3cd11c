use Rattle.std.proofs.Common.{rules, ap, ◌∙◌}
use Rattle.ring_runs.proofs.Two.{held_second, without_second}
use Rattle.evict_ring.proofs.Callers.{held_first}
use Rattle.ring_runs.proofs.tests.give_first_first.Goals as goal

pub give-requires-clause-out : goal.give-requires-clause-out
give-requires-clause-out c = held_second _ c.args.seat.now.held c.args.j c.args.i _ (search rules) (search rules)

pub give-requires-2-clause-out : goal.give-requires-2-clause-out
give-requires-2-clause-out c =
    held_first _ c.args.seat.now.held c.args.j _
    (ap (λ s. s.held) c.give.ensures ∙ without_second c.take-2.new.seat.held c.args.seat.now.held c.args.j c.args.i c.in_ok-first.first.frame (search rules) (search rules) c.requires.places.2)
    (search rules)
