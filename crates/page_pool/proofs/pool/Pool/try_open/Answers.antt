use Rattle.std.proofs.Common.{rules, ◌∙◌, ap, refl, ◌++◌, ◌∷◌, []}
use Rattle.evict_ring.proofs.Callers.{held_first}
use Rattle.page_pool.specs.Tried.{OneWrite}
use Rattle.page_pool.proofs.Numbers.{comes}
use Rattle.page_pool.proofs.pool.Pool.try_open.Goals as goal

pub invariant_of-seat-in-Found : goal.invariant_of-seat-in-Found
invariant_of-seat-in-Found g c = record { out = comes c.args.seat.now.open.items _ c.args.seat.now.ring.held _ _ (c.push_reserved.ensures.items ∙ ap (λ l. l ++ record { number = c.in-Found.frame.number; share = c.in-Found.share } ∷ []) c.reserve.ensures.items) c.in-Found.ensures.search.1.held c.args.seat.now.out }

pub returns-in-Found-clause-open : goal.returns-in-Found-clause-open
returns-in-Found-clause-open g c =
    let s = c.in-Found.ensures.search in
    let once : OneWrite (g.L.SpillLane.writes c.args.lane.now) (g.L.SpillLane.writes c.search.new.lane) = search rules in
    (refl, record { own = held_first c.search.new.seat.held c.args.seat.now.ring.held c.in-Found.frame.number c.in-Found.frame.number s.1.held refl; frame = s.0 }, s.1.out, s.1.held, once)
