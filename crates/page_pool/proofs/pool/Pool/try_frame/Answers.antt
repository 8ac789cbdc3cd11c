use Rattle.std.proofs.Common.{ap}
use Rattle.evict_ring.proofs.Callers.{held_first}
use Rattle.page_pool.proofs.pool.Pool.try_frame.Goals as goal

pub give_page-requires-clause-out : goal.give_page-requires-clause-out
give_page-requires-clause-out g c = held_first c.take.new.seat.held c.args.seat.now.held c.args.i c.in-Some.turn.frame (ap (λ s. s.held) c.in-Some.ensures.taken) c.in-Some.ensures.home.0

pub give_page-requires-in-Fault-clause-out : goal.give_page-requires-in-Fault-clause-out
give_page-requires-in-Fault-clause-out g c = held_first c.take.new.seat.held c.args.seat.now.held c.args.i c.in-Some.turn.frame (ap (λ s. s.held) c.in-Some.ensures.taken) c.in-Some.ensures.home.0
