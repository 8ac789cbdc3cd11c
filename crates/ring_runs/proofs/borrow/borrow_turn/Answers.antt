use Rattle.std.proofs.Common.{rules}
use Rattle.evict_ring.proofs.Callers.{held_first}
use Rattle.ring_runs.proofs.borrow.borrow_turn.Goals as goal

pub give-requires-clause-out : goal.give-requires-clause-out
give-requires-clause-out c = held_first _ c.args.seat.now.held c.args.i _ (search rules) (search rules)
