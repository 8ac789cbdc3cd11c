use Rattle.std.proofs.Common.{◌≡◌}
use Rattle.evict_ring.specs.Spun.{spun}
use Rattle.evict_ring.proofs.spin.spin.Given as goal

abbrev pub invariant-loop : goal.invariant-loop
invariant-loop g l = (l.seat.table_id ≡ l.fn.seat.table_id) × (l.seat.id ≡ l.fn.seat.id) × (l.seat.me ≡ (l.fn.seat.me.0, spun l.counter l.fn.seat.me.1))
