use Rattle.std.proofs.Common.{rules, ap}
use Rattle.page_pool.proofs.Numbers.{goes}
use Rattle.page_pool.proofs.pool.Pool.discard.Goals as goal

pub invariant_of-seat : goal.invariant_of-seat
invariant_of-seat g c = record { out = goes c.args.seat.now.open.items _ c.args.seat.now.ring.held _ c.place_of-place.result c.args.page.frame.number c.remove-share.ensures.items (ap (λ s. s.held) c.give_frame.ensures) (search rules) c.requires.open.own c.args.seat.now.out }
