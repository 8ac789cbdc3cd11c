use Rattle.std.proofs.Common.{rules, ◌≡◌, []}
use Rattle.evict_ring.proofs.Keeps.{joins}
use Rattle.evict_ring.proofs.Seated.{none_out}
use Rattle.evict_ring.proofs.ring.Ring.join_seat.Goals as goal

pub join_seat-requires : goal.join_seat-requires
join_seat-requires g c =
    let empty : c.from.inside.seat.me.0.held ≡ [] = search rules in
    (search rules, search rules, none_out _ _ _ empty c.from.invariant.1 c.from.invariant.0, search rules, joins _ _ _ _ _ _ empty)
