use Rattle.std.proofs.Common.{rules}
use Rattle.evict_ring.proofs.Keeps.{splits}
use Rattle.evict_ring.proofs.ring.Ring.split_seat.Goals as goal

pub split_seat-requires : goal.split_seat-requires
split_seat-requires g c = (search rules, search rules, splits _ _ _ _)
