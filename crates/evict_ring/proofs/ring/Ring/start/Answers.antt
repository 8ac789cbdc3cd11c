use Rattle.std.proofs.Common.{rules}
use Rattle.evict_ring.proofs.Keeps.{starts}
use Rattle.evict_ring.proofs.ring.Ring.start.Goals as goal

pub fetch_add-hand-requires : goal.fetch_add-hand-requires
fetch_add-hand-requires g c = (search rules, search rules, starts _ _ _ _ _)
