use Rattle.std.proofs.Common.{rules}
use Rattle.evict_ring.proofs.Opening.{opens}
use Rattle.evict_ring.proofs.ring.Ring.new_ring.Goals as goal

pub new-requires : goal.new-requires
new-requires g c = opens _ _ _ _ c.args.turns.items _ (search rules) (search rules) (search rules) c.requires.home
