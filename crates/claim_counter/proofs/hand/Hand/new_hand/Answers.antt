use Rattle.std.proofs.Common.{rules}
use Rattle.claim_counter.proofs.HandKeeps.{opens}
use Rattle.claim_counter.proofs.hand.Hand.new_hand.Goals as goal

pub new-requires : goal.new-requires
new-requires g c = opens _ _ (search rules) (search rules) (search rules) (search rules)
