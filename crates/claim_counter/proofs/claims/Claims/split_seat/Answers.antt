use Rattle.std.proofs.Common.{rules}
use Rattle.claim_counter.proofs.ClaimKeeps.{splits}
use Rattle.claim_counter.proofs.claims.Claims.split_seat.Goals as goal

pub split_seat-given-requires : goal.split_seat-given-requires
split_seat-given-requires c = (search rules, search rules, splits _ _ _ (search rules))
