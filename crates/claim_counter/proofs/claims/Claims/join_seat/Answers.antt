use Rattle.std.proofs.Common.{rules}
use Rattle.claim_counter.proofs.ClaimKeeps.{joins}
use Rattle.claim_counter.proofs.claims.Claims.join_seat.Goals as goal

pub join_seat-requires : goal.join_seat-requires
join_seat-requires c = (search rules, search rules, search rules, search rules, joins _ _ _ _ _ c.into.invariant.2)
