use Rattle.std.proofs.Common.{rules, ◌≡◌, ◌∙◌, false}
use Rattle.claim_counter.proofs.ClaimKeeps.{draws}
use Rattle.claim_counter.proofs.claims.Claims.draw.Goals as goal

pub fetch_add-n-requires : goal.fetch_add-n-requires
fetch_add-n-requires c =
    let going : c.seat.inside.ended ≡ false = search rules in
    (search rules, search rules, draws _ _ _ _ c.seat.invariant.2 (c.seat.invariant.1 ∙ going))
