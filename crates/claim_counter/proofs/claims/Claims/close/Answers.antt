use Rattle.std.proofs.Common.{rules}
use Rattle.claim_counter.proofs.ClaimKeeps.{closes}
use Rattle.claim_counter.proofs.claims.Claims.close.Goals as goal

pub returns-clause-steps : goal.returns-clause-steps
returns-clause-steps c =
    let f = c.close_with-closed.ensures.values.2 in
    rw (← c.seat.view_is) (closes _ f.0 _ _ f.1.0 f.1.1 (search rules) _ f.2 c.word-drawn.ensures).1

pub returns-clause-once : goal.returns-clause-once
returns-clause-once c =
    let f = c.close_with-closed.ensures.values.2 in
    rw (← c.seat.view_is) (closes _ f.0 _ _ f.1.0 f.1.1 (search rules) _ f.2 c.word-drawn.ensures).0
