use Rattle.std.proofs.Common.{ap, ◌∙◌, rules}
use Rattle.claim_counter.specs.Players.{left_from}
use Rattle.claim_counter.proofs.HandKeeps.{closes_at}
use Rattle.claim_counter.proofs.hand.Hand.close.Goals as goal

pub returns-clause-steps : goal.returns-clause-steps
returns-clause-steps g c =
    let f = c.close_with-closed.ensures.values.2 in
    rw (← c.seat.view_is) (closes_at _ f.0 _ _ f.1.0 f.1.1 (search rules) c.seat.invariant.1 _ f.2 _ c.word-drawn.ensures _ f.3 f.4).0

pub returns-clause-once : goal.returns-clause-once
returns-clause-once g c =
    let f = c.close_with-closed.ensures.values.2 in
    rw (← c.seat.view_is) (closes_at _ f.0 _ _ f.1.0 f.1.1 (search rules) c.seat.invariant.1 _ f.2 _ c.word-drawn.ensures _ f.3 f.4).1

pub returns-clause-left : goal.returns-clause-left
returns-clause-left g c =
    let f = c.close_with-closed.ensures.values.2 in
    let all = closes_at _ f.0 _ _ f.1.0 f.1.1 (search rules) c.seat.invariant.1 _ f.2 _ c.word-drawn.ensures _ f.3 f.4 in
    c.take_all.ensures ∙ all.2 ∙ ap (λ xs. left_from c.word-drawn.result xs) (ap (λ h. h.items) c.self.view_is)
