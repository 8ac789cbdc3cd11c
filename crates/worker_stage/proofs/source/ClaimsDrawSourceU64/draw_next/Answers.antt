use Rattle.std.proofs.Common.{rules, arith, ◌≡◌, ℕ, ◌<◌, ◌≤◌, ◌++◌, ◌∷◌, [], length, ap}
use Rattle.worker_stage.specs.Source.{below}
use Rattle.worker_stage.proofs.Items.{below_at, below_length}
use Rattle.worker_stage.proofs.Drawn.{if_none}
use Rattle.worker_stage.proofs.source.ClaimsDrawSourceU64.draw_next.Goals as goal

pub returns-in_err-number-clause-past : goal.returns-in_err-number-clause-past
returns-in_err-number-clause-past c =
    let past = c.in_err-number.ensures.past c.requires.going in
    let le = past.1 in
    let long = below_length c.args.self.now.count in
    let none : (n : ℕ) × (length (below c.args.self.now.count) ≤ n) × (c.draw.new.seat.draws ≡ c.args.seat.now.draws ++ n ∷ []) = (past.0, omega (arith, le, long), ap (λ s. s.draws) past.2) in
    if_none _ none

pub returns-clause-item : goal.returns-clause-item
returns-clause-item c =
    let lt : c.in_ok-number.number < c.args.self.now.count = search rules in
    below_at c.args.self.now.count c.in_ok-number.number lt
