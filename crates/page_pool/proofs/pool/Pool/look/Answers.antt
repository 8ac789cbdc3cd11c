use Rattle.std.proofs.Common.{rules, ap, length, ◌<◌}
use Rattle.page_pool.specs.declared.pool.Seen.TheVariants.{TurnOut, Claimed}
use Rattle.page_pool.proofs.Looks.{looked, set_elsewhere, noted_here, noted_more}
use Rattle.page_pool.proofs.pool.Pool.look.Goals as goal

pub returns-in-Out-clause-seen : goal.returns-in-Out-clause-seen
returns-in-Out-clause-seen g c =
    let e = c.in-Out.ensures.tried in
    let room : c.args.i < length c.args.looks.now = search rules in
    (looked c.args.seat.now.refused c.try_frame.new.seat.refused c.args.looks.now c.args.i TurnOut room (noted_here _ _ c.args.i (ap (λ s. s.refused) e.0)), ap (λ s. s.held) e.0, e.1)

pub returns-in-Out-clause-same : goal.returns-in-Out-clause-same
returns-in-Out-clause-same g c =
    let e = c.in-Out.ensures.tried in
    record { table = ap (λ s. s.table) e.0; about = ap (λ s. s.about) e.0; noted = noted_more _ _ c.args.i (ap (λ s. s.refused) e.0) }

pub returns-in-Out-clause-others : goal.returns-in-Out-clause-others
returns-in-Out-clause-others g c = set_elsewhere c.args.looks.now c.args.i TurnOut

pub returns-in-Claimed-clause-seen : goal.returns-in-Claimed-clause-seen
returns-in-Claimed-clause-seen g c =
    let e = c.in-Claimed.ensures.tried in
    let room : c.args.i < length c.args.looks.now = search rules in
    (looked c.args.seat.now.refused c.try_frame.new.seat.refused c.args.looks.now c.args.i (Claimed c.in-Claimed.word) room e.0, ap (λ s. s.held) e.1, e.2)

pub returns-in-Claimed-clause-others : goal.returns-in-Claimed-clause-others
returns-in-Claimed-clause-others g c = set_elsewhere c.args.looks.now c.args.i (Claimed c.in-Claimed.word)
