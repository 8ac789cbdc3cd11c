use Rattle.std.proofs.Common.{true, false, map, subst, sym, ap, ◌∙◌}
use Rattle.std.specs.Prelude.{filter, Ok}
use Rattle.sql_meaning.specs.Judged.{Verdict}
use Rattle.plain_rows.specs.Outcomes.{Told}
use Rattle.plain_rows.specs.Tests.{condition_in, acts_here}
use Rattle.plain_rows.proofs.Verdicts.{front-judged, front-drops, told-fault}
use Rattle.plain_rows.proofs.judging.judge.Goals as goal

pub returns-then-keeps : goal.returns-then-keeps
returns-then-keeps c =
    let all = map condition_in c.args.tests.now in
    subst (λ (v : Verdict). Told v c.judge_some-then-keeps.result)
    (sym (front-judged (filter (acts_here true) all) (filter (acts_here false) all) c.args.row.now (c.in-Ok.ensures ∙ ap Ok c.if-keeps.true)))
    c.judge_some-then-keeps.ensures

pub returns-else-keeps : goal.returns-else-keeps
returns-else-keeps c =
    let all = map condition_in c.args.tests.now in
    front-drops (filter (acts_here true) all) (filter (acts_here false) all) c.args.row.now (c.in-Ok.ensures ∙ ap Ok c.if-keeps.false)

pub returns-in-Err : goal.returns-in-Err
returns-in-Err c =
    let all = map condition_in c.args.tests.now in
    told-fault (filter (acts_here true) all) (filter (acts_here false) all) c.args.row.now c.in-Err.fault c.in-Err.ensures
