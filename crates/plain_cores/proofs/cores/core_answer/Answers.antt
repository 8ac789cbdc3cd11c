use Rattle.std.proofs.Common.{◌≡◌, ◌≢◌, length, subst, arith}
use Rattle.std.specs.Prelude.{IfOk}
use Rattle.std.proofs.lemmas.Grind.{common_steps}
use Rattle.sql_meaning.specs.Found.{Found, Row}
use Rattle.plain_rows.specs.Answers.{found_in}
use Rattle.plain_cores.proofs.CoreAnswers.{core-clean, core-faulted}
use Rattle.plain_cores.proofs.cores.core_answer.Goals as goal

pub returns-then-not-is_empty : goal.returns-then-not-is_empty
returns-then-not-is_empty c =
    let some : length c.in_ok-faults.faults.items ≢ 0 = grind (arith, common_steps, c.is_empty.ensures, c.if-not-is_empty.true) in
    core-faulted c.args.core.now c.args.sources.now c.args.knowns.now c.in_ok-faults.faults.items c.new.result.items c.new.ensures.items c.in_ok-faults.ensures some

pub returns : goal.returns
returns c =
    let none : length c.in_ok-faults.faults.items ≡ 0 = grind (arith, common_steps, c.is_empty.ensures, c.if-not-is_empty.false) in
    subst (λ (f : Found Row). IfOk c.above_groups.result (λ answer. found_in answer ≡ f))
    (core-clean c.args.core.now c.args.sources.now c.args.knowns.now c.in_ok-faults.faults.items (found_in c.in_ok-below.below) c.as_slice.result.now c.in_ok-faults.ensures none c.in_ok-below.ensures c.as_slice.ensures)
    c.above_groups.ensures
