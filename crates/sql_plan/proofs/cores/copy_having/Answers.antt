use Rattle.std.proofs.Common.{ap, sym, ◌∙◌, Some}
use Rattle.sql_plan.proofs.MoveLemmas.{keep_list}
use Rattle.sql_plan.proofs.cores.copy_having.Goals as goal

pub returns-in_ok-move_list-in-Some : goal.returns-in_ok-move_list-in-Some
returns-in_ok-move_list-in-Some c =
    ap Some (c.in_ok-move_list-in-Some.ensures ∙ keep_list c.as_slice.result.now ∙ c.as_slice.ensures) ∙ sym c.in-Some.is
