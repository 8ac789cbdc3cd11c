use Rattle.std.proofs.Common.{◌≡◌, List, subst, sym, ap₂, ◌∙◌}
use Rattle.std.specs.Option.{option_map}
use Rattle.std.specs.Prelude.{IfOk}
use Rattle.bound_tree.specs.declared.select.BoundRows.TheViews.{out-BoundCore}
use Rattle.sql_meaning.specs.Found.{Found, and_then, clean, if_clean}
use Rattle.sql_meaning.specs.Found.{Row}
use Rattle.sql_meaning.specs.Judged.{Condition, kept}
use Rattle.sql_meaning.specs.Select.{perhaps_grouped}
use Rattle.sql_meaning.specs.Statements.{grouping_of}
use Rattle.plain_rows.specs.Answers.{found_in}
use Rattle.plain_cores.proofs.CoreAnswers.{conjuncts-are}
use Rattle.plain_cores.proofs.cores.below_having.Goals as goal

pub returns : goal.returns
returns c =
    let grouping = (out-BoundCore c.args.core.now).grouping in
    let filtered = c.in_ok-filtered.ensures
    ∙ ap₂ (λ (f : Found Row) (cs : List Condition). and_then f (kept cs)) c.in_ok-from.ensures (sym (conjuncts-are c.args.core.now c.args.knowns.now)) in
    subst (λ (f : Found Row). IfOk c.group_rows.result (λ answer. found_in answer ≡ if_clean (and_then f (perhaps_grouped (option_map grouping_of grouping))) clean)) filtered c.group_rows.ensures
