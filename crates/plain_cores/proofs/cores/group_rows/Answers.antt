use Rattle.std.proofs.Common.{◌≡◌, List, subst, sym, ap, ◌∙◌, Option}
use Rattle.std.specs.Option.{option_map}
use Rattle.std.specs.Prelude.{IfOk}
use Rattle.bound_tree.specs.declared.select.Grouping.{Grouping}
use Rattle.sql_meaning.specs.Found.{Found, Row, and_then, clean, if_clean}
use Rattle.sql_meaning.specs.Groups.{grouped}
use Rattle.sql_meaning.specs.Select.{perhaps_grouped}
use Rattle.sql_meaning.specs.Statements.{grouping_of}
use Rattle.plain_rows.specs.Answers.{found_in}
use Rattle.plain_cores.proofs.Cleaning.{noted-clean}
use Rattle.plain_cores.proofs.cores.group_rows.Goals as goal

pub returns-in_ok-grouped-in-Some : goal.returns-in_ok-grouped-in-Some
returns-in_ok-grouped-in-Some c =
    let filtered = c.args.filtered in
    let all = grouped (grouping_of c.in-Some.grouping) filtered.rows.items in
    let is = c.in_ok-grouped-in-Some.ensures ∙ ap (λ (rows : List Row). if_clean (grouped (grouping_of c.in-Some.grouping) rows) clean) c.as_slice.ensures.value in
    let left = noted-clean filtered.faults.items all (found_in c.in_ok-grouped-in-Some.grouped) is
    ∙ ap (λ (g : Option Grouping). if_clean (and_then (found_in filtered) (perhaps_grouped (option_map grouping_of g))) clean) (sym c.in-Some.is) in
    subst (λ (f : Found Row). IfOk c.behind_faults.result (λ answer. found_in answer ≡ f)) left c.behind_faults.ensures
