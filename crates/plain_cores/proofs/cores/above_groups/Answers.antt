use Rattle.std.proofs.Common.{◌≡◌, List, map, subst, sym, ap, ◌∙◌, All}
use Rattle.std.specs.Prelude.{IfOk}
use Rattle.ooc_types.specs.Meets.{Meets}
use Rattle.sql_meaning.specs.Found.{Found, Row, if_clean}
use Rattle.sql_meaning.specs.Judged.{Condition, kept}
use Rattle.sql_meaning.specs.Select.{projected}
use Rattle.sql_meaning.specs.Statements.{row_value_of}
use Rattle.plain_rows.specs.Answers.{distinct_found, found_in}
use Rattle.plain_rows.specs.Tests.{FitsItem, condition_in, parts_in, parts_of}
use Rattle.plain_rows.proofs.Fitting.{items-fit, kept-has}
use Rattle.plain_cores.specs.Cores.{ArePartsOver, having_exprs}
use Rattle.plain_cores.proofs.Cleaning.{clean-has}
use Rattle.plain_cores.proofs.Tested.{expr-conditions, made-ready, of-map}
use Rattle.plain_cores.proofs.cores.above_groups.Goals as goal

pub keep_answer-requires : goal.keep_answer-requires
keep_answer-requires c =
    let having = having_exprs c.args.grouping.now in
    made-ready c.requires.limit c.requires.columns c.as_slice.result.now (map parts_of having) c.args.below.rows.items (ap (map parts_in) c.as_slice.ensures.value ∙ c.in_ok-tests.ensures)
    (of-map (ArePartsOver c.requires.columns) parts_of having c.requires.judged) c.requires.are

pub project_answer-requires : goal.project_answer-requires
project_answer-requires c =
    let conditions = map condition_in c.as_slice.result.now in
    subst (λ (rows : List Row). All (λ row. All (FitsItem row) c.args.items.now) rows) (sym (ap (λ (f : Found Row). f.rows) c.in_ok-kept.ensures))
    (items-fit c.requires.limit c.requires.columns c.args.items.now (if_clean (found_in c.args.below) (kept conditions)).rows c.requires.shown
    (clean-has (Meets c.requires.limit c.requires.columns) (found_in c.args.below) (kept conditions)
    (kept-has (Meets c.requires.limit c.requires.columns) conditions c.args.below.rows.items c.requires.are)))

pub returns : goal.returns
returns c =
    let items = projected (map row_value_of c.args.items.now) in
    let below = found_in c.args.below in
    let conditions = expr-conditions c.as_slice.result.now (having_exprs c.args.grouping.now) (ap (map parts_in) c.as_slice.ensures.value ∙ c.in_ok-tests.ensures) in
    let shown = c.in_ok-shown.ensures ∙ ap (λ (f : Found Row). if_clean f items) (c.in_ok-kept.ensures ∙ ap (λ (cs : List Condition). if_clean below (kept cs)) conditions) in
    subst (λ (f : Found Row). IfOk c.distinct_answer.result (λ answer. found_in answer ≡ distinct_found c.args.distinct f)) shown c.distinct_answer.ensures
