use Rattle.std.proofs.Common.{map, subst, sym, ap, ◌∙◌}
use Rattle.std.specs.Prelude.{◌≡◌, All, IfOk, List}
use Rattle.ooc_types.specs.Meets.{Meets}
use Rattle.sql_meaning.specs.Found.{Found, Row, if_clean}
use Rattle.sql_meaning.specs.Select.{cut_found, projected}
use Rattle.sql_meaning.specs.Statements.{cut_of, row_value_of}
use Rattle.plain_rows.specs.Answers.{distinct_found, found_in}
use Rattle.plain_rows.specs.Tests.{FitsItem, condition_in}
use Rattle.plain_rows.proofs.Fitting.{items-fit, kept-has, tests-ready}
use Rattle.plain_rows.proofs.OneTable.{table-selected}
use Rattle.plain_rows.proofs.table.select_table.Goals as goal

pub kept_rows-requires : goal.kept_rows-requires
kept_rows-requires c = tests-ready c.requires.limit c.requires.columns c.args.tests.now c.args.rows.now c.requires.judged c.requires.are

pub project_answer-requires : goal.project_answer-requires
project_answer-requires c =
    let columns = c.requires.columns in
    let limit = c.requires.limit in
    let conditions = map condition_in c.args.tests.now in
    subst (λ (rows : List Row). All (λ row. All (FitsItem row) c.args.items.now) rows) (sym (ap (λ (f : Found Row). f.rows) c.in_ok-kept.ensures))
    (items-fit limit columns c.args.items.now _ c.requires.shown (kept-has (Meets limit columns) conditions c.args.rows.now c.requires.are))

pub returns : goal.returns
returns c =
    let items = map row_value_of c.args.items.now in
    let shown = c.in_ok-shown.ensures ∙ ap (λ (f : Found Row). if_clean f (projected items)) c.in_ok-kept.ensures in
    let left = c.in_ok-left.ensures ∙ ap (distinct_found c.args.distinct) shown ∙ table-selected (map condition_in c.args.tests.now) items c.args.distinct c.args.rows.now in
    subst (λ (f : Found Row). IfOk c.cut_answer.result (λ answer. found_in answer ≡ cut_found (cut_of c.args.cut.now) f)) left c.cut_answer.ensures
