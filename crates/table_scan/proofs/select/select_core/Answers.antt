use Rattle.std.proofs.Common.{◌≡◌, List, map, ap, sym, subst, ◌∙◌}
use Rattle.std.specs.Prelude.{Err}
use Rattle.std.specs.declared.alloc.Global.{Global}
use Rattle.std.specs.List.{AllByRecursion}
use Rattle.ooc_types.specs.declared.schema.SqlType.{SqlType}
use Rattle.sql_expr.specs.declared.tree.Expr.{Expr}
use Rattle.sql_expr.specs.Typing.{IsTyped}
use Rattle.bound_tree.specs.declared.select.Conjunct.{Conjunct}
use Rattle.bound_tree.specs.declared.select.BoundRows.TheViews.{out-BoundCore}
use Rattle.sql_meaning.specs.Select.{counted_rows, cut_found}
use Rattle.sql_meaning.specs.Statements.{condition_of, cut_of, row_value_of}
use Rattle.plain_rows.specs.Tests.{condition_in}
use Rattle.table_scan.specs.Scan.{conditions_among, kinds_of_sources}
use Rattle.table_scan.specs.Sets.{scanned}
use Rattle.table_scan.specs.Sink.{sink_of}
use Rattle.table_scan.specs.TableRows.{rows_of_sets}
use Rattle.table_scan.specs.Typed.{IsConditionOver}
use Rattle.table_scan.proofs.Ending.{core-shown, ends-cause, scan-ends, scan-fails, shown-block}
use Rattle.table_scan.proofs.Testing.{as-conditions, as-typed}
use Rattle.table_scan.proofs.select.select_core.Goals as goal

pub take_sets-requires-clause-reading : goal.take_sets-requires-clause-reading
take_sets-requires-clause-reading g c =
    let core = out-BoundCore c.args.core.now in
    let kinds = c.as_slice-2.result.now in
    let conjuncts = c.as_slice-3.result.now in
    let kinds_are : kinds_of_sources core.sources ≡ kinds = ap kinds_of_sources (sym c.as_slice.ensures ∙ c.first_source-source.ensures) ∙ sym c.as_slice-2.ensures in
    let typed = c.requires.typed in
    record {
      tests = as-typed kinds c.in_ok-tests_of.field-0.items (conditions_among conjuncts) c.in_ok-tests_of.ensures
          (subst (λ (ks : List SqlType). AllByRecursion (IsConditionOver ks) (conditions_among conjuncts)) kinds_are
          (subst (λ (cs : List Conjunct). AllByRecursion (IsConditionOver (kinds_of_sources core.sources)) (conditions_among cs)) (sym c.as_slice-3.ensures) typed.conditions));
      items = subst (λ (ks : List SqlType). AllByRecursion (IsTyped ks) c.as_slice-4.result.now) kinds_are
          (subst (λ (is : List Expr). AllByRecursion (IsTyped (kinds_of_sources core.sources)) is) (sym c.as_slice-4.ensures) typed.items);
    }

pub returns-in-Ok-clause-shows : goal.returns-in-Ok-clause-shows
returns-in-Ok-clause-shows g c = λ told.
    let tests = c.in_ok-tests_of.field-0.items in
    let conditions = map condition_in tests in
    let items = map row_value_of c.as_slice-4.result.now in
    let rows = rows_of_sets g.P.Pages.terms c.args.sets.now in
    let columns = c.args.columns.now in
    let cut = c.args.cut.now in
    core-shown Global c.args.core.now columns cut conditions items rows c.end_scan.result
    (as-conditions tests (conditions_among c.as_slice-3.result.now) c.in_ok-tests_of.ensures ∙ ap (λ (cs : List Conjunct). map condition_of (conditions_among cs)) c.as_slice-3.ensures)
    (ap (map row_value_of) c.as_slice-4.ensures)
    (scan-ends Global columns cut conditions items rows c.is_some.result (sink_of c.in_ok-taken.taken) (sink_of c.take_sets.new.into) c.end_scan.result c.is_some.ensures c.in_ok-taken.ensures
    (c.in-Ok.ensures.taken told) (c.in-Ok.ensures.clean told) c.end_scan.ensures)

pub returns-in-Ok-clause-block : goal.returns-in-Ok-clause-block
returns-in-Ok-clause-block g c =
    let conditions = map condition_in c.in_ok-tests_of.field-0.items in
    let items = map row_value_of c.as_slice-4.result.now in
    let columns = c.args.columns.now in
    let cut = c.args.cut.now in
    let some = c.in-Ok.ensures.some in
    let found = scanned conditions items some.rows in
    shown-block Global columns cut (counted_rows (cut_of cut) found) (cut_found (cut_of cut) found) (cut_found (cut_of cut) found).faults c.end_scan.result
    (scan-ends Global columns cut conditions items some.rows c.is_some.result (sink_of c.in_ok-taken.taken) (sink_of c.take_sets.new.into) c.end_scan.result c.is_some.ensures c.in_ok-taken.ensures
    some.taken some.clean c.end_scan.ensures)

pub returns-in-Ok-clause-cause : goal.returns-in-Ok-clause-cause
returns-in-Ok-clause-cause g c =
    ends-cause Global g.P.Pages.terms.told (g.P.Pages.view c.args.pages.now).faults (g.P.Pages.view c.take_sets.new.pages).faults c.args.columns.now c.args.cut.now c.take_sets.new.into.fault (sink_of c.take_sets.new.into) c.end_scan.result
    c.end_scan.ensures

pub returns-clause-shows : goal.returns-clause-shows
returns-clause-shows g c = λ told.
    let tests = c.in_ok-tests_of.field-0.items in
    let conditions = map condition_in tests in
    let items = map row_value_of c.as_slice-4.result.now in
    let rows = rows_of_sets g.P.Pages.terms c.args.sets.now in
    let columns = c.args.columns.now in
    let cut = c.args.cut.now in
    core-shown Global c.args.core.now columns cut conditions items rows (Err c.in-Err.fault)
    (as-conditions tests (conditions_among c.as_slice-3.result.now) c.in_ok-tests_of.ensures ∙ ap (λ (cs : List Conjunct). map condition_of (conditions_among cs)) c.as_slice-3.ensures)
    (ap (map row_value_of) c.as_slice-4.ensures)
    (scan-fails Global cut columns conditions items rows c.in-Err.fault (c.in-Err.ensures.noted told))
