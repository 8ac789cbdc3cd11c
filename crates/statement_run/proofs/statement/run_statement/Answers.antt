use Rattle.std.proofs.Common.{ap, ◌∙◌, Ok}
use Rattle.paged_catalog.specs.Meaning.{catalog_of}
use Rattle.row_image.specs.Rules.{text_limit}
use Rattle.script_opening.specs.Reading.{result_items}
use Rattle.script_says.specs.Catalog.{schemas_of}
use Rattle.statement_run.proofs.Binding.{bound_here, step_acted, step_refused}
use Rattle.statement_run.proofs.Tables.{tables_proper}
use Rattle.statement_run.proofs.statement.run_statement.Goals as goal

pub act-requires-clause-formed : goal.act-requires-clause-formed
act-requires-clause-formed g c =
    let t = g.P.Pages.terms in
    let page = (g.P.Pages.view c.args.pages.now).page_bytes in
    let tables = c.args.catalog.now in
    let catalog = catalog_of t tables in
    let limit_is = c.text_limit-limit.ensures ∙ ap text_limit c.page_bytes.ensures.is in
    c.bound_statements_are_well_formed.ensures c.args.statement.now c.args.script.now (schemas_of catalog) (text_limit page) c.in-Ok.bound c.requires.apart
    (tables_proper t tables.page_bytes tables.tables.items tables.rows.items c.requires.stands.tables)
    (bound_here page c.args.number c.args.script.now catalog c.args.statement.now c.columns-tables.result.now c.text_limit-limit.result c.columns-tables.ensures limit_is (Ok c.in-Ok.bound) c.in-Ok.ensures)

pub returns-in-Ok-clause-step : goal.returns-in-Ok-clause-step
returns-in-Ok-clause-step g c = λ told.
    let t = g.P.Pages.terms in
    let page = (g.P.Pages.view c.args.pages.now).page_bytes in
    let catalog = catalog_of t c.args.catalog.now in
    let limit_is = c.text_limit-limit.ensures ∙ ap text_limit c.page_bytes.ensures.is in
    step_acted page c.args.number c.args.script.now catalog c.args.statement.now c.columns-tables.result.now c.text_limit-limit.result c.columns-tables.ensures limit_is
    (g.F.Files.holds c.args.files.now) c.in-Ok.bound (catalog_of t c.act.new.catalog) (result_items c.act.result) c.in-Ok.ensures (c.act.ensures.step told)

pub returns-in-Err-Refused-clause-step : goal.returns-in-Err-Refused-clause-step
returns-in-Err-Refused-clause-step g c = λ told.
    let page = (g.P.Pages.view c.args.pages.now).page_bytes in
    let catalog = catalog_of g.P.Pages.terms c.args.catalog.now in
    let limit_is = c.text_limit-limit.ensures ∙ ap text_limit c.page_bytes.ensures.is in
    step_refused page c.args.number c.args.script.now catalog c.args.statement.now c.columns-tables.result.now c.text_limit-limit.result c.columns-tables.ensures limit_is
    (g.F.Files.holds c.args.files.now) _ c.in-Err-Refused.place _ c.in-Err-Refused.kind catalog (rw (c.in-Err-Refused.field-0-is) at c.in-Err-Refused.ensures) c.in-Err-Refused.place-is c.in-Err-Refused.kind-is
