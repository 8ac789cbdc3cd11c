use Rattle.std.proofs.Common.{◌∙◌}
use Rattle.std.specs.declared.alloc.Global.{Global}
use Rattle.bound_tree.specs.declared.select.BoundRows.TheViews.{out-BoundSelect}
use Rattle.paged_catalog.specs.Meaning.{catalog_of}
use Rattle.row_image.specs.Rules.{text_limit}
use Rattle.script_says.specs.Catalog.{schemas_of, tables_of}
use Rattle.script_says.specs.Selecting.{shown}
use Rattle.sql_scope.specs.Scopes.{columns_of}
use Rattle.table_scan.specs.Scan.{scan_kinds, scan_table}
use Rattle.statement_run.proofs.Readable.{rows_seen, sets_readable, table_there}
use Rattle.statement_run.proofs.Steps.{fault_step, scan_block, shows_step}
use Rattle.statement_run.proofs.selecting.scan.Goals as goal

pub select_table-requires-clause-sets : goal.select_table-requires-clause-sets
select_table-requires-clause-sets g c =
    let catalog = catalog_of g.P.Pages.terms c.args.catalog.now in
    let select = c.args.select.now in
    let a = g.P.Pages.view c.args.pages.now in
    sets_readable catalog c.as_bytes.result.now (scan_table select) (scan_kinds select) (c.as_bytes.ensures ∙ c.scanned_table.ensures)
    (c.well_formed_selects_can_be_scanned.ensures.kinds (text_limit a.page_bytes) (columns_of (schemas_of catalog)) select c.requires.scan c.requires.formed)
    g.P.Pages.terms a c.in-Some.sets.now c.in-Some.ensures

pub unreachable-requires : goal.unreachable-requires
unreachable-requires g c =
    let catalog = catalog_of g.P.Pages.terms c.args.catalog.now in
    let select = c.args.select.now in
    let a = g.P.Pages.view c.args.pages.now in
    table_there catalog c.as_bytes.result.now (scan_table select) (scan_kinds select) (c.as_bytes.ensures ∙ c.scanned_table.ensures)
    (c.well_formed_selects_can_be_scanned.ensures.kinds (text_limit a.page_bytes) (columns_of (schemas_of catalog)) select c.requires.scan c.requires.formed)
    c.in-None.ensures

pub returns-in-Ok-clause-step : goal.returns-in-Ok-clause-step
returns-in-Ok-clause-step g c = λ told.
    let catalog = catalog_of g.P.Pages.terms c.args.catalog.now in
    let select = c.args.select.now in
    let a = g.P.Pages.view c.args.pages.now in
    let rows = rows_seen catalog c.as_bytes.result.now (scan_table select) (scan_kinds select) (c.as_bytes.ensures ∙ c.scanned_table.ensures)
    (c.well_formed_selects_can_be_scanned.ensures.kinds (text_limit a.page_bytes) (columns_of (schemas_of catalog)) select c.requires.scan c.requires.formed)
    g.P.Pages.terms a c.in-Some.sets.now c.in-Some.ensures in
    shows_step Global c.args.number catalog (shown (tables_of catalog) select) c.in-Ok.text (c.in-Ok.ensures.shows told (tables_of catalog) rows)

pub returns-in-Ok-clause-block : goal.returns-in-Ok-clause-block
returns-in-Ok-clause-block g c = scan_block (out-BoundSelect c.args.select.now).columns c.in-Ok.text.items c.in-Ok.ensures.block

pub returns-in-Err-clause-step : goal.returns-in-Err-clause-step
returns-in-Err-clause-step g c = λ told.
    let catalog = catalog_of g.P.Pages.terms c.args.catalog.now in
    let select = c.args.select.now in
    let a = g.P.Pages.view c.args.pages.now in
    let rows = rows_seen catalog c.as_bytes.result.now (scan_table select) (scan_kinds select) (c.as_bytes.ensures ∙ c.scanned_table.ensures)
    (c.well_formed_selects_can_be_scanned.ensures.kinds (text_limit a.page_bytes) (columns_of (schemas_of catalog)) select c.requires.scan c.requires.formed)
    g.P.Pages.terms a c.in-Some.sets.now c.in-Some.ensures in
    fault_step Global c.args.number catalog (shown (tables_of catalog) select) c.in-Err.fault c.select_status.result c.select_status.ensures (c.in-Err.ensures.shows told (tables_of catalog) rows)
