use Rattle.std.specs.FinMap.{get}
use Rattle.std.proofs.lemmas.Option.{IfSome_then}
use Rattle.csv_tables.specs.Loading.{named_rows}
use Rattle.paged_catalog.specs.Meaning.{catalog_of}
use Rattle.row_image.specs.Rules.{text_limit}
use Rattle.script_says.specs.Catalog.{table_at}
use Rattle.statement_run.proofs.Steps.{load_done, load_refused}
use Rattle.statement_run.proofs.copying.load.Goals as goal

pub returns-in-Ok-clause-step : goal.returns-in-Ok-clause-step
returns-in-Ok-clause-step g c =
    let t = g.P.Pages.terms in
    let catalog = catalog_of t c.args.catalog.now in
    let name = c.args.name.now in
    IfSome_then (g.F.Files.holds c.args.files.now) c.in-Ok.ensures.loads
    (λ held loads. load_done c.args.number catalog (catalog_of t c.load_table.new.catalog) name (table_at catalog name)
    (λ columns. named_rows columns c.args.options.now (text_limit (g.P.Pages.view c.args.pages.now).page_bytes) (get held c.args.file.now)) c.new.result.items c.requires.there c.new.ensures.items loads)

pub returns-in-Err-clause-step : goal.returns-in-Err-clause-step
returns-in-Err-clause-step g c =
    let t = g.P.Pages.terms in
    let catalog = catalog_of t c.args.catalog.now in
    let name = c.args.name.now in
    IfSome_then (g.F.Files.holds c.args.files.now) c.in-Err.ensures.loads
    (λ held loads. load_refused c.args.number catalog (catalog_of t c.load_table.new.catalog) name (table_at catalog name)
    (λ columns. named_rows columns c.args.options.now (text_limit (g.P.Pages.view c.args.pages.now).page_bytes) (get held c.args.file.now)) c.in-Err.fault c.load_status.result c.requires.there c.load_status.ensures loads)
