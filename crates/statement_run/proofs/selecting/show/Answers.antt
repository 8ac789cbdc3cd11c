use Rattle.std.proofs.Common.{sym, ◌∙◌, Err}
use Rattle.ooc_types.specs.declared.refusal.RefusalKind.TheVariants.{NotBuilt}
use Rattle.run_settings.specs.declared.status.Place.TheVariants.{Whole}
use Rattle.paged_catalog.specs.Meaning.{catalog_of}
use Rattle.script_says.specs.Catalog.{tables_of}
use Rattle.script_says.specs.Outcome.{refusal_at, stops_at}
use Rattle.script_says.specs.Selecting.{shown}
use Rattle.table_scan.specs.Scan.{is_scan}
use Rattle.statement_run.specs.Running.{showing}
use Rattle.statement_run.proofs.Steps.{step_else, step_stops}
use Rattle.statement_run.proofs.selecting.show.Goals as goal

pub returns-clause-step : goal.returns-clause-step
returns-clause-step g c = λ told.
    let catalog = catalog_of g.P.Pages.terms c.args.catalog.now in
    let number = c.args.number in
    let select = c.args.select.now in
    step_else (is_scan select) (showing number catalog (shown (tables_of catalog) select)) (stops_at number Whole NotBuilt) catalog (Err c.refuse.result) (sym c.is_scan.ensures ∙ c.if-is_scan.false)
    (step_stops catalog (refusal_at number Whole NotBuilt) c.refuse.result c.refuse.ensures)
