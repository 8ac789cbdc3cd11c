use Rattle.std.proofs.Common.{subst, Ok}
use Rattle.bound_tree.specs.declared.statement.Bound.TheVariants.{DropTable, Explain}
use Rattle.paged_catalog.proofs.Leaving.{leaves_kept}
use Rattle.paged_catalog.specs.Meaning.{catalog_of}
use Rattle.plan_text.specs.Explained.{plan_text}
use Rattle.plan_tree.specs.Planned.{plan_of_select}
use Rattle.row_image.specs.Rules.{text_limit}
use Rattle.script_says.specs.Catalog.{counts_of, schemas_of, without_table}
use Rattle.sql_scope.specs.Scopes.{columns_of}
use Rattle.well_formed.specs.Statements.{IsWellFormed}
use Rattle.statement_run.proofs.Binding.{step_of}
use Rattle.statement_run.proofs.Steps.{plan_block, step_gives, step_prints}
use Rattle.statement_run.proofs.Tables.{name_free, name_there, typed_columns}
use Rattle.statement_run.proofs.acting.act.Goals as goal

pub create-requires-clause-free : goal.create-requires-clause-free
create-requires-clause-free g c =
    let catalog = catalog_of g.P.Pages.terms c.args.catalog.now in
    let made = c.in-CreateTable in
    let formed = subst (IsWellFormed (text_limit (g.P.Pages.view c.args.pages.now).page_bytes) (columns_of (schemas_of catalog))) made.is c.requires.formed in
    name_free catalog made.name formed.new

pub create-requires-clause-typed : goal.create-requires-clause-typed
create-requires-clause-typed g c =
    let catalog = catalog_of g.P.Pages.terms c.args.catalog.now in
    let made = c.in-CreateTable in
    let formed = subst (IsWellFormed (text_limit (g.P.Pages.view c.args.pages.now).page_bytes) (columns_of (schemas_of catalog))) made.is c.requires.formed in
    typed_columns made.columns formed.schema.proper

pub copy-requires-clause-there : goal.copy-requires-clause-there
copy-requires-clause-there g c =
    let catalog = catalog_of g.P.Pages.terms c.args.catalog.now in
    let copied = c.in-Copy in
    let formed = subst (IsWellFormed (text_limit (g.P.Pages.view c.args.pages.now).page_bytes) (columns_of (schemas_of catalog))) copied.is c.requires.formed in
    name_there catalog copied.name formed.there

pub returns-in-DropTable-clause-step : goal.returns-in-DropTable-clause-step
returns-in-DropTable-clause-step g c = λ told.
    let t = g.P.Pages.terms in
    let catalog = catalog_of t c.args.catalog.now in
    let new = catalog_of t c.drop_named.new.catalog in
    let name = c.in-DropTable.name in
    step_of (g.F.Files.holds c.args.files.now) (text_limit (g.P.Pages.view c.args.pages.now).page_bytes) c.args.number catalog new c.args.bound (DropTable name) (Ok c.drop_named.result.items) c.in-DropTable.is
    (λ held. step_gives (without_table catalog name) new c.drop_named.result.items c.drop_named.ensures.dropped c.drop_named.ensures.none)

pub returns-in-Ok-clause-step : goal.returns-in-Ok-clause-step
returns-in-Ok-clause-step g c = λ told.
    let t = g.P.Pages.terms in
    let catalog = catalog_of t c.args.catalog.now in
    let select = c.in-Explain.select in
    step_of (g.F.Files.holds c.args.files.now) (text_limit (g.P.Pages.view c.args.pages.now).page_bytes) c.args.number catalog catalog c.args.bound (Explain select) (Ok c.in-Ok.text.items) c.in-Explain.is
    (λ held. step_prints catalog (plan_text (plan_of_select (counts_of catalog) select)) c.in-Ok.text.items c.in-Ok.ensures)

pub returns-in-Ok-clause-block : goal.returns-in-Ok-clause-block
returns-in-Ok-clause-block g c = plan_block (counts_of (catalog_of g.P.Pages.terms c.args.catalog.now)) c.in-Explain.select c.in-Ok.text.items c.in-Ok.ensures

pub returns-clause-leaves : goal.returns-clause-leaves
returns-clause-leaves g c =
    leaves_kept g.P.Pages.terms (g.P.Pages.view c.args.pages.now) (g.P.Pages.view c.show.new.pages) c.args.catalog.now c.requires.stands c.requires.here c.show.ensures.kept
