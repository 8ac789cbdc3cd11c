use Rattle.std.proofs.Common.{ℕ, ◌+◌, ap, arith, subst}
use Rattle.paged_catalog.specs.Meaning.{catalog_of}
use Rattle.paged_catalog.proofs.Leaving.{idle_still}
use Rattle.script_says.specs.Catalog.{Catalog, no_tables}
use Rattle.catalog_bound.specs.Bound.{catalog_need}
use Rattle.script_run.proofs.Told.{IsSaid}
use Rattle.script_run.proofs.Ran.{RanTo, ran_within}
use Rattle.script_run.proofs.Causing.{cause_later}
use Rattle.script_run.proofs.Opening.{from_nothing}
use Rattle.script_run.proofs.over.run_over.Goals as goal

pub retire_catalog-requires-clause-idle : goal.retire_catalog-requires-clause-idle
retire_catalog-requires-clause-idle g c =
    let view = g.P.Pages.view in
    let ran = c.run_statements-status in
    idle_still g.P.Pages.terms (view c.args.pages.now) (view ran.new.pages) c.new_catalog-catalog.result ran.new.catalog ran.ensures.leaves c.requires.idle

pub returns-clause-says : goal.returns-clause-says
returns-clause-says g c = λ told.
    subst (λ (m : Catalog). IsSaid (g.P.Pages.view c.args.pages.now).page_bytes c.args.script.now m c.args.statements.now (g.F.Files.holds c.args.files.now) (g.K.Sink.written c.args.out.now) (g.K.Sink.written c.run_statements-status.new.out) c.run_statements-status.result)
    c.new_catalog-catalog.ensures.tables (c.run_statements-status.ensures.says told)

pub returns-clause-changes : goal.returns-clause-changes
returns-clause-changes g c =
    let view = g.P.Pages.view in
    let ran = c.run_statements-status in
    let new = c.new_catalog-catalog in
    from_nothing g.P.Pages.terms (view c.args.pages.now) (view ran.new.pages) (view c.retire_catalog.new.pages) new.result ran.new.catalog new.ensures.stands new.ensures.tables ran.ensures.leaves c.retire_catalog.ensures

pub returns-clause-cause : goal.returns-clause-cause
returns-clause-cause g c =
    let view = g.P.Pages.view in
    let ran = c.run_statements-status in
    cause_later g.P.Pages.terms.told (g.F.Files.faults c.args.files.now) (g.F.Files.faults ran.new.files) (view c.args.pages.now).faults (view ran.new.pages).faults (view c.retire_catalog.new.pages).faults ran.result c.retire_catalog.ensures.faults ran.ensures.cause

pub returns-clause-bound : goal.returns-clause-bound
returns-clause-bound g c = λ told spills done below.
    let view = g.P.Pages.view in
    let ran = c.run_statements-status in
    let a = view c.args.pages.now in
    let d = view c.retire_catalog.new.pages in
    let holds = g.F.Files.holds c.args.files.now in
    let old = g.K.Sink.written c.args.out.now in
    let new = g.K.Sink.written ran.new.out in
    let last = catalog_of g.P.Pages.terms ran.new.catalog in
    let rises = c.retire_catalog.ensures.counted.wrote in
    let grant = ran.ensures.leaves.changes.grant in
    let need = ap (λ (n : ℕ). catalog_need n last) ran.ensures.leaves.changes.page_bytes in
    let law = c.catalog_was_written.ensures spills (omega (arith, below, rises)) in
    ran_within a.page_bytes c.args.script.now no_tables c.args.statements.now holds old new last (a.grant + d.wrote)
    (subst (λ (m : Catalog). RanTo a.page_bytes c.args.script.now m c.args.statements.now holds old new last) c.new_catalog-catalog.ensures.tables (ran.ensures.ran told done))
    (omega (arith, law, need, rises, grant))
