use Rattle.std.proofs.Common.{subst}
use Rattle.paged_catalog.specs.Meaning.{catalog_ids}
use Rattle.paged_catalog.specs.Stands.{AllRowsFormed}
use Rattle.paged_catalog.proofs.Places.{rows_formed}
use Rattle.paged_catalog.proofs.Paged.{idle_unpinned}
use Rattle.paged_catalog.proofs.retiring.retire_catalog.Goals as goal

pub retire_rows-requires-clause-formed : goal.retire_rows-requires-clause-formed
retire_rows-requires-clause-formed g c =
    let t = g.P.Pages.terms in
    let catalog = c.args.catalog in
    subst (λ n. AllRowsFormed t n catalog.rows.items) c.requires.here.page_bytes (rows_formed t catalog.page_bytes catalog.tables.items catalog.rows.items c.requires.stands.tables)

pub retire_rows-requires-clause-retirable : goal.retire_rows-requires-clause-retirable
retire_rows-requires-clause-retirable g c = record {
  live = c.requires.here.live;
  differ = c.requires.stands.differ;
  unpinned = idle_unpinned g.P.Pages.terms (g.P.Pages.view c.args.pages.now) (catalog_ids g.P.Pages.terms c.args.catalog) (g.met.P.Pages.among_held c.args.pages.now) c.requires.idle;
}
