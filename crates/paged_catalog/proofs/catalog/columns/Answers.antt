use Rattle.std.proofs.Common.{◌∙◌}
use Rattle.paged_catalog.proofs.Meant.{schemas_with}
use Rattle.paged_catalog.proofs.Places.{same_count}
use Rattle.paged_catalog.proofs.catalog.columns.Goals as goal

pub returns : goal.returns
returns g c =
    let t = g.P.Pages.terms in
    let catalog = c.args.catalog.now in
    c.as_slice.ensures.value ∙ schemas_with t catalog.tables.items catalog.rows.items (same_count t catalog.page_bytes catalog.tables.items catalog.rows.items c.requires.stands.tables)
