use Rattle.std.proofs.Common.{subst}
use Rattle.std.specs.Prelude.{IfSome}
use Rattle.row_image.specs.Rules.{text_limit}
use Rattle.csv_tables.specs.Stored.{AreOf}
use Rattle.script_says.specs.Catalog.{table_at}
use Rattle.paged_catalog.specs.Meaning.{catalog_of}
use Rattle.paged_catalog.proofs.Rows.{rows_are_of}
use Rattle.paged_catalog.proofs.laws.rows_are_of_their_columns.Goals as goal

pub returns : goal.returns
returns g c = λ name.
    let t = g.P.Pages.terms in
    let catalog = c.args.catalog.now in
    subst (λ n. IfSome (table_at (catalog_of t catalog) name) (λ table. AreOf (text_limit n) table.columns table.rows)) c.requires.here.page_bytes
    (rows_are_of t catalog.page_bytes catalog.tables.items catalog.rows.items name c.requires.stands.tables)
