use Rattle.std.proofs.Common.{◌≡◌, ◌++◌, ◌∷◌, [], sym, ◌∙◌, refl}
use Rattle.sql_scope.specs.declared.scope.TableColumns.{TableColumns}
use Rattle.paged_catalog.specs.declared.catalog.TableRows.{TableRows}
use Rattle.paged_catalog.proofs.Named.{pushed}
use Rattle.paged_catalog.proofs.Meant.{there, created}
use Rattle.paged_catalog.proofs.Places.{same_count}
use Rattle.paged_catalog.proofs.Left.{leaves_created}
use Rattle.paged_catalog.proofs.catalog.create_table.Goals as goal

pub returns-clause-created : goal.returns-clause-created
returns-clause-created g c =
    let t = g.P.Pages.terms in
    let catalog = c.args.catalog.now in
    let count = same_count t catalog.page_bytes catalog.tables.items catalog.rows.items c.requires.stands.tables in
    let one : TableColumns = record { name = c.args.name; columns = c.args.columns } in
    let more : TableRows g.row.P-Page.Denot = record { sets = c.new.result } in
    let tables : c.put.new.list.items ≡ catalog.tables.items ++ one ∷ [] = pushed catalog.tables.items c.reserve.new.self.items c.put.new.list.items one c.reserve.ensures.items c.put.ensures in
    let rows : c.put-2.new.list.items ≡ catalog.rows.items ++ more ∷ [] = pushed catalog.rows.items c.reserve-2.new.self.items c.put-2.new.list.items more c.reserve-2.ensures.items c.put-2.ensures in
    created t catalog.tables.items c.put.new.list.items catalog.rows.items c.put-2.new.list.items one more count tables rows c.new.ensures.items

pub returns-clause-leaves : goal.returns-clause-leaves
returns-clause-leaves g c =
    let t = g.P.Pages.terms in
    let catalog = c.args.catalog.now in
    let count = same_count t catalog.page_bytes catalog.tables.items catalog.rows.items c.requires.stands.tables in
    let one : TableColumns = record { name = c.args.name; columns = c.args.columns } in
    let more : TableRows g.row.P-Page.Denot = record { sets = c.new.result } in
    leaves_created t (g.P.Pages.view c.args.pages.now) catalog _ one more c.requires.stands c.requires.here
    (sym (there t catalog.tables.items catalog.rows.items c.args.name count) ∙ c.requires.free)
    (record { some = c.requires.some; few = c.requires.few; typed = c.requires.typed }) c.new.ensures.items refl
    (pushed catalog.tables.items c.reserve.new.self.items c.put.new.list.items one c.reserve.ensures.items c.put.ensures)
    (pushed catalog.rows.items c.reserve-2.new.self.items c.put-2.new.list.items more c.reserve-2.ensures.items c.put-2.ensures)
