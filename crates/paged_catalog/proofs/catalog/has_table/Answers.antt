use Rattle.std.proofs.Common.{◌≡◌, false, sym, subst, ◌∙◌}
use Rattle.std.specs.Prelude.{MatchOption}
use Rattle.paged_catalog.specs.Finding.{has_table, IsFirst}
use Rattle.paged_catalog.proofs.Named.{has_placed}
use Rattle.paged_catalog.proofs.Meant.{there}
use Rattle.paged_catalog.proofs.Places.{same_count}
use Rattle.paged_catalog.proofs.catalog.has_table.Goals as goal

pub returns : goal.returns
returns g c =
    let t = g.P.Pages.terms in
    let catalog = c.args.catalog.now in
    let ts = catalog.tables.items in
    let name = c.args.name.now in
    let count = same_count t catalog.page_bytes ts catalog.rows.items c.requires.stands.tables in
    let placed = subst (λ l. MatchOption c.place_of.result (has_table l name ≡ false) (IsFirst l name)) c.as_slice.ensures.value c.place_of.ensures in
    c.is_some.ensures ∙ sym (has_placed ts name c.place_of.result placed) ∙ sym (there t ts catalog.rows.items name count)
