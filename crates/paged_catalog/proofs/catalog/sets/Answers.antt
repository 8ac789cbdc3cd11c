use Rattle.std.proofs.Common.{◌≡◌, subst, false, arith}
use Rattle.paged_catalog.specs.Finding.{has_table, IsFirst}
use Rattle.paged_catalog.proofs.Named.{first_within}
use Rattle.paged_catalog.proofs.Meant.{absent}
use Rattle.paged_catalog.proofs.Places.{same_count}
use Rattle.paged_catalog.proofs.Reading.{sets_found}
use Rattle.paged_catalog.proofs.catalog.sets.Goals as goal

pub index-requires : goal.index-requires
index-requires g c =
    let catalog = c.args.catalog.now in
    let first = subst (λ ts. IsFirst ts c.args.name.now c.in-Some.place) c.as_slice.ensures.value c.in-Some.ensures in
    let within = first_within catalog.tables.items c.args.name.now c.in-Some.place first in
    let count = same_count g.P.Pages.terms catalog.page_bytes catalog.tables.items catalog.rows.items c.requires.stands.tables in
    let as_length = catalog.rows.ok.0 in
    omega (arith, within, count, as_length)

pub returns-in-Some : goal.returns-in-Some
returns-in-Some g c =
    let first = subst (λ ts. IsFirst ts c.args.name.now c.in-Some.place) c.as_slice.ensures.value c.in-Some.ensures in
    sets_found g.P.Pages.terms (g.P.Pages.view c.args.pages.now) (g.met.P.Pages.among_held c.args.pages.now) c.requires.idle c.args.catalog.now c.args.name.now c.in-Some.place c.index.result.now c.as_slice-in-Some.result.now
    c.requires.stands c.requires.here first c.index.ensures c.as_slice-in-Some.ensures.value

pub returns-in-None : goal.returns-in-None
returns-in-None g c =
    let catalog = c.args.catalog.now in
    absent g.P.Pages.terms catalog.tables.items catalog.rows.items c.args.name.now (subst (λ ts. has_table ts c.args.name.now ≡ false) c.as_slice.ensures.value c.in-None.ensures)
