use Rattle.std.proofs.Common.{◌≡◌, ◌<◌, ap, subst, ◌∙◌, refl, false, arith, length}
use Rattle.std.specs.List.{remove}
use Rattle.paged_catalog.specs.Finding.{has_table, IsFirst}
use Rattle.paged_catalog.specs.Meaning.{tables_with}
use Rattle.paged_catalog.specs.Stands.{AllFormed}
use Rattle.paged_catalog.proofs.Named.{first_within, found}
use Rattle.paged_catalog.proofs.Meant.{removed_first, removed_none}
use Rattle.paged_catalog.proofs.Places.{same_count, table_at, sets_formed}
use Rattle.paged_catalog.proofs.Left.{table_retirable, leaves_dropped}
use Rattle.paged_catalog.proofs.catalog.drop_table.Goals as goal

pub remove-columns-requires : goal.remove-columns-requires
remove-columns-requires g c =
    let catalog = c.args.catalog.now in
    let first = subst (λ ts. IsFirst ts c.args.name.now c.in-Some.place) c.as_slice.ensures.value c.in-Some.ensures in
    let within = first_within catalog.tables.items c.args.name.now c.in-Some.place first in
    let as_length = catalog.tables.ok.0 in
    omega (arith, within, as_length)

pub remove-sets-requires : goal.remove-sets-requires
remove-sets-requires g c =
    let catalog = c.args.catalog.now in
    let first = subst (λ ts. IsFirst ts c.args.name.now c.in-Some.place) c.as_slice.ensures.value c.in-Some.ensures in
    let within = first_within catalog.tables.items c.args.name.now c.in-Some.place first in
    let count = same_count g.P.Pages.terms catalog.page_bytes catalog.tables.items catalog.rows.items c.requires.stands.tables in
    let as_length = catalog.rows.ok.0 in
    omega (arith, within, count, as_length)

pub retire_sets-requires-clause-formed : goal.retire_sets-requires-clause-formed
retire_sets-requires-clause-formed g c =
    let t = g.P.Pages.terms in
    let catalog = c.args.catalog.now in
    let first = subst (λ ts. IsFirst ts c.args.name.now c.in-Some.place) c.as_slice.ensures.value c.in-Some.ensures in
    let in_names = first_within catalog.tables.items c.args.name.now c.in-Some.place first in
    let count = same_count t catalog.page_bytes catalog.tables.items catalog.rows.items c.requires.stands.tables in
    let within : c.in-Some.place < length catalog.rows.items = omega (arith, in_names, count) in
    let columns = found catalog.tables.items c.args.name.now c.in-Some.place first in
    let table = table_at t catalog.page_bytes catalog.tables.items catalog.rows.items c.in-Some.place columns.0 c.remove-sets.result within columns.1 c.remove-sets.ensures.value c.requires.stands.tables in
    subst (λ n. AllFormed t n c.remove-sets.result.sets.items) c.requires.here.page_bytes (sets_formed t catalog.page_bytes columns.0.columns c.remove-sets.result.sets.items table.sets)

pub retire_sets-requires-clause-retirable : goal.retire_sets-requires-clause-retirable
retire_sets-requires-clause-retirable g c =
    let t = g.P.Pages.terms in
    let catalog = c.args.catalog.now in
    let first = subst (λ ts. IsFirst ts c.args.name.now c.in-Some.place) c.as_slice.ensures.value c.in-Some.ensures in
    let in_names = first_within catalog.tables.items c.args.name.now c.in-Some.place first in
    let count = same_count t catalog.page_bytes catalog.tables.items catalog.rows.items c.requires.stands.tables in
    let within : c.in-Some.place < length catalog.rows.items = omega (arith, in_names, count) in
    table_retirable t (g.P.Pages.view c.args.pages.now) catalog c.in-Some.place c.remove-sets.result c.requires.stands c.requires.here (g.met.P.Pages.among_held c.args.pages.now) c.requires.idle within c.remove-sets.ensures.value

pub returns-in-Some-clause-dropped : goal.returns-in-Some-clause-dropped
returns-in-Some-clause-dropped g c =
    let t = g.P.Pages.terms in
    let catalog = c.args.catalog.now in
    let first = subst (λ ts. IsFirst ts c.args.name.now c.in-Some.place) c.as_slice.ensures.value c.in-Some.ensures in
    let in_names = first_within catalog.tables.items c.args.name.now c.in-Some.place first in
    let count = same_count t catalog.page_bytes catalog.tables.items catalog.rows.items c.requires.stands.tables in
    let within : c.in-Some.place < length catalog.rows.items = omega (arith, in_names, count) in
    ap (λ ts. tables_with t ts c.remove-sets.new.self.items) c.remove-columns.ensures.items
    ∙ ap (tables_with t (remove catalog.tables.items c.in-Some.place)) c.remove-sets.ensures.items
    ∙ removed_first t catalog.tables.items catalog.rows.items c.args.name.now c.in-Some.place first within

pub returns-in-Some-clause-leaves : goal.returns-in-Some-clause-leaves
returns-in-Some-clause-leaves g c =
    let t = g.P.Pages.terms in
    let catalog = c.args.catalog.now in
    let first = subst (λ ts. IsFirst ts c.args.name.now c.in-Some.place) c.as_slice.ensures.value c.in-Some.ensures in
    let in_names = first_within catalog.tables.items c.args.name.now c.in-Some.place first in
    let count = same_count t catalog.page_bytes catalog.tables.items catalog.rows.items c.requires.stands.tables in
    let within : c.in-Some.place < length catalog.rows.items = omega (arith, in_names, count) in
    leaves_dropped t (g.P.Pages.view c.args.pages.now) (g.P.Pages.view c.retire_sets.new.pages) catalog _ c.requires.stands c.requires.here refl
    c.in-Some.place c.remove-sets.result within c.remove-sets.ensures.value c.remove-columns.ensures.items c.remove-sets.ensures.items c.retire_sets.ensures

pub returns-in-None-clause-dropped : goal.returns-in-None-clause-dropped
returns-in-None-clause-dropped g c =
    let catalog = c.args.catalog.now in
    removed_none g.P.Pages.terms catalog.tables.items catalog.rows.items c.args.name.now (subst (λ ts. has_table ts c.args.name.now ≡ false) c.as_slice.ensures.value c.in-None.ensures)
