use Rattle.std.proofs.Common.{◌≡◌, ◌<◌, subst, refl, false, arith, length}
use Rattle.std.specs.FinMap.{get}
use Rattle.row_image.specs.Rules.{text_limit}
use Rattle.csv_tables.specs.Loading.{named_rows}
use Rattle.paged_catalog.specs.Finding.{has_table, IsFirst}
use Rattle.paged_catalog.proofs.Named.{first_within}
use Rattle.paged_catalog.proofs.Places.{same_count, table_at}
use Rattle.paged_catalog.proofs.Loaded.{there_first, meant_into, adds_some, adds_none, leaves_tried}
use Rattle.paged_catalog.proofs.catalog.load_table.Goals as goal

pub index-table-requires : goal.index-table-requires
index-table-requires g c =
    let catalog = c.args.catalog.now in
    let name = c.args.name.now in
    let place = c.in-Some.place in
    let first = subst (λ ts. IsFirst ts name place) c.as_slice.ensures.value c.in-Some.ensures in
    let in_names = first_within catalog.tables.items name place first in
    let as_length = catalog.tables.ok.0 in
    omega (arith, in_names, as_length)

pub index_mut-rows-requires : goal.index_mut-rows-requires
index_mut-rows-requires g c =
    let catalog = c.args.catalog.now in
    let name = c.args.name.now in
    let place = c.in-Some.place in
    let first = subst (λ ts. IsFirst ts name place) c.as_slice.ensures.value c.in-Some.ensures in
    let in_names = first_within catalog.tables.items name place first in
    let count = same_count g.P.Pages.terms catalog.page_bytes catalog.tables.items catalog.rows.items c.requires.stands.tables in
    let within : place < length catalog.rows.items = omega (arith, in_names, count) in
    let as_length = catalog.rows.ok.0 in
    omega (arith, within, as_length)

pub add_set-requires-clause-some : goal.add_set-requires-clause-some
add_set-requires-clause-some g c =
    let catalog = c.args.catalog.now in
    let name = c.args.name.now in
    let place = c.in-Some.place in
    let first = subst (λ ts. IsFirst ts name place) c.as_slice.ensures.value c.in-Some.ensures in
    let in_names = first_within catalog.tables.items name place first in
    let count = same_count g.P.Pages.terms catalog.page_bytes catalog.tables.items catalog.rows.items c.requires.stands.tables in
    let within : place < length catalog.rows.items = omega (arith, in_names, count) in
    (table_at g.P.Pages.terms catalog.page_bytes catalog.tables.items catalog.rows.items place c.index-table.result.now c.index_mut-rows.result.now within c.index-table.ensures c.index_mut-rows.ensures.value c.requires.stands.tables).columns.some

pub add_set-requires-clause-few : goal.add_set-requires-clause-few
add_set-requires-clause-few g c =
    let catalog = c.args.catalog.now in
    let name = c.args.name.now in
    let place = c.in-Some.place in
    let first = subst (λ ts. IsFirst ts name place) c.as_slice.ensures.value c.in-Some.ensures in
    let in_names = first_within catalog.tables.items name place first in
    let count = same_count g.P.Pages.terms catalog.page_bytes catalog.tables.items catalog.rows.items c.requires.stands.tables in
    let within : place < length catalog.rows.items = omega (arith, in_names, count) in
    (table_at g.P.Pages.terms catalog.page_bytes catalog.tables.items catalog.rows.items place c.index-table.result.now c.index_mut-rows.result.now within c.index-table.ensures c.index_mut-rows.ensures.value c.requires.stands.tables).columns.few

pub add_set-requires-clause-typed : goal.add_set-requires-clause-typed
add_set-requires-clause-typed g c =
    let catalog = c.args.catalog.now in
    let name = c.args.name.now in
    let place = c.in-Some.place in
    let first = subst (λ ts. IsFirst ts name place) c.as_slice.ensures.value c.in-Some.ensures in
    let in_names = first_within catalog.tables.items name place first in
    let count = same_count g.P.Pages.terms catalog.page_bytes catalog.tables.items catalog.rows.items c.requires.stands.tables in
    let within : place < length catalog.rows.items = omega (arith, in_names, count) in
    (table_at g.P.Pages.terms catalog.page_bytes catalog.tables.items catalog.rows.items place c.index-table.result.now c.index_mut-rows.result.now within c.index-table.ensures c.index_mut-rows.ensures.value c.requires.stands.tables).columns.typed

pub unreachable-requires : goal.unreachable-requires
unreachable-requires g c =
    let catalog = c.args.catalog.now in
    there_first g.P.Pages.terms catalog.tables.items catalog.rows.items c.args.name.now c.requires.there (subst (λ ts. has_table ts c.args.name.now ≡ false) c.as_slice.ensures.value c.in-None.ensures)

pub returns-clause-loads : goal.returns-clause-loads
returns-clause-loads g c =
    let catalog = c.args.catalog.now in
    let name = c.args.name.now in
    let place = c.in-Some.place in
    let first = subst (λ ts. IsFirst ts name place) c.as_slice.ensures.value c.in-Some.ensures in
    let in_names = first_within catalog.tables.items name place first in
    let count = same_count g.P.Pages.terms catalog.page_bytes catalog.tables.items catalog.rows.items c.requires.stands.tables in
    let within : place < length catalog.rows.items = omega (arith, in_names, count) in
    meant_into g.P.Pages.terms catalog.tables.items catalog.rows.items name place c.index-table.result.now c.index_mut-rows.result.now c.add_set.new.rows first within c.index-table.ensures c.index_mut-rows.ensures.value
    (g.F.Files.holds c.args.files.now) (λ held columns. named_rows columns c.args.options.now (text_limit (g.P.Pages.view c.args.pages.now).page_bytes) (get held c.args.file.now)) c.add_set.result c.add_set.ensures.loads

pub returns-clause-adds : goal.returns-clause-adds
returns-clause-adds g c =
    let catalog = c.args.catalog.now in
    let name = c.args.name.now in
    let place = c.in-Some.place in
    let first = subst (λ ts. IsFirst ts name place) c.as_slice.ensures.value c.in-Some.ensures in
    let in_names = first_within catalog.tables.items name place first in
    let count = same_count g.P.Pages.terms catalog.page_bytes catalog.tables.items catalog.rows.items c.requires.stands.tables in
    let within : place < length catalog.rows.items = omega (arith, in_names, count) in
    adds_some g.P.Pages.terms catalog.tables.items catalog.rows.items name place c.index-table.result.now c.index_mut-rows.result.now c.add_set.new.rows first within c.index-table.ensures c.index_mut-rows.ensures.value
    c.index-table.result.now.columns (g.P.Pages.view c.args.pages.now) (g.P.Pages.view c.add_set.new.pages) c.add_set.result c.add_set.ensures.adds

pub returns-clause-same : goal.returns-clause-same
returns-clause-same g c =
    let catalog = c.args.catalog.now in
    let name = c.args.name.now in
    let place = c.in-Some.place in
    let first = subst (λ ts. IsFirst ts name place) c.as_slice.ensures.value c.in-Some.ensures in
    let in_names = first_within catalog.tables.items name place first in
    let count = same_count g.P.Pages.terms catalog.page_bytes catalog.tables.items catalog.rows.items c.requires.stands.tables in
    let within : place < length catalog.rows.items = omega (arith, in_names, count) in
    adds_none g.P.Pages.terms catalog.tables.items catalog.rows.items name place c.index-table.result.now c.index_mut-rows.result.now c.add_set.new.rows first within c.index-table.ensures c.index_mut-rows.ensures.value
    c.index-table.result.now.columns (g.P.Pages.view c.args.pages.now) (g.P.Pages.view c.add_set.new.pages) c.add_set.result c.add_set.ensures.adds

pub returns-clause-leaves : goal.returns-clause-leaves
returns-clause-leaves g c =
    let catalog = c.args.catalog.now in
    let name = c.args.name.now in
    let place = c.in-Some.place in
    let first = subst (λ ts. IsFirst ts name place) c.as_slice.ensures.value c.in-Some.ensures in
    let in_names = first_within catalog.tables.items name place first in
    let count = same_count g.P.Pages.terms catalog.page_bytes catalog.tables.items catalog.rows.items c.requires.stands.tables in
    let within : place < length catalog.rows.items = omega (arith, in_names, count) in
    leaves_tried g.P.Pages.terms (g.P.Pages.view c.args.pages.now) (g.P.Pages.view c.add_set.new.pages) catalog _ c.requires.stands c.requires.here refl
    place c.index-table.result.now c.index_mut-rows.result.now c.add_set.new.rows within c.index-table.ensures c.index_mut-rows.ensures.value refl refl c.add_set.result c.add_set.ensures.adds
