use Rattle.std.proofs.Common.{◌≡◌, ◌<◌, ◌≤◌, ap, sym, subst, ◌∙◌, arith, length, min, get_or}
use Rattle.sql_scope.specs.declared.scope.TableColumns.{TableColumns}
use Rattle.sql_plan.specs.declared.counts.TableCount.{TableCount}
use Rattle.script_says.specs.Catalog.{most_counted}
use Rattle.paged_catalog.specs.declared.catalog.TableRows.{TableRows}
use Rattle.paged_catalog.specs.Meaning.{sets_rows}
use Rattle.paged_catalog.specs.Stands.{AllFormed}
use Rattle.paged_catalog.specs.Counting.{count_of}
use Rattle.paged_catalog.proofs.Places.{same_count, table_at, sets_formed}
use Rattle.paged_catalog.proofs.Counted.{counted_more, counted_all}
use Rattle.paged_catalog.proofs.counting.counts.Goals as goal

pub bounds-rows-place : goal.bounds-rows-place
bounds-rows-place g c =
    let t = g.P.Pages.terms in
    let catalog = c.args.catalog.now in
    let ts = catalog.tables.items in
    let rs = catalog.rows.items in
    let place = c.loop-place.place in
    let tables = c.as_slice-tables.ensures.value in
    let rows = c.as_slice-rows.ensures.value in
    let in_tables : place < length ts = subst (λ l. place < length l) tables c.loop-place-test.true in
    let count = same_count t catalog.page_bytes ts rs c.requires.stands.tables in
    let in_rows : place < length rs = omega (arith, in_tables, count) in
    subst (λ l. place < length l) (sym rows) in_rows

pub rows_of-rows-requires : goal.rows_of-rows-requires
rows_of-rows-requires g c =
    let t = g.P.Pages.terms in
    let catalog = c.args.catalog.now in
    let ts = catalog.tables.items in
    let rs = catalog.rows.items in
    let place = c.loop-place.place in
    let tables = c.as_slice-tables.ensures.value in
    let rows = c.as_slice-rows.ensures.value in
    let in_tables : place < length ts = subst (λ l. place < length l) tables c.loop-place-test.true in
    let count = same_count t catalog.page_bytes ts rs c.requires.stands.tables in
    let in_rows : place < length rs = omega (arith, in_tables, count) in
    let x = c.index-tables-place.result in
    let y = c.index-rows-place.result in
    let x_is : x ≡ get_or ts place x = subst (λ l. x ≡ get_or l place x) tables c.index-tables-place.is in
    let y_is : y ≡ get_or rs place y = subst (λ l. y ≡ get_or l place y) rows c.index-rows-place.is in
    let sets : c.as_slice.result.now ≡ y.sets.items = c.as_slice.ensures.value ∙ ap (λ (k : TableRows g.row.P-Page.Denot). k.sets.items) (sym c.index-rows-place.is) in
    let table = table_at t catalog.page_bytes ts rs place x y in_rows x_is y_is c.requires.stands.tables in
    record { formed = subst (AllFormed t (g.P.Pages.view c.args.pages.now).page_bytes) (sym sets) (subst (λ n. AllFormed t n y.sets.items) c.requires.here.page_bytes (sets_formed t catalog.page_bytes x.columns y.sets.items table.sets)) }

pub loop-place-preserved : goal.loop-place-preserved
loop-place-preserved g c =
    let t = g.P.Pages.terms in
    let catalog = c.args.catalog.now in
    let ts = catalog.tables.items in
    let rs = catalog.rows.items in
    let place = c.loop-place.place in
    let tables = c.as_slice-tables.ensures.value in
    let rows = c.as_slice-rows.ensures.value in
    let in_tables : place < length ts = subst (λ l. place < length l) tables c.loop-place-test.true in
    let count = same_count t catalog.page_bytes ts rs c.requires.stands.tables in
    let in_rows : place < length rs = omega (arith, in_tables, count) in
    let x = c.index-tables-place.result in
    let y = c.index-rows-place.result in
    let x_is : x ≡ get_or ts place x = subst (λ l. x ≡ get_or l place x) tables c.index-tables-place.is in
    let y_is : y ≡ get_or rs place y = subst (λ l. y ≡ get_or l place y) rows c.index-rows-place.is in
    let one : TableCount = record { name = c.in_ok-name.name; rows = c.rows_of-rows.result } in
    let sets : c.as_slice.result.now ≡ y.sets.items = c.as_slice.ensures.value ∙ ap (λ (k : TableRows g.row.P-Page.Denot). k.sets.items) (sym c.index-rows-place.is) in
    let counted : c.rows_of-rows.result ≡ min (length (sets_rows t y.sets.items)) most_counted = c.rows_of-rows.ensures ∙ ap (λ ss. min (length (sets_rows t ss)) most_counted) sets in
    let named : c.in_ok-name.name ≡ x.name = c.in_ok-name.ensures.cases ∙ ap (λ (k : TableColumns). k.name) (sym c.index-tables-place.is) in
    let is : one ≡ count_of t x y = ap (λ n. record { name = n; rows = c.rows_of-rows.result }) named ∙ ap (λ k. record { name = x.name; rows = k }) counted in
    counted_more t ts rs place x y c.loop-place.counts.items c.push.new.self.items one in_tables in_rows x_is y_is c.loop-place.invariant c.in_ok-push.ensures.items is

pub returns : goal.returns
returns g c =
    let catalog = c.args.catalog.now in
    let tables = c.as_slice-tables.ensures.value in
    counted_all g.P.Pages.terms catalog.tables.items catalog.rows.items c.loop-place.place c.loop-place.counts.items (subst (λ l. length l ≤ c.loop-place.place) tables c.loop-place-test.false) c.loop-place.invariant
