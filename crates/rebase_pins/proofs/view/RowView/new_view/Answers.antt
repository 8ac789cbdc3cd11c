use Rattle.std.proofs.Common.{ap, ◌∙◌}
use Rattle.row_image.specs.declared.image.ImageKind.TheVariants.{Rows}
use Rattle.row_image.specs.Flat.{flat}
use Rattle.rebase_pins.specs.RowPages.{changed}
use Rattle.rebase_pins.specs.Rows.{content_or_none}
use Rattle.rebase_pins.proofs.Told.{few_under, rows_told, heap_told, rows_equal}
use Rattle.rebase_pins.proofs.view.RowView.new_view.Goals as goal

pub returns-clause-told : goal.returns-clause-told
returns-clause-told g c = λ told.
    let t = g.P.Pages.terms in
    let a = g.P.Pages.view c.args.pages.now in
    let pins = c.args.pins.now in
    let kinds = c.args.layout.now in
    let own = c.requires.own in
    let formed = c.requires.formed in
    let shown = g.met.P.Pages.shown c.args.pages.now in
    rows_equal kinds (flat (Rows kinds) c.bytes-image.result.now) (t.content (t.under pins.rows))
    c.part_sight.result.heap.now (content_or_none t (changed t.under pins.heap0))
    c.part_sight-2.result.heap.now (content_or_none t (changed t.under pins.heap1))
    c.part_sight-3.result.heap.now (content_or_none t (changed t.under pins.heap2))
    c.part_sight-4.result.heap.now (content_or_none t (changed t.under pins.heap3))
    (ap (flat (Rows kinds)) c.bytes-image.ensures ∙ rows_told t a.page_bytes told kinds pins.rows (shown pins.rows own.rows) formed.rows)
    (c.part_sight.ensures.heap ∙ c.heap_bytes.ensures ∙ heap_told t a.page_bytes told pins.heap0 a (λ q valid. shown q valid) own.heap0 formed.heap0)
    (c.part_sight-2.ensures.heap ∙ c.heap_bytes-2.ensures ∙ heap_told t a.page_bytes told pins.heap1 a (λ q valid. shown q valid) own.heap1 formed.heap1)
    (c.part_sight-3.ensures.heap ∙ c.heap_bytes-3.ensures ∙ heap_told t a.page_bytes told pins.heap2 a (λ q valid. shown q valid) own.heap2 formed.heap2)
    (c.part_sight-4.ensures.heap ∙ c.heap_bytes-4.ensures ∙ heap_told t a.page_bytes told pins.heap3 a (λ q valid. shown q valid) own.heap3 formed.heap3)

pub part_sight-requires-clause-few : goal.part_sight-requires-clause-few
part_sight-requires-clause-few g c =
    let t = g.P.Pages.terms in
    let shows = g.met.P.Pages.shown c.args.pages.now c.args.pins.now.rows c.requires.own.rows in
    few_under t (g.P.Pages.view c.args.pages.now).page_bytes c.args.layout.now c.args.pins.now.rows c.bytes-image.result.now shows c.requires.formed.rows c.bytes-image.ensures

pub part_sight-requires-2-clause-few : goal.part_sight-requires-2-clause-few
part_sight-requires-2-clause-few g c =
    let t = g.P.Pages.terms in
    let shows = g.met.P.Pages.shown c.args.pages.now c.args.pins.now.rows c.requires.own.rows in
    few_under t (g.P.Pages.view c.args.pages.now).page_bytes c.args.layout.now c.args.pins.now.rows c.bytes-image.result.now shows c.requires.formed.rows c.bytes-image.ensures

pub part_sight-requires-3-clause-few : goal.part_sight-requires-3-clause-few
part_sight-requires-3-clause-few g c =
    let t = g.P.Pages.terms in
    let shows = g.met.P.Pages.shown c.args.pages.now c.args.pins.now.rows c.requires.own.rows in
    few_under t (g.P.Pages.view c.args.pages.now).page_bytes c.args.layout.now c.args.pins.now.rows c.bytes-image.result.now shows c.requires.formed.rows c.bytes-image.ensures

pub part_sight-requires-4-clause-few : goal.part_sight-requires-4-clause-few
part_sight-requires-4-clause-few g c =
    let t = g.P.Pages.terms in
    let shows = g.met.P.Pages.shown c.args.pages.now c.args.pins.now.rows c.requires.own.rows in
    few_under t (g.P.Pages.view c.args.pages.now).page_bytes c.args.layout.now c.args.pins.now.rows c.bytes-image.result.now shows c.requires.formed.rows c.bytes-image.ensures
