use Rattle.std.proofs.Common.{sym, ◌∙◌, arith, refl}
use Rattle.row_image.specs.declared.image.ImageKind.TheVariants.{Rows, Heap}
use Rattle.page_body.specs.PageLists.{ids_of}
use Rattle.row_sets.specs.Holds.{nothing, both, pages_only}
use Rattle.row_sets.specs.Sets.{with_heap, pages_in}
use Rattle.row_sets.specs.Given.{open_holding}
use Rattle.row_sets.specs.Writers.{writer_holding, written_pages}
use Rattle.row_sets.proofs.Changed.{changes_as}
use Rattle.row_sets.proofs.Retired.{heap_front, heap_after, heap_gone}
use Rattle.row_sets.proofs.Fresh.{retirable_after, is_open, rows_whole, gone_then, open_same, open_pages, open_pins, open_held}
use Rattle.row_sets.proofs.closing.give_up.Goals as goal

pub discard_open-requires : goal.discard_open-requires
discard_open-requires g c =
    let t = g.P.Pages.terms in
    let w = c.args.writer in
    is_open t (Rows w.layout) w.open_rows w.page_bytes (g.P.Pages.view c.args.pages.now) (rows_whole t w w.open_rows c.requires.writing.open_rows) c.requires.here.page_bytes (λ y. let m = c.requires.here.owned.opens y in omega (arith, m))

pub discard_open-requires-2 : goal.discard_open-requires-2
discard_open-requires-2 g c =
    let t = g.P.Pages.terms in
    let w = c.args.writer in
    is_open t Heap w.open_heap w.page_bytes (g.P.Pages.view c.discard_open.new.pages) c.requires.writing.open_heap (c.requires.here.page_bytes ∙ sym c.discard_open.ensures.page_bytes)
    (λ y. let m = c.requires.here.owned.opens y in let e = c.discard_open.ensures.opens y in let s = open_same t w.open_rows y in omega (arith, m, e, s))

pub retire_heap-requires : goal.retire_heap-requires
retire_heap-requires g c =
    let t = g.P.Pages.terms in
    let w = c.args.writer in
    let v0 = g.P.Pages.view c.args.pages.now in
    let v1 = g.P.Pages.view c.discard_open.new.pages in
    let v2 = g.P.Pages.view c.discard_open-2.new.pages in
    let r0 = retirable_after t (written_pages w) w.open_rows v0 v1 c.discard_open.ensures (record { live = c.requires.here.live; differ = c.requires.writing.differ; unpinned = c.requires.here.unpinned }) in
    let r1 = retirable_after t (written_pages w) w.open_heap v1 v2 c.discard_open-2.ensures r0 in
    heap_front t w.heap0 (with_heap w.heap1 (with_heap w.heap2 (with_heap w.heap3 (pages_in w.pages.items)))) v2 r1

pub retire_heap-requires-2 : goal.retire_heap-requires-2
retire_heap-requires-2 g c =
    let t = g.P.Pages.terms in
    let w = c.args.writer in
    let v0 = g.P.Pages.view c.args.pages.now in
    let v1 = g.P.Pages.view c.discard_open.new.pages in
    let v2 = g.P.Pages.view c.discard_open-2.new.pages in
    let r0 = retirable_after t (written_pages w) w.open_rows v0 v1 c.discard_open.ensures (record { live = c.requires.here.live; differ = c.requires.writing.differ; unpinned = c.requires.here.unpinned }) in
    let r1 = retirable_after t (written_pages w) w.open_heap v1 v2 c.discard_open-2.ensures r0 in
    let v3 = g.P.Pages.view c.retire_heap.new.pages in
    let r2 = heap_after t w.heap0 (with_heap w.heap1 (with_heap w.heap2 (with_heap w.heap3 (pages_in w.pages.items)))) v2 v3 r1 c.retire_heap.ensures in
    heap_front t w.heap1 (with_heap w.heap2 (with_heap w.heap3 (pages_in w.pages.items))) v3 r2

pub retire_heap-requires-3 : goal.retire_heap-requires-3
retire_heap-requires-3 g c =
    let t = g.P.Pages.terms in
    let w = c.args.writer in
    let v0 = g.P.Pages.view c.args.pages.now in
    let v1 = g.P.Pages.view c.discard_open.new.pages in
    let v2 = g.P.Pages.view c.discard_open-2.new.pages in
    let r0 = retirable_after t (written_pages w) w.open_rows v0 v1 c.discard_open.ensures (record { live = c.requires.here.live; differ = c.requires.writing.differ; unpinned = c.requires.here.unpinned }) in
    let r1 = retirable_after t (written_pages w) w.open_heap v1 v2 c.discard_open-2.ensures r0 in
    let v3 = g.P.Pages.view c.retire_heap.new.pages in
    let r2 = heap_after t w.heap0 (with_heap w.heap1 (with_heap w.heap2 (with_heap w.heap3 (pages_in w.pages.items)))) v2 v3 r1 c.retire_heap.ensures in
    let v4 = g.P.Pages.view c.retire_heap-2.new.pages in
    let r3 = heap_after t w.heap1 (with_heap w.heap2 (with_heap w.heap3 (pages_in w.pages.items))) v3 v4 r2 c.retire_heap-2.ensures in
    heap_front t w.heap2 (with_heap w.heap3 (pages_in w.pages.items)) v4 r3

pub retire_heap-requires-4 : goal.retire_heap-requires-4
retire_heap-requires-4 g c =
    let t = g.P.Pages.terms in
    let w = c.args.writer in
    let v0 = g.P.Pages.view c.args.pages.now in
    let v1 = g.P.Pages.view c.discard_open.new.pages in
    let v2 = g.P.Pages.view c.discard_open-2.new.pages in
    let r0 = retirable_after t (written_pages w) w.open_rows v0 v1 c.discard_open.ensures (record { live = c.requires.here.live; differ = c.requires.writing.differ; unpinned = c.requires.here.unpinned }) in
    let r1 = retirable_after t (written_pages w) w.open_heap v1 v2 c.discard_open-2.ensures r0 in
    let v3 = g.P.Pages.view c.retire_heap.new.pages in
    let r2 = heap_after t w.heap0 (with_heap w.heap1 (with_heap w.heap2 (with_heap w.heap3 (pages_in w.pages.items)))) v2 v3 r1 c.retire_heap.ensures in
    let v4 = g.P.Pages.view c.retire_heap-2.new.pages in
    let r3 = heap_after t w.heap1 (with_heap w.heap2 (with_heap w.heap3 (pages_in w.pages.items))) v3 v4 r2 c.retire_heap-2.ensures in
    let v5 = g.P.Pages.view c.retire_heap-3.new.pages in
    let r4 = heap_after t w.heap2 (with_heap w.heap3 (pages_in w.pages.items)) v4 v5 r3 c.retire_heap-3.ensures in
    heap_front t w.heap3 (pages_in w.pages.items) v5 r4

pub retire_pages-requires : goal.retire_pages-requires
retire_pages-requires g c =
    let t = g.P.Pages.terms in
    let w = c.args.writer in
    let v0 = g.P.Pages.view c.args.pages.now in
    let v1 = g.P.Pages.view c.discard_open.new.pages in
    let v2 = g.P.Pages.view c.discard_open-2.new.pages in
    let r0 = retirable_after t (written_pages w) w.open_rows v0 v1 c.discard_open.ensures (record { live = c.requires.here.live; differ = c.requires.writing.differ; unpinned = c.requires.here.unpinned }) in
    let r1 = retirable_after t (written_pages w) w.open_heap v1 v2 c.discard_open-2.ensures r0 in
    let v3 = g.P.Pages.view c.retire_heap.new.pages in
    let r2 = heap_after t w.heap0 (with_heap w.heap1 (with_heap w.heap2 (with_heap w.heap3 (pages_in w.pages.items)))) v2 v3 r1 c.retire_heap.ensures in
    let v4 = g.P.Pages.view c.retire_heap-2.new.pages in
    let r3 = heap_after t w.heap1 (with_heap w.heap2 (with_heap w.heap3 (pages_in w.pages.items))) v3 v4 r2 c.retire_heap-2.ensures in
    let v5 = g.P.Pages.view c.retire_heap-3.new.pages in
    let r4 = heap_after t w.heap2 (with_heap w.heap3 (pages_in w.pages.items)) v4 v5 r3 c.retire_heap-3.ensures in
    let v6 = g.P.Pages.view c.retire_heap-4.new.pages in
    let r5 = heap_after t w.heap3 (pages_in w.pages.items) v5 v6 r4 c.retire_heap-4.ensures in
    r5

pub returns : goal.returns
returns g c =
    let t = g.P.Pages.terms in
    let w = c.args.writer in
    let v0 = g.P.Pages.view c.args.pages.now in
    let v1 = g.P.Pages.view c.discard_open.new.pages in
    let v2 = g.P.Pages.view c.discard_open-2.new.pages in
    let v3 = g.P.Pages.view c.retire_heap.new.pages in
    let v4 = g.P.Pages.view c.retire_heap-2.new.pages in
    let v5 = g.P.Pages.view c.retire_heap-3.new.pages in
    let v6 = g.P.Pages.view c.retire_heap-4.new.pages in
    let v7 = g.P.Pages.view c.retire_pages.new.pages in
    let pages = heap_gone t w.heap0 (with_heap w.heap1 (with_heap w.heap2 (with_heap w.heap3 (pages_in w.pages.items)))) v2 v3 v7 c.retire_heap.ensures (heap_gone t w.heap1 (with_heap w.heap2 (with_heap w.heap3 (pages_in w.pages.items))) v3 v4 v7 c.retire_heap-2.ensures (heap_gone t w.heap2 (with_heap w.heap3 (pages_in w.pages.items)) v4 v5 v7 c.retire_heap-3.ensures (heap_gone t w.heap3 (pages_in w.pages.items) v5 v6 v7 c.retire_heap-4.ensures c.retire_pages.ensures))) in
    changes_as t (both (open_holding w.open_rows) (both (open_holding w.open_heap) (pages_only (ids_of t (written_pages w))))) (writer_holding t w) nothing nothing v0 v7
    (record {
      pages = λ y. let e = open_pages t w.open_rows y in let f = open_pages t w.open_heap y in omega (arith, e, f);
      pins = λ y. let e = open_pins t w.open_rows y in let f = open_pins t w.open_heap y in omega (arith, e, f);
      opens = λ y. let e = open_same t w.open_rows y in let f = open_same t w.open_heap y in omega (arith, e, f);
      held = let e = open_held t w.open_rows in let f = open_held t w.open_heap in omega (arith, e, f);
    })
    (record { pages = λ y. refl; pins = λ y. refl; opens = λ y. refl; held = refl })
    (gone_then t (open_holding w.open_rows) (both (open_holding w.open_heap) (pages_only (ids_of t (written_pages w)))) v0 v1 v7 c.discard_open.ensures
    (gone_then t (open_holding w.open_heap) (pages_only (ids_of t (written_pages w))) v1 v2 v7 c.discard_open-2.ensures pages))
