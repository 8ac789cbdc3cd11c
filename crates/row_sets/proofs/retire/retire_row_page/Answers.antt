use Rattle.std.proofs.Common.{[], arith}
use Rattle.number_bags.proofs.Bags.{one_same}
use Rattle.row_sets.specs.Holds.{nothing}
use Rattle.row_sets.specs.Sets.{with_heap}
use Rattle.row_sets.proofs.Changed.{changes_retire, changes_none}
use Rattle.row_sets.proofs.Retired.{after_first, first_gone, heap_front, heap_after, heap_gone}
use Rattle.row_sets.proofs.retire.retire_row_page.Goals as goal

pub retire-requires-clause-alone : goal.retire-requires-clause-alone
retire-requires-clause-alone g c = λ ends.
    let one = one_same (g.P.Pages.terms.id c.args.page.rows) in
    c.requires.unpinned ends (g.P.Pages.terms.id c.args.page.rows) (omega (arith, one))

pub retire_heap-requires : goal.retire_heap-requires
retire_heap-requires g c =
    let t = g.P.Pages.terms in
    let p = c.args.page in
    let e = c.retire.ensures in
    let gone = changes_retire t p.rows (g.P.Pages.view c.args.pages.now) (g.P.Pages.view c.retire.new.self) e.held e.steady e.lives e.pins in
    let r1 = after_first t p.rows (with_heap p.heap0 (with_heap p.heap1 (with_heap p.heap2 (with_heap p.heap3 [])))) (g.P.Pages.view c.args.pages.now) (g.P.Pages.view c.retire.new.self) c.requires gone in
    heap_front t p.heap0 (with_heap p.heap1 (with_heap p.heap2 (with_heap p.heap3 []))) (g.P.Pages.view c.retire.new.self) r1

pub retire_heap-requires-2 : goal.retire_heap-requires-2
retire_heap-requires-2 g c =
    let t = g.P.Pages.terms in
    let p = c.args.page in
    let e = c.retire.ensures in
    let gone = changes_retire t p.rows (g.P.Pages.view c.args.pages.now) (g.P.Pages.view c.retire.new.self) e.held e.steady e.lives e.pins in
    let r1 = after_first t p.rows (with_heap p.heap0 (with_heap p.heap1 (with_heap p.heap2 (with_heap p.heap3 [])))) (g.P.Pages.view c.args.pages.now) (g.P.Pages.view c.retire.new.self) c.requires gone in
    let r2 = heap_after t p.heap0 (with_heap p.heap1 (with_heap p.heap2 (with_heap p.heap3 []))) (g.P.Pages.view c.retire.new.self) (g.P.Pages.view c.retire_heap.new.pages) r1 c.retire_heap.ensures in
    heap_front t p.heap1 (with_heap p.heap2 (with_heap p.heap3 [])) (g.P.Pages.view c.retire_heap.new.pages) r2

pub retire_heap-requires-3 : goal.retire_heap-requires-3
retire_heap-requires-3 g c =
    let t = g.P.Pages.terms in
    let p = c.args.page in
    let e = c.retire.ensures in
    let gone = changes_retire t p.rows (g.P.Pages.view c.args.pages.now) (g.P.Pages.view c.retire.new.self) e.held e.steady e.lives e.pins in
    let r1 = after_first t p.rows (with_heap p.heap0 (with_heap p.heap1 (with_heap p.heap2 (with_heap p.heap3 [])))) (g.P.Pages.view c.args.pages.now) (g.P.Pages.view c.retire.new.self) c.requires gone in
    let r2 = heap_after t p.heap0 (with_heap p.heap1 (with_heap p.heap2 (with_heap p.heap3 []))) (g.P.Pages.view c.retire.new.self) (g.P.Pages.view c.retire_heap.new.pages) r1 c.retire_heap.ensures in
    let r3 = heap_after t p.heap1 (with_heap p.heap2 (with_heap p.heap3 [])) (g.P.Pages.view c.retire_heap.new.pages) (g.P.Pages.view c.retire_heap-2.new.pages) r2 c.retire_heap-2.ensures in
    heap_front t p.heap2 (with_heap p.heap3 []) (g.P.Pages.view c.retire_heap-2.new.pages) r3

pub retire_heap-requires-4 : goal.retire_heap-requires-4
retire_heap-requires-4 g c =
    let t = g.P.Pages.terms in
    let p = c.args.page in
    let e = c.retire.ensures in
    let gone = changes_retire t p.rows (g.P.Pages.view c.args.pages.now) (g.P.Pages.view c.retire.new.self) e.held e.steady e.lives e.pins in
    let r1 = after_first t p.rows (with_heap p.heap0 (with_heap p.heap1 (with_heap p.heap2 (with_heap p.heap3 [])))) (g.P.Pages.view c.args.pages.now) (g.P.Pages.view c.retire.new.self) c.requires gone in
    let r2 = heap_after t p.heap0 (with_heap p.heap1 (with_heap p.heap2 (with_heap p.heap3 []))) (g.P.Pages.view c.retire.new.self) (g.P.Pages.view c.retire_heap.new.pages) r1 c.retire_heap.ensures in
    let r3 = heap_after t p.heap1 (with_heap p.heap2 (with_heap p.heap3 [])) (g.P.Pages.view c.retire_heap.new.pages) (g.P.Pages.view c.retire_heap-2.new.pages) r2 c.retire_heap-2.ensures in
    let r4 = heap_after t p.heap2 (with_heap p.heap3 []) (g.P.Pages.view c.retire_heap-2.new.pages) (g.P.Pages.view c.retire_heap-3.new.pages) r3 c.retire_heap-3.ensures in
    heap_front t p.heap3 [] (g.P.Pages.view c.retire_heap-3.new.pages) r4

pub returns : goal.returns
returns g c =
    let t = g.P.Pages.terms in
    let p = c.args.page in
    let e = c.retire.ensures in
    let v0 = g.P.Pages.view c.args.pages.now in
    let v1 = g.P.Pages.view c.retire.new.self in
    let v2 = g.P.Pages.view c.retire_heap.new.pages in
    let v3 = g.P.Pages.view c.retire_heap-2.new.pages in
    let v4 = g.P.Pages.view c.retire_heap-3.new.pages in
    let v5 = g.P.Pages.view c.retire_heap-4.new.pages in
    let gone = changes_retire t p.rows v0 v1 e.held e.steady e.lives e.pins in
    first_gone t p.rows (with_heap p.heap0 (with_heap p.heap1 (with_heap p.heap2 (with_heap p.heap3 [])))) v0 v1 v5 gone
    (heap_gone t p.heap0 (with_heap p.heap1 (with_heap p.heap2 (with_heap p.heap3 []))) v1 v2 v5 c.retire_heap.ensures
    (heap_gone t p.heap1 (with_heap p.heap2 (with_heap p.heap3 [])) v2 v3 v5 c.retire_heap-2.ensures
    (heap_gone t p.heap2 (with_heap p.heap3 []) v3 v4 v5 c.retire_heap-3.ensures
    (heap_gone t p.heap3 [] v4 v5 v5 c.retire_heap-4.ensures (changes_none t nothing v5)))))
