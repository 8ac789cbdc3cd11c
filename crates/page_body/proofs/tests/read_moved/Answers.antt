use Rattle.std.proofs.Common.{arith, sym}
use Rattle.number_bags.proofs.Bags.{one_other}
use Rattle.page_body.proofs.tests.read_moved.Goals as goal

pub pin_based-requires-clause-alone : goal.pin_based-requires-clause-alone
pin_based-requires-clause-alone g c = λ ends.
    let id = g.P.Pages.terms.id in
    let apart = g.met.P.Pages.apart c.args.pages.now c.args.rows.now c.args.heap.now c.args.layout.now ends c.requires.rows c.requires.heap c.requires.kind c.requires.heap_kind in
    let none = one_other (id c.args.heap.now) (id c.args.rows.now) (λ e. apart (sym e)) in
    let count = c.in_ok-heap_pin.ensures.counted.pins (id c.args.rows.now) in
    let alone = c.requires.alone ends in
    omega (arith, none, count, alone)
