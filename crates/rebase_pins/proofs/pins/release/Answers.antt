use Rattle.std.proofs.Common.{arith}
use Rattle.rebase_pins.specs.RowPages.{changed}
use Rattle.rebase_pins.proofs.Heaps.{two, four, still}
use Rattle.rebase_pins.proofs.pins.release.Goals as goal

pub unpin_two-requires-clause-first : goal.unpin_two-requires-clause-first
unpin_two-requires-clause-first g c =
    let t = g.P.Pages.terms in
    let h0 = changed t.under c.args.pins.heap0 in
    let h1 = changed t.under c.args.pins.heap1 in
    let h2 = changed t.under c.args.pins.heap2 in
    let h3 = changed t.under c.args.pins.heap3 in
    still t c.args.pins.heap0 (g.P.Pages.view c.args.pages.now) (g.P.Pages.view c.unpin.new.self) c.unpin.ensures.pins
    (λ y. let all = c.requires.own.counted y in let gave = c.unpin.ensures.counted.pins y in omega (arith, all, gave, four t h0 h1 h2 h3 y))
    c.requires.own.heap0

pub unpin_two-requires-clause-second : goal.unpin_two-requires-clause-second
unpin_two-requires-clause-second g c =
    let t = g.P.Pages.terms in
    let h0 = changed t.under c.args.pins.heap0 in
    let h1 = changed t.under c.args.pins.heap1 in
    let h2 = changed t.under c.args.pins.heap2 in
    let h3 = changed t.under c.args.pins.heap3 in
    still t c.args.pins.heap1 (g.P.Pages.view c.args.pages.now) (g.P.Pages.view c.unpin.new.self) c.unpin.ensures.pins
    (λ y. let all = c.requires.own.counted y in let gave = c.unpin.ensures.counted.pins y in omega (arith, all, gave, four t h0 h1 h2 h3 y))
    c.requires.own.heap1

pub unpin_two-requires-2-clause-first : goal.unpin_two-requires-2-clause-first
unpin_two-requires-2-clause-first g c =
    let t = g.P.Pages.terms in
    let h0 = changed t.under c.args.pins.heap0 in
    let h1 = changed t.under c.args.pins.heap1 in
    let h2 = changed t.under c.args.pins.heap2 in
    let h3 = changed t.under c.args.pins.heap3 in
    let mid = still t c.args.pins.heap2 (g.P.Pages.view c.args.pages.now) (g.P.Pages.view c.unpin.new.self) c.unpin.ensures.pins
    (λ y. let all = c.requires.own.counted y in let gave = c.unpin.ensures.counted.pins y in omega (arith, all, gave, four t h0 h1 h2 h3 y))
    c.requires.own.heap2 in
    still t c.args.pins.heap2 (g.P.Pages.view c.unpin.new.self) (g.P.Pages.view c.unpin_two.new.pages) c.unpin_two.ensures.valid
    (λ y. let all = c.requires.own.counted y in let gave = c.unpin.ensures.counted.pins y in let more = c.unpin_two.ensures.pins y in omega (arith, all, gave, more, four t h0 h1 h2 h3 y, two t h0 h1 y))
    mid

pub unpin_two-requires-2-clause-second : goal.unpin_two-requires-2-clause-second
unpin_two-requires-2-clause-second g c =
    let t = g.P.Pages.terms in
    let h0 = changed t.under c.args.pins.heap0 in
    let h1 = changed t.under c.args.pins.heap1 in
    let h2 = changed t.under c.args.pins.heap2 in
    let h3 = changed t.under c.args.pins.heap3 in
    let mid = still t c.args.pins.heap3 (g.P.Pages.view c.args.pages.now) (g.P.Pages.view c.unpin.new.self) c.unpin.ensures.pins
    (λ y. let all = c.requires.own.counted y in let gave = c.unpin.ensures.counted.pins y in omega (arith, all, gave, four t h0 h1 h2 h3 y))
    c.requires.own.heap3 in
    still t c.args.pins.heap3 (g.P.Pages.view c.unpin.new.self) (g.P.Pages.view c.unpin_two.new.pages) c.unpin_two.ensures.valid
    (λ y. let all = c.requires.own.counted y in let gave = c.unpin.ensures.counted.pins y in let more = c.unpin_two.ensures.pins y in omega (arith, all, gave, more, four t h0 h1 h2 h3 y, two t h0 h1 y))
    mid
