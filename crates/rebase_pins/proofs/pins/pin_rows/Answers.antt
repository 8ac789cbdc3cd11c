use Rattle.std.proofs.Common.{◌≡◌, ◌≢◌, ap, arith, ◌∙◌}
use Rattle.row_image.specs.declared.image.ImageKind.TheVariants.{Heap}
use Rattle.number_bags.specs.Bags.{one_of}
use Rattle.rebase_pins.specs.RowPages.{changed}
use Rattle.page_body.proofs.Takes.{steady_then}
use Rattle.rebase_pins.proofs.Heaps.{counts, two, four, four_long, still, still_valid, not_rows, four_bases}
use Rattle.page_body.proofs.Kept.{kept_of}
use Rattle.rebase_pins.proofs.Refused.{kept_one, kept_front}
use Rattle.rebase_pins.proofs.pins.pin_rows.Goals as goal

pub pin_based-requires-clause-alone : goal.pin_based-requires-clause-alone
pin_based-requires-clause-alone g c = λ ends.
    let t = g.P.Pages.terms in
    let old = g.P.Pages.view c.args.pages.now in
    let page = c.args.page.now in
    let live = c.requires.live in
    let formed = c.requires.formed in
    let apart : (q : g.row.P-Page.Denot) → old.live q → t.kind q ≡ Heap → t.id q ≢ t.id page.rows = λ q there kind. g.met.P.Pages.apart c.args.pages.now page.rows q c.args.layout.now ends live.rows there formed.rows kind in
    let y = t.id page.rows in
    let first = c.in_ok-heap0.ensures.took.pins y in
    let second = c.in-Ok.ensures.took.pins y in
    let alone = c.requires.alone ends in
    omega (arith, first, second, alone, two t page.heap0 page.heap1 y, two t page.heap2 page.heap3 y, not_rows t page.heap0 old page.rows apart live.heap0 formed.heap0, not_rows t page.heap1 old page.rows apart live.heap1 formed.heap1, not_rows t page.heap2 old page.rows apart live.heap2 formed.heap2, not_rows t page.heap3 old page.rows apart live.heap3 formed.heap3)

pub pin_based-requires-clause-bases : goal.pin_based-requires-clause-bases
pin_based-requires-clause-bases g c =
    let a = c.base_under.ensures in
    let b = c.base_under-in-Ok.ensures in
    let d = c.base_under-in-Ok-2.ensures in
    let e = c.base_under-in-Ok-3.ensures in
    four_bases (g.P.Pages.view c.pin_two-2.new.pages).page_bytes c.base_under.result c.base_under-in-Ok.result c.base_under-in-Ok-2.result c.base_under-in-Ok-3.result a.aligned b.aligned d.aligned e.aligned a.low b.low d.low e.low

pub unpin_two-requires-in-Err-pin_based-clause-first : goal.unpin_two-requires-in-Err-pin_based-clause-first
unpin_two-requires-in-Err-pin_based-clause-first g c =
    let t = g.P.Pages.terms in
    let page = c.args.page.now in
    let u0 = c.in_ok-heap0.ensures.under.0 in
    let u1 = c.in_ok-heap0.ensures.under.1 in
    let u2 = c.in-Ok.ensures.under.0 in
    still t c.in-Ok.heap2 (g.P.Pages.view c.pin_based.new.self) (g.P.Pages.view c.unpin_two.new.pages) c.unpin_two.ensures.valid
    (λ y.
    let first = c.in_ok-heap0.ensures.took.pins y in
    let second = c.in-Ok.ensures.took.pins y in
    let same = c.in-Err-pin_based.ensures.refused.pins y in
    let gave = c.unpin_two.ensures.pins y in
    omega (arith, first, second, same, gave, two t page.heap0 page.heap1 y, two t page.heap2 page.heap3 y, two t (changed t.under c.in_ok-heap0.heap0) (changed t.under c.in_ok-heap0.heap1) y, ap (λ o. counts t o y) u0, ap (λ o. counts t o y) u1, ap (λ o. counts t o y) u2))
    (still_valid t c.in-Ok.heap2 (g.P.Pages.view c.pin_two-2.new.pages) (g.P.Pages.view c.pin_based.new.self) c.in-Err-pin_based.ensures.pins c.in-Ok.ensures.own.0)

pub unpin_two-requires-in-Err-pin_based-clause-second : goal.unpin_two-requires-in-Err-pin_based-clause-second
unpin_two-requires-in-Err-pin_based-clause-second g c =
    let t = g.P.Pages.terms in
    let page = c.args.page.now in
    let u0 = c.in_ok-heap0.ensures.under.0 in
    let u1 = c.in_ok-heap0.ensures.under.1 in
    let u3 = c.in-Ok.ensures.under.1 in
    still t c.in-Ok.heap3 (g.P.Pages.view c.pin_based.new.self) (g.P.Pages.view c.unpin_two.new.pages) c.unpin_two.ensures.valid
    (λ y.
    let first = c.in_ok-heap0.ensures.took.pins y in
    let second = c.in-Ok.ensures.took.pins y in
    let same = c.in-Err-pin_based.ensures.refused.pins y in
    let gave = c.unpin_two.ensures.pins y in
    omega (arith, first, second, same, gave, two t page.heap0 page.heap1 y, two t page.heap2 page.heap3 y, two t (changed t.under c.in_ok-heap0.heap0) (changed t.under c.in_ok-heap0.heap1) y, ap (λ o. counts t o y) u0, ap (λ o. counts t o y) u1, ap (λ o. counts t o y) u3))
    (still_valid t c.in-Ok.heap3 (g.P.Pages.view c.pin_two-2.new.pages) (g.P.Pages.view c.pin_based.new.self) c.in-Err-pin_based.ensures.pins c.in-Ok.ensures.own.1)

pub returns-in-Ok-pin_based-clause-own : goal.returns-in-Ok-pin_based-clause-own
returns-in-Ok-pin_based-clause-own g c =
    let t = g.P.Pages.terms in
    let page = c.args.page.now in
    let m1 = g.P.Pages.view c.pin_two.new.pages in
    let m2 = g.P.Pages.view c.pin_two-2.new.pages in
    let m3 = g.P.Pages.view c.pin_based.new.self in
    let one = c.in_ok-heap0.ensures in
    let two_ = c.in-Ok.ensures in
    let last = c.in-Ok-pin_based.ensures in
    record {
      rows = last.valid;
      heap0 = still_valid t c.in_ok-heap0.heap0 m2 m3 last.pins (still_valid t c.in_ok-heap0.heap0 m1 m2 two_.took.valid one.own.0);
      heap1 = still_valid t c.in_ok-heap0.heap1 m2 m3 last.pins (still_valid t c.in_ok-heap0.heap1 m1 m2 two_.took.valid one.own.1);
      heap2 = still_valid t c.in-Ok.heap2 m2 m3 last.pins two_.own.0;
      heap3 = still_valid t c.in-Ok.heap3 m2 m3 last.pins two_.own.1;
      counted = λ y.
          let a = one.took.pins y in
          let b = two_.took.pins y in
          let d = last.counted.pins y in
          let rows = ap (λ p. one_of (t.id p) y) last.shows.under in
          omega (arith, a, b, d, rows, two t page.heap0 page.heap1 y, two t page.heap2 page.heap3 y, four t (changed t.under c.in_ok-heap0.heap0) (changed t.under c.in_ok-heap0.heap1) (changed t.under c.in-Ok.heap2) (changed t.under c.in-Ok.heap3) y, ap (λ o. counts t o y) one.under.0, ap (λ o. counts t o y) one.under.1, ap (λ o. counts t o y) two_.under.0, ap (λ o. counts t o y) two_.under.1);
    }

pub returns-in-Ok-pin_based-clause-took : goal.returns-in-Ok-pin_based-clause-took
returns-in-Ok-pin_based-clause-took g c =
    let t = g.P.Pages.terms in
    let page = c.args.page.now in
    let old = g.P.Pages.view c.args.pages.now in
    let m1 = g.P.Pages.view c.pin_two.new.pages in
    let m2 = g.P.Pages.view c.pin_two-2.new.pages in
    let m3 = g.P.Pages.view c.pin_based.new.self in
    let one = c.in_ok-heap0.ensures.took in
    let two_ = c.in-Ok.ensures.took in
    let last = c.in-Ok-pin_based.ensures in
    record {
      pins = λ y. let a = one.pins y in let b = two_.pins y in let d = last.counted.pins y in omega (arith, a, b, d, two t page.heap0 page.heap1 y, two t page.heap2 page.heap3 y, four t page.heap0 page.heap1 page.heap2 page.heap3 y);
      opens = λ y. last.counted.opens y ∙ two_.opens y ∙ one.opens y;
      held = let a = one.held in let b = two_.held in let d = last.counted.held in omega (arith, a, b, d, four_long t page.heap0 page.heap1 page.heap2 page.heap3);
      steady = steady_then old m2 m3 (steady_then old m1 m2 one.steady two_.steady) last.steady;
      lives = λ p live. last.lives p (two_.lives p (one.lives p live));
      valid = λ q valid. last.pins q (two_.valid q (one.valid q valid));
    }

pub returns-in-Err-pin_based-clause-refused : goal.returns-in-Err-pin_based-clause-refused
returns-in-Err-pin_based-clause-refused g c =
    let t = g.P.Pages.terms in
    let page = c.args.page.now in
    let old = g.P.Pages.view c.args.pages.now in
    let m1 = g.P.Pages.view c.pin_two.new.pages in
    let m2 = g.P.Pages.view c.pin_two-2.new.pages in
    let m3 = g.P.Pages.view c.pin_based.new.self in
    let m4 = g.P.Pages.view c.unpin_two.new.pages in
    let m5 = g.P.Pages.view c.unpin_two-in-Err-pin_based.new.pages in
    let one = c.in_ok-heap0.ensures in
    let two_ = c.in-Ok.ensures in
    let last = c.in-Err-pin_based.ensures in
    let four_ = c.unpin_two.ensures in
    let five = c.unpin_two-in-Err-pin_based.ensures in
    let front = kept_front t page.heap0 page.heap1 (changed t.under c.in_ok-heap0.heap0) (changed t.under c.in_ok-heap0.heap1) page.heap2 page.heap3 (changed t.under c.in-Ok.heap2) (changed t.under c.in-Ok.heap3) one.under.0 one.under.1 two_.under.0 two_.under.1 in
    front old m1 m2 m3 m4 m5 (λ q valid. g.met.P.Pages.pinned c.args.pages.now q valid) one.took two_.took (kept_of m2 m3 last.refused last.steady last.lives last.pins) four_ five

pub returns-in-Err-clause-refused : goal.returns-in-Err-clause-refused
returns-in-Err-clause-refused g c =
    let t = g.P.Pages.terms in
    let page = c.args.page.now in
    let old = g.P.Pages.view c.args.pages.now in
    let m1 = g.P.Pages.view c.pin_two.new.pages in
    let m2 = g.P.Pages.view c.pin_two-2.new.pages in
    let m3 = g.P.Pages.view c.unpin_two-in-Err.new.pages in
    let one = c.in_ok-heap0.ensures in
    kept_one t page.heap0 page.heap1 (changed t.under c.in_ok-heap0.heap0) (changed t.under c.in_ok-heap0.heap1) one.under.0 one.under.1 old m1 m2 m3 (λ q valid. g.met.P.Pages.pinned c.args.pages.now q valid) one.took c.in-Err.ensures.refused c.unpin_two-in-Err.ensures
