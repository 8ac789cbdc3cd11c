use Rattle.std.proofs.Common.{◌≡◌, ◌+◌, ap, sym, ◌∙◌, drop}
use Rattle.sql_clauses.specs.Places.{places, counted}
use Rattle.sql_clauses.specs.Tables.{is_called}
use Rattle.sql_clauses.proofs.Seeing.{after, seen_is, next_place, last_place}
use Rattle.sql_clauses.proofs.order.named_outputs.Goals as goal

pub loop-place-init : goal.loop-place-init
loop-place-init c = seen_is _

pub loop-place-preserved : goal.loop-place-preserved
loop-place-preserved c =
    let test = is_called c.args.name.now in
    let holds : c.in_ok-holds.holds ≡ test c.index-columns-place.result = c.in_ok-holds.ensures in
    ap (λ s. after s (places test (c.loop-place.place + 1) (drop (c.loop-place.place + 1) c.args.columns.now)))
    (c.counted-seen.ensures ∙ ap (λ h. counted h c.loop-place.seen c.loop-place.place) holds)
    ∙ sym (next_place test c.loop-place.seen c.loop-place.place c.args.columns.now c.index-columns-place.result c.loop-place-test.true c.index-columns-place.is)
    ∙ c.loop-place.invariant

pub returns : goal.returns
returns c = sym (last_place (is_called c.args.name.now) c.loop-place.seen c.loop-place.place c.args.columns.now c.loop-place-test.false) ∙ c.loop-place.invariant
