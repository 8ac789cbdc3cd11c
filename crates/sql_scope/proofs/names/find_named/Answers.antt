use Rattle.std.proofs.Common.{◌+◌, ap, sym, ◌∙◌, drop}
use Rattle.sql_scope.specs.Scopes.{after, spots, is_named, counted}
use Rattle.sql_scope.proofs.Finding.{found_is, next_column, last_column}
use Rattle.sql_scope.proofs.names.find_named.Goals as goal

pub loop-place-init : goal.loop-place-init
loop-place-init c = found_is _

pub loop-place-preserved : goal.loop-place-preserved
loop-place-preserved c =
    let next = next_column (is_named c.args.name.now) c.loop-place.seen c.loop-place.place c.args.columns.now c.index-columns-place.result c.loop-place-test.true c.index-columns-place.is in
    ap (λ s. after s (spots (is_named c.args.name.now) (c.loop-place.place + 1) (drop (c.loop-place.place + 1) c.args.columns.now)))
    (c.counted-seen.ensures ∙ ap (λ holds. counted holds c.loop-place.seen c.loop-place.place c.index-columns-place.result.kind) c.is_named-holds.ensures)
    ∙ sym next ∙ c.loop-place.invariant

pub returns : goal.returns
returns c = sym (last_column (is_named c.args.name.now) c.loop-place.seen c.loop-place.place c.args.columns.now c.loop-place-test.false) ∙ c.loop-place.invariant
