use Rattle.std.proofs.Common.{[], ap, sym, get_or, false}
use Rattle.std.specs.Prelude.{Ok}
use Rattle.sql_grammar.specs.declared.tree.select.Key.{Key}
use Rattle.sql_grammar.specs.declared.tree.select.KeyColumn.TheVariants.{Position}
use Rattle.sql_scope.proofs.Each.{begins, goes_further_at, ends, step_on}
use Rattle.sql_clauses.specs.Order.{key_behind}
use Rattle.sql_clauses.proofs.order.sort_keys.Goals as goal

pub loop-key-init : goal.loop-key-init
loop-key-init c = begins _ (Ok []) _ _ (ap Ok (sym c.new.ensures))

pub loop-key-preserved : goal.loop-key-preserved
loop-key-preserved c =
    let step = key_behind c.args.scope.now c.args.sources.now c.args.columns.now c.args.plain.now in
    let none : Key = record { column = Position (record { start = 0; end = 0 }); descending = false } in
    goes_further_at step _ c.loop-key.keys c.key_behind-keys.result c.args.order.now c.loop-key.key-index none
    c.loop-key-test.true c.loop-key.invariant
    (step_on step (get_or c.args.order.now c.loop-key.key-index none) c.loop-key.keys c.key_behind-keys.result c.key_behind-keys.ensures)

pub returns : goal.returns
returns c =
    ends (key_behind c.args.scope.now c.args.sources.now c.args.columns.now c.args.plain.now) _ c.loop-key.keys c.args.order.now c.loop-key.key-index c.loop-key-test.false c.loop-key.invariant
