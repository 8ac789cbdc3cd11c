use Rattle.std.proofs.Common.{ap, refl, sym}
use Rattle.std.specs.Prelude.{Ok}
use Rattle.sql_scope.specs.Scopes.{spots}
use Rattle.sql_scope.proofs.Each.{begins}
use Rattle.sql_clauses.specs.Items.{column_item, is_of_source}
use Rattle.sql_clauses.proofs.Lists.{perhaps_step, no_step, all_done, no_spot}
use Rattle.sql_clauses.proofs.items.source_columns.Goals as goal

pub loop-at-init : goal.loop-at-init
loop-at-init c =
    let step = column_item c.args.scope.now c.args.grouped c.args.place in
    let test = is_of_source c.args.source.now in
    no_step step _ _ _ _ (ap (spots test 0) (sym c.columns-columns.ensures.columns)) (begins step (Ok c.args.outputs) (Ok c.args.outputs) (spots test 0 c.args.scope.now.columns) refl)

pub loop-at-preserved : goal.loop-at-preserved
loop-at-preserved c =
    perhaps_step (column_item c.args.scope.now c.args.grouped c.args.place) _ c.loop-at.shown c.perhaps_item-shown.result (is_of_source c.args.source.now)
    c.loop-at.at c.columns-columns.result.now c.index-columns-at.result c.is_of-holds.result c.loop-at-test.true c.index-columns-at.is c.is_of-holds.ensures
    c.loop-at.invariant c.perhaps_item-shown.ensures

pub returns : goal.returns
returns c =
    all_done (column_item c.args.scope.now c.args.grouped c.args.place) _ c.loop-at.shown _
    (no_spot (is_of_source c.args.source.now) c.loop-at.at c.columns-columns.result.now c.loop-at-test.false) c.loop-at.invariant
