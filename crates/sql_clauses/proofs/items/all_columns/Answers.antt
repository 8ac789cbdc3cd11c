use Rattle.std.proofs.Common.{ap, refl, sym}
use Rattle.std.specs.Prelude.{Ok}
use Rattle.sql_scope.specs.Scopes.{spots}
use Rattle.sql_scope.proofs.Each.{begins}
use Rattle.sql_clauses.specs.Items.{column_item, is_any}
use Rattle.sql_clauses.proofs.Lists.{one_step, no_step, all_done, next_spot, no_spot}
use Rattle.sql_clauses.proofs.items.all_columns.Goals as goal

pub loop-at-init : goal.loop-at-init
loop-at-init c =
    let step = column_item c.args.scope.now c.args.grouped c.args.place in
    no_step step _ _ _ _ (ap (spots is_any 0) (sym c.columns-columns.ensures.columns)) (begins step (Ok c.args.outputs) (Ok c.args.outputs) (spots is_any 0 c.args.scope.now.columns) refl)

pub loop-at-preserved : goal.loop-at-preserved
loop-at-preserved c =
    one_step (column_item c.args.scope.now c.args.grouped c.args.place) _ c.loop-at.shown c.column_item-shown.result _
    (record { place = c.loop-at.at; kind = c.index-columns-at.result.kind }) _
    (next_spot is_any c.loop-at.at c.columns-columns.result.now c.index-columns-at.result c.loop-at-test.true c.index-columns-at.is refl)
    c.loop-at.invariant c.column_item-shown.ensures

pub returns : goal.returns
returns c =
    all_done (column_item c.args.scope.now c.args.grouped c.args.place) _ c.loop-at.shown _ (no_spot is_any c.loop-at.at c.columns-columns.result.now c.loop-at-test.false) c.loop-at.invariant
