use Rattle.std.proofs.Common.{[], refl, ap, sym}
use Rattle.std.specs.Prelude.{Ok}
use Rattle.sql_scope.proofs.ConstantList.{constants_next, constants_last}
use Rattle.sql_scope.proofs.trees.constants.Goals as goal

pub loop-one-init : goal.loop-one-init
loop-one-init c = record { answer = Ok []; gives = ap Ok (sym c.new.ensures); goes_on = refl }

pub loop-one-preserved : goal.loop-one-preserved
loop-one-preserved c =
    constants_next c.args.scope.now _ c.loop-one.list c.one_more-list.result c.args.written.now c.loop-one.one-index _ c.constant.result
    c.loop-one-test.true c.loop-one.invariant c.constant.ensures c.one_more-list.ensures

pub returns : goal.returns
returns c = constants_last c.args.scope.now _ c.loop-one.list c.args.written.now c.loop-one.one-index c.loop-one-test.false c.loop-one.invariant
