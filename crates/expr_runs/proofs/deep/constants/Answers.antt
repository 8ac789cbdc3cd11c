use Rattle.ooc_types.specs.declared.schema.SqlType.TheVariants.{Boolean}
use Rattle.expr_runs.proofs.Built.{one_more}
use Rattle.expr_runs.proofs.deep.constants.Goals as goal

pub loop-place-preserved : goal.loop-place-preserved
loop-place-preserved c = one_more Boolean c.loop-place.list c.push.new.self c.truth.result c.loop-place.invariant c.truth.ensures c.in_ok-push.ensures.ok

pub returns : goal.returns
returns c = one_more Boolean c.loop-place.list c.push-2.new.self c.truth-2.result c.loop-place.invariant c.truth-2.ensures c.in_ok-push-2.ensures.ok
