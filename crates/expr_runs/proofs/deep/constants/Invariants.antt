use Rattle.ooc_types.specs.declared.schema.SqlType.TheVariants.{Boolean}
use Rattle.expr_runs.specs.Built.{AreBuilt}
use Rattle.expr_runs.proofs.deep.constants.Given as goal

abbrev pub invariant-loop-place : goal.invariant-loop-place
invariant-loop-place l = AreBuilt Boolean l.list
