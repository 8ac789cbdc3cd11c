use Rattle.ooc_types.specs.declared.schema.SqlType.TheVariants.{Boolean}
use Rattle.expr_runs.specs.Built.{IsBuilt}
use Rattle.expr_runs.proofs.deep.betweens.Given as goal

abbrev pub invariant-loop-level : goal.invariant-loop-level
invariant-loop-level l = IsBuilt Boolean l.expr
