use Rattle.std.proofs.Common.{refl}
use Rattle.ooc_types.specs.declared.value.Value.TheVariants.{Truth}
use Rattle.ooc_types.specs.declared.schema.SqlType.TheVariants.{Boolean}
use Rattle.expr_runs.proofs.Built.{built_constant}
use Rattle.expr_runs.proofs.build.truth.Goals as goal

pub returns : goal.returns
returns c = built_constant (Truth c.args.holds) Boolean refl
