use Rattle.std.proofs.Common.{refl}
use Rattle.ooc_types.specs.declared.value.Value.TheVariants.{Text}
use Rattle.ooc_types.specs.declared.schema.SqlType.TheVariants.{Varchar}
use Rattle.expr_runs.proofs.Built.{built_constant}
use Rattle.expr_runs.proofs.build.text.Goals as goal

pub returns : goal.returns
returns c = built_constant (Text c.in_ok-text.text) Varchar refl
