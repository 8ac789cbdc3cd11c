use Rattle.std.proofs.Common.{refl}
use Rattle.std.proofs.lemmas.Int.{to_z-of_z}
use Rattle.ooc_types.specs.declared.value.Value.TheVariants.{Day}
use Rattle.ooc_types.specs.declared.schema.SqlType.TheVariants.{Date}
use Rattle.expr_runs.proofs.Built.{built_constant}
use Rattle.expr_runs.proofs.build.date.Goals as goal

pub returns : goal.returns
returns c =
    let f = c.ranges.day in
    let built = built_constant (Day c.args.day) Date (refl, c.requires) in
    simp to_z-of_z built
