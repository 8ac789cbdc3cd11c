use Rattle.std.proofs.lemmas.Int.{to_z-of_z}
use Rattle.ooc_types.specs.declared.value.Value.TheVariants.{Number}
use Rattle.expr_runs.proofs.Built.{built_constant}
use Rattle.expr_runs.proofs.build.number.Goals as goal

pub returns : goal.returns
returns c =
    let f = c.ranges.digits in
    let built = built_constant (Number c.args.digits 0) c.args.kind c.requires in
    simp to_z-of_z built
