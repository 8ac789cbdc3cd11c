use Rattle.std.proofs.Common.{ap, ◌∙◌, arith, to_z, rules}
use Rattle.std.specs.Int.{w128}
use Rattle.std.specs.Int.RustNames.{FitsSigned}
use Rattle.std.proofs.lemmas.Int.{to_z-of_z}
use Rattle.row_image.proofs.ByteLemmas.{number_at_halves}
use Rattle.row_image.proofs.bytes.sixteen_at.Goals as goal

pub returns : goal.returns
returns c =
    let fits : FitsSigned w128 c.cast_signed.result = search rules in
    to_z-of_z w128 c.cast_signed.result fits ∙ c.cast_signed.ensures ∙ ap (to_z w128) (omega (arith, number_at_halves c.args.image.now c.args.at))
