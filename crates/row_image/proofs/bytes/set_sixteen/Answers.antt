use Rattle.std.proofs.Common.{◌≡◌, ◌+◌, ap, ◌∙◌, arith, to_z, of_z}
use Rattle.std.specs.Int.{w128}
use Rattle.std.proofs.lemmas.Int.{to_z-of_z}
use Rattle.std.proofs.lemmas.Nat.{and_mask}
use Rattle.row_image.specs.Bytes.{number_at}
use Rattle.row_image.proofs.ByteLemmas.{number_at_halves, number_at_before}
use Rattle.row_image.proofs.bytes.set_sixteen.Goals as goal

pub returns-clause-stored : goal.returns-clause-stored
returns-clause-stored c =
    let same = to_z-of_z w128 c.args.value c.ranges.value in
    let low = number_at_before c.set_long.new.image c.set_long-2.new.image (c.args.at + 8) (c.args.at + 8 + 8) c.set_long-2.ensures.others c.args.at 8 (omega arith) in
    let bits : number_at c.set_long-2.new.image c.args.at 16 ≡ c.cast_unsigned-bits.result = omega (arith, number_at_halves c.set_long-2.new.image c.args.at, low, c.set_long.ensures.stored, c.set_long-2.ensures.stored, and_mask c.cast_unsigned-bits.result 64) in
    ap (to_z w128) (bits ∙ c.cast_unsigned-bits.ensures ∙ ap (of_z w128) same) ∙ same
