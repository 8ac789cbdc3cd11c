use Rattle.std.proofs.Common.{◌≡◌, ◌+◌, ◌-◌, ◌^◌, suc, arith, ap, ◌∙◌}
use Rattle.std.proofs.Math.Nat.{pow-suc}
use Rattle.row_image.specs.Cells.{null_bit}
use Rattle.row_image.proofs.StoreLemmas.{more_bits}
use Rattle.row_image.proofs.put.mask_byte.Goals as goal

pub loop-bit-preserved : goal.loop-bit-preserved
loop-bit-preserved c =
    let b = c.loop-bit.bit in
    let more : 8 - (b - 1) ≡ suc (8 - b) = omega arith in (
      omega arith,
      omega (arith, ap (λ e. 2 ^ e) more, pow-suc 2 (8 - b), c.loop-bit.invariant.1, c.null_bit.ensures.bit),
      λ k h. more_bits c.loop-bit.bits c.null_bit.result (8 - b) (λ j. null_bit c.args.cells.now (c.args.from + (b - 1 + j))) c.null_bit.ensures.bit
          (c.null_bit.ensures.value ∙ ap (null_bit c.args.cells.now) (omega arith))
          (λ j below. c.loop-bit.invariant.2 j below ∙ ap (null_bit c.args.cells.now) (omega arith)) k (omega arith),
    )
