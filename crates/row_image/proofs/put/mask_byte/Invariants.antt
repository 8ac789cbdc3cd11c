use Rattle.std.proofs.Common.{◌≡◌, ◌<◌, ◌≤◌, ◌+◌, ◌-◌, ◌^◌, ℕ}
use Rattle.std.specs.Int.{bit_at}
use Rattle.row_image.specs.Cells.{null_bit}
use Rattle.row_image.proofs.put.mask_byte.Given as goal

abbrev pub invariant-loop-bit : goal.invariant-loop-bit
invariant-loop-bit l = (l.bit ≤ 8) × (l.bits < 2 ^ (8 - l.bit)) × ((k : ℕ) → k < 8 - l.bit → bit_at l.bits k ≡ null_bit l.cells (l.from + (l.bit + k)))

abbrev pub decreases-loop-bit : goal.decreases-loop-bit
decreases-loop-bit l = l.bit
