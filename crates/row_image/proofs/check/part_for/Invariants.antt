use Rattle.std.proofs.Common.{◌<◌, ◌≤◌, ◌+◌, ℕ}
use Rattle.row_image.specs.Image.{part_at}
use Rattle.row_image.proofs.check.part_for.Given as goal

abbrev pub invariant-loop-part : goal.invariant-loop-part
invariant-loop-part l = (k : ℕ) → k < l.part → (part_at l.image k).first + (part_at l.image k).rows ≤ l.row
