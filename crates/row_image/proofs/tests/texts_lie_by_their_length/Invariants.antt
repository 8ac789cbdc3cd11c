use Rattle.std.proofs.Common.{◌≡◌, length}
use Rattle.row_image.proofs.tests.texts_lie_by_their_length.Given as goal

abbrev pub invariant-loop-number : goal.invariant-loop-number
invariant-loop-number g l = length l.image ≡ 4096

abbrev pub invariant-loop-row : goal.invariant-loop-row
invariant-loop-row g l = length l.image ≡ 4096
