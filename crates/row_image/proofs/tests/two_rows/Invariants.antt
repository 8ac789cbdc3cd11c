use Rattle.std.proofs.Common.{◌≡◌, length}
use Rattle.row_image.proofs.tests.two_rows.Given as goal

abbrev pub invariant-loop-place : goal.invariant-loop-place
invariant-loop-place l = length l.image ≡ 4096
