use Rattle.std.proofs.Common.{◌<◌, ◌≤◌, ℕ}
use Rattle.row_image.specs.Bytes.{ChangesOnly}
use Rattle.row_image.specs.Layout.{row_place}
use Rattle.row_image.specs.Moves.{MovesRow}
use Rattle.row_image.proofs.moves.rebase.Given as goal

abbrev pub invariant-loop-row : goal.invariant-loop-row
invariant-loop-row l =
    ChangesOnly l.initial.image l.image (row_place l.layout l.this.first) (row_place l.layout l.row)
    × ((r : ℕ) → l.this.first ≤ r → r < l.row → MovesRow l.layout l.initial.image l.image (row_place l.layout r) l.this.base l.base)
