use Rattle.std.proofs.Common.{◌<◌, ◌+◌, ℕ}
use Rattle.row_image.specs.Bytes.{ChangesOnly}
use Rattle.row_image.specs.Layout.{mask_bytes, offset_of}
use Rattle.row_image.specs.Moves.{MovesCell}
use Rattle.row_image.proofs.moves.move_row.Given as goal

abbrev pub invariant-loop-column : goal.invariant-loop-column
invariant-loop-column l =
    ChangesOnly l.initial.image l.image (l.at + mask_bytes l.layout + 8) (l.at + offset_of l.layout l.column)
    × ((k : ℕ) → k < l.column → MovesCell l.layout l.initial.image l.image l.at l.from l.to k)
