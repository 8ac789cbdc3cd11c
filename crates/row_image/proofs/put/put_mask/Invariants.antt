use Rattle.std.proofs.Common.{◌≡◌, ◌<◌, ◌+◌, ◌*◌, ℕ}
use Rattle.std.specs.Prelude.{slice_index}
use Rattle.std.specs.Int.{bit_at}
use Rattle.row_image.specs.Bytes.{ChangesOnly}
use Rattle.row_image.specs.Cells.{null_bit}
use Rattle.row_image.proofs.put.put_mask.Given as goal

abbrev pub invariant-loop-byte : goal.invariant-loop-byte
invariant-loop-byte l = ChangesOnly l.initial.image l.image l.at (l.at + l.byte) × ((byte bit : ℕ) → byte < l.byte → bit < 8 → bit_at (slice_index l.image (l.at + byte)) bit ≡ null_bit l.cells (8 * byte + bit))
