use Rattle.std.proofs.Common.{◌≡◌, ◌<◌, ◌≤◌, ◌+◌, ℕ, length}
use Rattle.std.specs.Prelude.{slice_index}
use Rattle.row_image.specs.Bytes.{ChangesOnly}
use Rattle.row_image.proofs.put.put_text.Given as goal

abbrev pub invariant-loop-place : goal.invariant-loop-place
invariant-loop-place l =
    ChangesOnly l.initial.image l.image l.at (l.at + l.place)
    × ((k : ℕ) → k < l.place → k < length l.text → slice_index l.image (l.at + k) ≡ slice_index l.text k)
    × ((k : ℕ) → l.at + length l.text ≤ k → k < l.at + l.place → slice_index l.image k ≡ 0)
