use Rattle.std.proofs.Common.{◌≡◌, ◌<◌, ℕ, length, get_or}
use Rattle.row_image.specs.Layout.{offset_of}
use Rattle.row_image.proofs.layout.offsets.Given as goal

abbrev pub invariant-loop-column : goal.invariant-loop-column
invariant-loop-column l = (length l.places ≡ 66) × (l.at ≡ offset_of l.kinds l.column) × ((k : ℕ) → k < l.column → get_or l.places k 0 ≡ offset_of l.kinds k)
