-- What callers use of accepted images and their rows.
use Rattle.std.proofs.Common.{◌≡◌, ℕ, ◌<◌, ◌≤◌, List, length, get_or, refl, arith}
use Rattle.std.proofs.lemmas.List.FromFn.{length-map-range_with_len, get_or-map-range_with_len}
use Rattle.row_image.specs.declared.layout.CellKind.{CellKind}
use Rattle.row_image.specs.declared.image.ImageKind.{ImageKind}
use Rattle.row_image.specs.declared.image.ImageKind.TheVariants.{Rows, Heap, Plain}
use Rattle.row_image.specs.Layout.{rows_that_fit}
use Rattle.row_image.specs.Image.{row_count, part_count, StoredRow, stored_row, rows_of}
use Rattle.row_image.specs.Rules.{IsAccepted}
use Rattle.row_image.specs.Flat.{flat}
use Rattle.row_image.proofs.AcceptedLemmas.{sound_of}
use Rattle.row_image.proofs.FlatPieces.{flat_length}
use Rattle.row_image.proofs.WrittenAccepted.{parts_most}
use Rattle.row_image.proofs.WrittenFlat.{rows_lie}

-- a flat image is as long as the image
pub flat_keeps_length : (kind : ImageKind) (image : List ℕ) → IsAccepted kind image → 4096 ≤ length image → length (flat kind image) ≡ length image
unfolding flat
flat_keeps_length (Rows kinds) image accepted page = flat_length kinds image (rows_lie kinds image accepted page)
flat_keeps_length Heap image accepted page = refl
flat_keeps_length Plain image accepted page = refl

-- an accepted row page has at most the rows that fit, and at most 4 parts
pub accepted_rows : (kinds : List CellKind) (image : List ℕ) → IsAccepted (Rows kinds) image → row_count image ≤ rows_that_fit kinds (length image)
accepted_rows kinds image accepted = (sound_of kinds image accepted).rows

pub accepted_parts : (kinds : List CellKind) (image : List ℕ) → IsAccepted (Rows kinds) image → part_count image ≤ 4
accepted_parts kinds image accepted = parts_most kinds image (sound_of kinds image accepted).parts

-- the rows, one by one
pub rows_length : (kinds : List CellKind) (image : List ℕ) → length (rows_of kinds image) ≡ row_count image
unfolding rows_of
rows_length kinds image = length-map-range_with_len (λ row. stored_row kinds image row) 0 (row_count image)

pub row_is : (kinds : List CellKind) (image : List ℕ) (row : ℕ) (d : StoredRow) → row < row_count image → get_or (rows_of kinds image) row d ≡ stored_row kinds image row
unfolding rows_of
row_is kinds image row d below = get_or-map-range_with_len (λ r. stored_row kinds image r) 0 (row_count image) row row d below (omega arith)
