-- What the bytes of a row page say: its rows, with their hashes and cells, and its parts.
use Rattle.std.specs.Prelude.{ℕ, pos, ◌+◌, ◌*◌, ◌/◌, ◌%◌, ◌==◌, nat_le, nat_lt, Bool, if◌then◌else◌, List, length, get_or, map, slice_index, slice_range, find, unwrap_or}
use Rattle.std.specs.List.{range_with_len}
use Rattle.std.specs.Int.{w32, w64, w128, cast_signed, bit_at}
use Rattle.row_image.specs.declared.layout.CellKind.{CellKind}
use Rattle.row_image.specs.declared.layout.CellKind.TheVariants.{Bit, Four, Eight, Sixteen, Text}
use Rattle.row_image.specs.declared.image.Part.{Part}
use Rattle.row_image.specs.declared.limits.TheConstants.{NO_HEAP}
use Rattle.row_image.specs.Bytes.{number_at}
use Rattle.row_image.specs.Layout.{mask_bytes, offset_of, row_place}
use Rattle.row_image.specs.Cells.{StoredCell, NullCell, NumberCell, ShortCell, LongCell}

-- how many rows and parts the head says
abbrev pub row_count : List ℕ → ℕ
row_count image = number_at image 8 4

abbrev pub part_count : List ℕ → ℕ
part_count image = number_at image 12 4

-- column c of the row at a place is NULL where bit c mod 8 of byte c / 8 of its mask is 1
unfoldable pub is_null : List ℕ → ℕ → ℕ → Bool
is_null image at column = bit_at (slice_index image (at + column / 8)) (column % 8) == 1

-- the text cell at a place: the length in 4 bytes, then up to 12 bytes of text, or of a longer text the first 4 bytes and the address
abbrev pub text_at : List ℕ → ℕ → ℕ → StoredCell
text_at image at size =
    if nat_le size 12
    then ShortCell (slice_range image (at + 4) (at + 4 + size))
    else LongCell (slice_range image (at + 4) (at + 8)) size (number_at image (at + 8) 8)

-- the cell of a kind at a place, signed numbers in two's complement
unfoldable pub cell_at : CellKind → List ℕ → ℕ → StoredCell
cell_at Bit image at = NumberCell (pos (slice_index image at))
cell_at Four image at = NumberCell (cast_signed w32 (number_at image at 4))
cell_at Eight image at = NumberCell (cast_signed w64 (number_at image at 8))
cell_at Sixteen image at = NumberCell (cast_signed w128 (number_at image at 16))
cell_at Text image at = text_at image at (number_at image at 4)

-- the cell of a column in the row at a place
unfoldable pub cell_in : List CellKind → List ℕ → ℕ → ℕ → StoredCell
cell_in kinds image at column =
    if is_null image at column
    then NullCell
    else cell_at (get_or kinds column Bit) image (at + offset_of kinds column)

-- the cell of a row and a column
abbrev pub stored_cell : List CellKind → List ℕ → ℕ → ℕ → StoredCell
stored_cell kinds image row column = cell_in kinds image (row_place kinds row) column

-- a row's hash
unfoldable pub stored_hash : List CellKind → List ℕ → ℕ → ℕ
stored_hash kinds image row = number_at image (row_place kinds row + mask_bytes kinds) 8

pub record StoredRow : Type 0 where
  pub hash : ℕ
  pub cells : List StoredCell

-- a row: its hash, and its cells in column order
abbrev pub stored_row : List CellKind → List ℕ → ℕ → StoredRow
stored_row kinds image row =
    record { hash = stored_hash kinds image row; cells = map (λ column. stored_cell kinds image row column) (range_with_len 0 (length kinds)) }

-- the rows of an image, in order
unfoldable pub rows_of : List CellKind → List ℕ → List StoredRow
rows_of kinds image = map (λ row. stored_row kinds image row) (range_with_len 0 (row_count image))

-- where a part stands in the head, and what it says
abbrev pub part_place : ℕ → ℕ
part_place part = 32 + 24 * part

unfoldable pub part_at : List ℕ → ℕ → Part
part_at image part =
    record {
      first = number_at image (part_place part) 4;
      rows = number_at image (part_place part + 4) 4;
      heap = number_at image (part_place part + 8) 4;
      base = number_at image (part_place part + 16) 8;
    }

-- the parts of an image, in order
unfoldable pub parts_of : List ℕ → List Part
parts_of image = map (λ part. part_at image part) (range_with_len 0 (part_count image))

-- the heap number of a part without a heap page, and the part of a row that none covers
abbrev pub no_heap : ℕ
no_heap = NO_HEAP

abbrev pub no_part : Part
no_part = record { first = 0; rows = 0; heap = no_heap; base = 0 }

-- the part of a row: the first that ends behind it
unfoldable pub part_for : List ℕ → ℕ → Part
part_for image row = unwrap_or (find (λ part. nat_lt row (part.first + part.rows)) (parts_of image)) no_part
