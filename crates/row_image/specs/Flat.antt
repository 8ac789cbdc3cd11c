-- What an image says wherever its heap pages lie.
use Rattle.std.specs.Prelude.{ℕ, ◌+◌, ◌-◌, nat_lt, not, ◌&&◌, Bool, if◌then◌else◌, List, ◌++◌, length, get_or, take, drop, replicate, map, slice_range, Option, Some, None}
use Rattle.std.specs.List.{range_with_len, flat_map}
use Rattle.row_image.specs.declared.layout.CellKind.{CellKind}
use Rattle.row_image.specs.declared.layout.CellKind.TheVariants.{Bit}
use Rattle.row_image.specs.declared.image.ImageKind.{ImageKind}
use Rattle.row_image.specs.declared.image.ImageKind.TheVariants.{Rows, Heap, Plain}
use Rattle.row_image.specs.Bytes.{number_at, number_bytes}
use Rattle.row_image.specs.Layout.{cell_width, is_text, mask_bytes, offset_of, row_place}
use Rattle.row_image.specs.declared.cell.CellIn.{CellIn}
use Rattle.row_image.specs.Cells.{StoredCell, NullCell, NumberCell, ShortCell, LongCell, given_cell}
use Rattle.row_image.specs.Image.{row_count, part_count, is_null, part_place, part_for, StoredRow}

-- whether the cell of a column, in the row at a place, is a text that lies on a heap page
unfoldable pub is_long_in : List CellKind → List ℕ → ℕ → ℕ → Bool
is_long_in kinds image at column =
    not (is_null image at column) && (is_text (get_or kinds column Bit) && nat_lt 12 (number_at image (at + offset_of kinds column) 4))

-- the bytes of a cell, where a long text's address is its offset on the heap page at a base
unfoldable pub flat_cell : List CellKind → List ℕ → ℕ → ℕ → ℕ → List ℕ
flat_cell kinds image at base column =
    let place = at + offset_of kinds column in
    if is_long_in kinds image at column
    then slice_range image place (place + 8) ++ number_bytes 8 (number_at image (place + 8) 8 - base)
    else slice_range image place (place + cell_width (get_or kinds column Bit))

-- the bytes of a row
unfoldable pub flat_row : List CellKind → List ℕ → ℕ → List ℕ
flat_row kinds image row =
    let at = row_place kinds row in
    slice_range image at (at + (mask_bytes kinds + 8))
    ++ flat_map (λ column. flat_cell kinds image at (part_for image row).base column) (range_with_len 0 (length kinds))

-- the entry of a part, whose base is 0
unfoldable pub flat_part : List ℕ → ℕ → List ℕ
flat_part image part =
    slice_range image (part_place part) (part_place part + 16)
    ++ (if nat_lt part (part_count image) then replicate 8 0 else slice_range image (part_place part + 16) (part_place part + 24))

-- an image where each address of a long text is its offset on its heap page, and all bases are 0; a heap page says the same wherever it lies
unfoldable pub flat : ImageKind → List ℕ → List ℕ
flat (Rows kinds) image =
    take 32 image
    ++ flat_map (λ part. flat_part image part) (range_with_len 0 4)
    ++ flat_map (λ row. flat_row kinds image row) (range_with_len 0 (row_count image))
    ++ drop (row_place kinds (row_count image)) image
flat Heap image = image
flat Plain image = image

-- a cell where a long text's address is its offset on the heap page at a base
abbrev pub flattened : ℕ → StoredCell → StoredCell
flattened base NullCell = NullCell
flattened base (NumberCell z) = NumberCell z
flattened base (ShortCell text) = ShortCell text
flattened base (LongCell prefix size address) = LongCell prefix size (address - base)

abbrev pub base_of : Option (ℕ × ℕ) → ℕ
base_of None = 0
base_of (Some heap) = heap.1

-- a row as it is handed in, where addresses are offsets on the heap page that is handed in with it
abbrev pub given_flat : List CellIn → ℕ → Option (ℕ × ℕ) → StoredRow
given_flat cells hash heap = record { hash = hash; cells = map (λ cell. flattened (base_of heap) (given_cell cell)) cells }
