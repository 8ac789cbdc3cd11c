-- The rows that flat row and heap images stand for, with texts as values.
use Rattle.std.specs.Prelude.{ℕ, ℤ, ◌+◌, List, [], length, map, slice_range, Option, Some, None}
use Rattle.std.specs.List.{range_with_len}
use Rattle.row_image.specs.declared.layout.CellKind.{CellKind}
use Rattle.row_image.specs.declared.cell.CellIn.{CellIn}
use Rattle.row_image.specs.Cells.{StoredCell, NullCell, NumberCell, ShortCell, LongCell, given_cell}
use Rattle.row_image.specs.Image.{row_count, stored_cell, stored_hash, part_for}
use Rattle.row_image.specs.Flat.{flattened, base_of}

-- NULL, a number, or a text
pub data CellValue : Type 0 where
  NullValue : CellValue
  NumberValue : ℤ → CellValue
  TextValue : List ℕ → CellValue

-- what a cell stands for: a long text is the bytes at its address of the heap image
abbrev pub value_of : List ℕ → StoredCell → CellValue
value_of heap NullCell = NullValue
value_of heap (NumberCell z) = NumberValue z
value_of heap (ShortCell text) = TextValue text
value_of heap (LongCell prefix size address) = TextValue (slice_range heap address (address + size))

pub record ValueRow : Type 0 where
  pub hash : ℕ
  pub values : List CellValue

-- the rows of a flat row image, where `heaps` gives the flat image of each heap page by its number
unfoldable pub text_rows : List CellKind → List ℕ → (ℕ → List ℕ) → List ValueRow
text_rows kinds content heaps =
    map (λ row. record { hash = stored_hash kinds content row; values = map (λ column. value_of (heaps (part_for content row).heap) (stored_cell kinds content row column)) (range_with_len 0 (length kinds)) })
    (range_with_len 0 (row_count content))

abbrev pub heap_of : (ℕ → List ℕ) → Option (ℕ × ℕ) → List ℕ
heap_of heaps None = []
heap_of heaps (Some heap) = heaps heap.0

-- a row as it is handed in, with texts as values
abbrev pub given_texts : (ℕ → List ℕ) → List CellIn → ℕ → Option (ℕ × ℕ) → ValueRow
given_texts heaps cells hash heap = record { hash = hash; values = map (λ cell. value_of (heap_of heaps heap) (flattened (base_of heap) (given_cell cell))) cells }
