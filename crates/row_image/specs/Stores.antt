-- What is written when a row is.
use Rattle.std.specs.Prelude.{◌≡◌, ◌≢◌, ℕ, ◌+◌, ◌<◌, ◌≤◌, ◌==◌, List, length, get_or, slice_index}
use Rattle.row_image.specs.declared.limits.TheConstants.{ROW_HEAD}
use Rattle.row_image.specs.declared.layout.CellKind.{CellKind}
use Rattle.row_image.specs.declared.layout.CellKind.TheVariants.{Bit}
use Rattle.row_image.specs.declared.cell.CellIn.{CellIn}
use Rattle.row_image.specs.declared.cell.CellIn.TheVariants.{Null}
use Rattle.row_image.specs.Bytes.{number_at}
use Rattle.row_image.specs.Layout.{cell_width, mask_bytes, offset_of, width_of, row_place}
use Rattle.row_image.specs.Cells.{StoredCell, NullCell, NumberCell, ShortCell, LongCell, given_cell, null_bit}
use Rattle.row_image.specs.Image.{is_null, cell_at, row_count, part_count, part_place}

-- the bytes of a cell that was written: zeros for NULL, and zeros behind a short text
abbrev pub StoresAt : CellKind → List ℕ → ℕ → StoredCell → Type 0
StoresAt kind image at NullCell = (k : ℕ) → at ≤ k → k < at + cell_width kind → slice_index image k ≡ 0
StoresAt kind image at (NumberCell z) = cell_at kind image at ≡ NumberCell z
StoresAt kind image at (ShortCell text) = (cell_at kind image at ≡ ShortCell text) × ((k : ℕ) → at + 4 + length text ≤ k → k < at + 16 → slice_index image k ≡ 0)
StoresAt kind image at (LongCell prefix size address) = cell_at kind image at ≡ LongCell prefix size address

-- the bytes of a row that was written at a place
pub record StoresRow (kinds : List CellKind) (image : List ℕ) (at : ℕ) (cells : List CellIn) (hash : ℕ) : Type 0 where
  pub hash_is : number_at image (at + mask_bytes kinds) 8 ≡ hash
  pub nulls : (column : ℕ) → column < length kinds → is_null image at column ≡ (null_bit cells column == 1)
  pub stored : (column : ℕ) → column < length kinds → StoresAt (get_or kinds column Bit) image (at + offset_of kinds column) (given_cell (get_or cells column Null))

-- The bytes behind a head's counts when a row is counted in the parts: those up to the first entry and the entries of
-- other parts are the same, and the last part's word of zeros is 0.
pub record KeepsEntries (old new : List ℕ) : Type 0 where
  pub gap : (k : ℕ) → 16 ≤ k → k < 32 → slice_index new k ≡ slice_index old k
  pub others : (part : ℕ) → part < 4 → part + 1 ≢ part_count new → (k : ℕ) → part_place part ≤ k → k < part_place (part + 1) → slice_index new k ≡ slice_index old k
  pub zeros : (part : ℕ) → part + 1 ≡ part_count new → number_at new (part_place part + 12) 4 ≡ 0

-- The bytes that the new row doesn't show when it is written behind the others: the page's kind and width, those of the
-- head that say nothing of the row's part, the rows before, and the free bytes behind.
pub record KeepsHidden (kinds : List CellKind) (old new : List ℕ) : Type 0 where
  pub kind : (k : ℕ) → k < 8 → slice_index new k ≡ slice_index old k
  pub entries : KeepsEntries old new
  pub rows : (k : ℕ) → ROW_HEAD ≤ k → k < row_place kinds (row_count old) → slice_index new k ≡ slice_index old k
  pub free : (k : ℕ) → row_place kinds (row_count old) + width_of kinds ≤ k → slice_index new k ≡ slice_index old k
