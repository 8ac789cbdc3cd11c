-- What a cell holds, and which cells a layout takes.
use Rattle.std.specs.Prelude.{◌≡◌, ℕ, ℤ, pos, ◌<◌, ◌≤◌, ◌≤ℤ◌, List, length, get_or}
use Rattle.std.specs.Int.{w32, w64, w128}
use Rattle.std.specs.Int.RustNames.{FitsSigned}
use Rattle.row_image.specs.declared.layout.CellKind.{CellKind}
use Rattle.row_image.specs.declared.layout.CellKind.TheVariants.{Bit, Four, Eight, Sixteen, Text}
use Rattle.row_image.specs.declared.cell.CellIn.{CellIn}
use Rattle.row_image.specs.declared.cell.CellIn.TheVariants as given
use Rattle.row_image.specs.declared.cell.Cell.{Cell}
use Rattle.row_image.specs.declared.cell.Cell.TheVariants as read

-- NULL, a number, a short text, or a long text's first 4 bytes, length and address
pub data StoredCell : Type 0 where
  NullCell : StoredCell
  NumberCell : ℤ → StoredCell
  ShortCell : List ℕ → StoredCell
  LongCell : List ℕ → ℕ → ℕ → StoredCell

-- the cell that is handed in
abbrev pub given_cell : CellIn → StoredCell
given_cell given.Null = NullCell
given_cell (given.Number z) = NumberCell z
given_cell (given.Short text) = ShortCell text.now
given_cell (given.Long prefix size address) = LongCell prefix size address

-- the cell that was read
abbrev pub shown_cell : Cell → StoredCell
shown_cell read.Null = NullCell
shown_cell (read.Number z) = NumberCell z
shown_cell (read.Short text) = ShortCell text.now
shown_cell (read.Long prefix size address) = LongCell prefix size address

-- a kind's column takes the cell, where texts have at most `limit` bytes
abbrev pub Takes : CellKind → ℕ → StoredCell → Type 0
Takes kind limit NullCell = Unit {0}
Takes Bit limit (NumberCell z) = (pos 0 ≤ℤ z) × (z ≤ℤ pos 1)
Takes Four limit (NumberCell z) = FitsSigned w32 z
Takes Eight limit (NumberCell z) = FitsSigned w64 z
Takes Sixteen limit (NumberCell z) = FitsSigned w128 z
Takes Text limit (NumberCell z) = ⊥
Takes Text limit (ShortCell text) = length text ≤ 12
Takes Text limit (LongCell prefix size address) = (13 ≤ size) × (size ≤ limit)
Takes _ limit (ShortCell text) = ⊥
Takes _ limit (LongCell prefix size address) = ⊥

-- there is one cell for each kind, and each kind takes its cell
pub record Meets (kinds : List CellKind) (limit : ℕ) (cells : List CellIn) : Type 0 where
  pub count : length cells ≡ length kinds
  pub each : (column : ℕ) → column < length kinds → Takes (get_or kinds column Bit) limit (given_cell (get_or cells column given.Null))

-- 1 for NULL
abbrev pub null_number : StoredCell → ℕ
null_number NullCell = 1
null_number (NumberCell z) = 0
null_number (ShortCell text) = 0
null_number (LongCell prefix size address) = 0

-- the bit of a column in the null mask
abbrev pub null_bit : List CellIn → ℕ → ℕ
null_bit cells column = null_number (given_cell (get_or cells column (given.Number (pos 0))))
