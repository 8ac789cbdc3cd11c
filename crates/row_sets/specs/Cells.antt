-- Rows of values below those of SQL, and the cells that they are stored as.
use Rattle.std.specs.Prelude.{ℕ, ◌+◌, nat_lt, if◌then◌else◌, List, [], ◌∷◌, length, take, ⊤}
use Rattle.row_image.specs.declared.limits.TheConstants.{MOST_SHORT}
use Rattle.row_image.specs.declared.layout.CellKind.{CellKind}
use Rattle.row_image.specs.Layout.{is_text}
use Rattle.row_image.specs.Cells.{StoredCell, NullCell, NumberCell, ShortCell, LongCell}
use Rattle.row_image.specs.Texts.{CellValue, NullValue, NumberValue, TextValue, ValueRow}
use Rattle.rebase_pins.specs.Fits.{RowFits}

-- each row of a list fits the columns
abbrev pub AllFit : List CellKind → ℕ → List ValueRow → Type 0
AllFit kinds limit [] = ⊤
AllFit kinds limit (row ∷ rows) = RowFits kinds limit row.values × AllFit kinds limit rows

-- how many columns are of texts
abbrev pub text_columns : List CellKind → ℕ
text_columns [] = 0
text_columns (kind ∷ kinds) = (if is_text kind then 1 else 0) + text_columns kinds

-- the bytes that a text takes on a heap page: all of them, where it doesn't lie in its cell
abbrev pub long_text : List ℕ → ℕ
long_text text = if nat_lt MOST_SHORT (length text) then length text else 0

abbrev pub long_of : CellValue → ℕ
long_of NullValue = 0
long_of (NumberValue z) = 0
long_of (TextValue text) = long_text text

-- those of a row
abbrev pub long_in : List CellValue → ℕ
long_in [] = 0
long_in (value ∷ values) = long_of value + long_in values

-- and those of rows
abbrev pub long_total : List ValueRow → ℕ
long_total [] = 0
long_total (row ∷ rows) = long_in row.values + long_total rows

-- the cell of a value, whose long text lies at an address
abbrev pub cell_of : CellValue → ℕ → StoredCell
cell_of NullValue at = NullCell
cell_of (NumberValue z) at = NumberCell z
cell_of (TextValue text) at = if nat_lt MOST_SHORT (length text) then LongCell (take 4 text) (length text) at else ShortCell text

-- the cells of a row, whose long texts lie one behind the other from an address on
abbrev pub cells_of : List CellValue → ℕ → List StoredCell
cells_of [] at = []
cells_of (value ∷ values) at = cell_of value at ∷ cells_of values (at + long_of value)
