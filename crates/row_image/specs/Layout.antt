-- Where the parts of a row lie: its null mask, its hash, and its cells in column order.
use Rattle.std.specs.Prelude.{ℕ, ◌+◌, ◌*◌, ◌-◌, ◌/◌, Bool, true, false, List, length, take}
use Rattle.std.specs.List.{sum_by, list_any}
use Rattle.row_image.specs.declared.limits.TheConstants.{ROW_HEAD}
use Rattle.row_image.specs.declared.layout.CellKind.{CellKind}
use Rattle.row_image.specs.declared.layout.CellKind.TheVariants.{Bit, Four, Eight, Sixteen, Text}

-- how many bytes a cell takes
abbrev pub cell_width : CellKind → ℕ
cell_width Bit = 1
cell_width Four = 4
cell_width Eight = 8
cell_width Sixteen = 16
cell_width Text = 16

abbrev pub is_text : CellKind → Bool
is_text Bit = false
is_text Four = false
is_text Eight = false
is_text Sixteen = false
is_text Text = true

-- the null mask has a bit for each column
unfoldable pub mask_bytes : List CellKind → ℕ
mask_bytes kinds = (length kinds + 7) / 8

-- where a column's cell begins in a row: behind the mask, the 8 bytes of the hash and the cells before it
unfoldable pub offset_of : List CellKind → ℕ → ℕ
offset_of kinds column = mask_bytes kinds + 8 + sum_by cell_width (take column kinds)

-- how many bytes a row takes
unfoldable pub width_of : List CellKind → ℕ
width_of kinds = offset_of kinds (length kinds)

-- whether a column is of texts
unfoldable pub has_texts : List CellKind → Bool
has_texts kinds = list_any is_text kinds

-- how many rows fit on a page, behind its head
unfoldable pub rows_that_fit : List CellKind → ℕ → ℕ
rows_that_fit kinds page = (page - ROW_HEAD) / width_of kinds

-- where a row begins on its page
unfoldable pub row_place : List CellKind → ℕ → ℕ
row_place kinds row = ROW_HEAD + row * width_of kinds
