-- What a move of a heap page does to a row's cells and to its part.
use Rattle.std.specs.Prelude.{◌≡◌, ℕ, ◌+◌, ◌-◌, ◌<◌, ◌≤◌, true, false, List, length, get_or, slice_index}
use Rattle.row_image.specs.declared.layout.CellKind.{CellKind}
use Rattle.row_image.specs.declared.layout.CellKind.TheVariants.{Bit}
use Rattle.row_image.specs.declared.image.Part.{Part}
use Rattle.row_image.specs.Bytes.{number_at}
use Rattle.row_image.specs.Layout.{cell_width, mask_bytes, offset_of}
use Rattle.row_image.specs.Flat.{is_long_in}

-- a part at another base
abbrev pub based : Part → ℕ → Part
based part base = record { first = part.first; rows = part.rows; heap = part.heap; base = base }

-- the bytes of a cell are the same, but for the address of a long text, which moves from a base to another
pub record MovesCell (kinds : List CellKind) (old new : List ℕ) (at from to column : ℕ) : Type 0 where
  pub other : is_long_in kinds old at column ≡ false → (k : ℕ) → at + offset_of kinds column ≤ k → k < at + offset_of kinds column + cell_width (get_or kinds column Bit) → slice_index new k ≡ slice_index old k
  pub size : is_long_in kinds old at column ≡ true → (k : ℕ) → at + offset_of kinds column ≤ k → k < at + offset_of kinds column + 8 → slice_index new k ≡ slice_index old k
  pub address : is_long_in kinds old at column ≡ true → number_at new (at + offset_of kinds column + 8) 8 ≡ number_at old (at + offset_of kinds column + 8) 8 - from + to

-- a long text's address is not below the base, and not far above it
pub record IsReached (kinds : List CellKind) (image : List ℕ) (at base column : ℕ) : Type 0 where
  pub low : is_long_in kinds image at column ≡ true → base ≤ number_at image (at + offset_of kinds column + 8) 8
  pub high : is_long_in kinds image at column ≡ true → number_at image (at + offset_of kinds column + 8) 8 ≤ base + 262144

-- all cells of a row move, and its mask and its hash are the same
pub record MovesRow (kinds : List CellKind) (old new : List ℕ) (at from to : ℕ) : Type 0 where
  pub head : (k : ℕ) → at ≤ k → k < at + mask_bytes kinds + 8 → slice_index new k ≡ slice_index old k
  pub cells : (column : ℕ) → column < length kinds → MovesCell kinds old new at from to column
