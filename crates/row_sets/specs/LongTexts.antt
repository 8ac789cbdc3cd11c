-- The long texts of a row, one behind the other on a heap page.
use Rattle.std.specs.Prelude.{◌≡◌, ℕ, ◌+◌, nat_lt, true, List, [], ◌∷◌, length, slice_range, ⊤}
use Rattle.row_image.specs.declared.limits.TheConstants.{MOST_SHORT}
use Rattle.row_image.specs.Texts.{CellValue, NullValue, NumberValue, TextValue}
use Rattle.row_sets.specs.Cells.{long_of}

-- a long text stands at a place
abbrev pub TextAt : List ℕ → ℕ → CellValue → Type 0
TextAt bytes at NullValue = ⊤
TextAt bytes at (NumberValue z) = ⊤
TextAt bytes at (TextValue text) = nat_lt MOST_SHORT (length text) ≡ true → slice_range bytes at (at + length text) ≡ text

abbrev pub TextsAt : List ℕ → ℕ → List CellValue → Type 0
TextsAt bytes at [] = ⊤
TextsAt bytes at (value ∷ values) = TextAt bytes at value × TextsAt bytes (at + long_of value) values
