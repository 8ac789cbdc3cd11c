-- Which values a column takes.
use Rattle.std.specs.Prelude.{ℕ, pos, ◌≤◌, ◌≤ℤ◌, List, [], ◌∷◌, length, ⊤}
use Rattle.std.specs.Int.{w32, w64, w128}
use Rattle.std.specs.Int.RustNames.{FitsSigned}
use Rattle.row_image.specs.declared.layout.CellKind.{CellKind}
use Rattle.row_image.specs.declared.layout.CellKind.TheVariants.{Bit, Four, Eight, Sixteen, Text}
use Rattle.row_image.specs.Texts.{CellValue, NullValue, NumberValue, TextValue}

-- NULL, or a value that a column of a kind takes, where texts have at most `limit` bytes
abbrev pub Fits : CellKind → ℕ → CellValue → Type 0
Fits kind limit NullValue = ⊤
Fits Bit limit (NumberValue z) = (pos 0 ≤ℤ z) × (z ≤ℤ pos 1)
Fits Four limit (NumberValue z) = FitsSigned w32 z
Fits Eight limit (NumberValue z) = FitsSigned w64 z
Fits Sixteen limit (NumberValue z) = FitsSigned w128 z
Fits Text limit (NumberValue z) = ⊥
Fits Text limit (TextValue text) = length text ≤ limit
Fits _ limit (TextValue text) = ⊥

-- a row with a value for each column, which the column takes
abbrev pub RowFits : List CellKind → ℕ → List CellValue → Type 0
RowFits [] limit [] = ⊤
RowFits [] limit (value ∷ values) = ⊥
RowFits (kind ∷ kinds) limit [] = ⊥
RowFits (kind ∷ kinds) limit (value ∷ values) = Fits kind limit value × RowFits kinds limit values
