-- The cells of dates.
use Rattle.std.specs.Prelude.{◌≡◌, List, [], ◌∷◌, ⊤}
use Rattle.std.specs.Int.{w32}
use Rattle.std.specs.Int.RustNames.{FitsSigned}
use Rattle.ooc_types.specs.declared.schema.SqlType.{SqlType}
use Rattle.ooc_types.specs.declared.schema.SqlType.TheVariants.{Date}
use Rattle.row_image.specs.Texts.{CellValue, NullValue, NumberValue, TextValue}

-- a number in a column of dates is that of a day
abbrev pub HasDay : SqlType → CellValue → Type 0
HasDay kind NullValue = ⊤
HasDay kind (NumberValue z) = kind ≡ Date → FitsSigned w32 z
HasDay kind (TextValue text) = ⊤

abbrev pub HaveDays : List SqlType → List CellValue → Type 0
HaveDays [] cells = ⊤
HaveDays (kind ∷ kinds) [] = ⊤
HaveDays (kind ∷ kinds) (cell ∷ cells) = HasDay kind cell × HaveDays kinds cells
