-- The text of a result.
use Rattle.std.specs.Prelude.{ℕ, Bool, true, false, ◌||◌, List, [], ◌∷◌, ◌++◌, ◌==◌, if◌then◌else◌, map, length, codes, ◌≤◌, ⊤}
use Rattle.std.specs.List.{list_any, flat_map, join_with_byte}
use Rattle.std.specs.Str.{bytes_eq}
use Rattle.ooc_types.specs.declared.value.Value.{Value}
use Rattle.ooc_types.specs.declared.value.Value.TheVariants.{Null, Truth, Number, Day, Text}
use Rattle.ooc_types.specs.declared.schema.Column.{Column}
use Rattle.ooc_decimal.specs.Printed.{number_text}
use Rattle.date_values.specs.Calendar.{nearest_day}
use Rattle.date_values.specs.DateText.{day_text}

-- a comma, a double quote, CR or LF
abbrev pub is_special : ℕ → Bool
is_special byte = (byte == 44) || (byte == 34) || (byte == 13) || (byte == 10)

-- the empty text, the text NULL, and a text with a special byte
abbrev pub needs_quotes : List ℕ → Bool
needs_quotes bytes = (length bytes == 0) || bytes_eq bytes (codes "NULL") || list_any is_special bytes

-- a double quote is doubled
abbrev pub doubled : ℕ → List ℕ
doubled byte = if byte == 34 then 34 ∷ 34 ∷ [] else byte ∷ []

-- a text in double quotes
unfoldable pub quoted : List ℕ → List ℕ
quoted bytes = 34 ∷ flat_map doubled bytes ++ 34 ∷ []

-- a text or a name
abbrev pub field_text : List ℕ → List ℕ
field_text bytes = if needs_quotes bytes then quoted bytes else bytes

abbrev pub value_text : Value → List ℕ
value_text Null = codes "NULL"
value_text (Truth true) = codes "true"
value_text (Truth false) = codes "false"
value_text (Number digits scale) = number_text digits scale
value_text (Day day) = day_text (nearest_day day)
value_text (Text bytes) = field_text bytes

-- fields with a comma between two of them
unfoldable pub joined : List (List ℕ) → List ℕ
joined fields = join_with_byte 44 fields

-- fields joined by commas, and a line feed
abbrev pub line_text : List (List ℕ) → List ℕ
line_text fields = joined fields ++ 10 ∷ []

abbrev pub column_text : Column → List ℕ
column_text column = field_text column.name

-- the line of the columns' names
unfoldable pub header_text : List Column → List ℕ
header_text columns = line_text (map column_text columns)

-- the line of a row
unfoldable pub row_text : List Value → List ℕ
row_text row = line_text (map value_text row)

-- a whole result: the header line, a line for each row, and an empty line
unfoldable pub block_text : List Column → List (List Value) → List ℕ
block_text columns rows = header_text columns ++ flat_map row_text rows ++ 10 ∷ []

-- a value whose text is within the limit of a row's texts
abbrev pub IsShort : Value → Type 0
IsShort (Text bytes) = length bytes ≤ 4095
IsShort (Number digits scale) = ⊤
IsShort (Truth truth) = ⊤
IsShort (Day day) = ⊤
IsShort Null = ⊤
