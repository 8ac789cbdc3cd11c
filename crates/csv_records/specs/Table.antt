-- The table of the four states. The first argument is the delimiter.
use Rattle.std.specs.Prelude.{ℕ, ◌≢◌, ◌<◌, ◌==◌, ◌||◌, if◌then◌else◌, Bool, true, false, Option, Some, None, List, [], ◌∷◌}
use Rattle.csv_records.specs.declared.mark.Mark.{Mark}
use Rattle.csv_records.specs.declared.mark.Mark.TheVariants.{FieldStart, Plain, Quoted, QuoteSeen}

abbrev pub double_quote : ℕ
double_quote = 34

abbrev pub line_feed : ℕ
line_feed = 10

abbrev pub carriage_return : ℕ
carriage_return = 13

-- a byte that can separate fields: an ASCII byte, and no double quote, LF or CR
pub record IsDelimiter (d : ℕ) : Type 0 where
  pub ascii : d < 128
  pub quote : d ≢ 34
  pub feed : d ≢ 10
  pub return : d ≢ 13

-- CR or LF
abbrev pub is_line_end : ℕ → Bool
is_line_end byte = (byte == line_feed) || (byte == carriage_return)

-- the state after a byte outside of quotes, and none where the record ends
abbrev pub after_plain : ℕ → ℕ → Option Mark
after_plain d byte = if byte == d then Some FieldStart else if is_line_end byte then None else Some Plain

-- the state after a byte, and none where the record ends
abbrev pub after : ℕ → Mark → ℕ → Option Mark
after d FieldStart byte = if byte == double_quote then Some Quoted else after_plain d byte
after d Plain byte = after_plain d byte
after d Quoted byte = if byte == double_quote then Some QuoteSeen else Some Quoted
after d QuoteSeen byte = if byte == double_quote then Some Quoted else after_plain d byte

-- the state after these bytes, and none where one of them ends the record
unfoldable pub state_after : ℕ → Mark → List ℕ → Option Mark
state_after d mark [] = Some mark
state_after d mark (byte ∷ bytes) = elim (after d mark byte) [ None ↦ None | Some next ↦ state_after d next bytes ]

-- a double quote, CR or LF
abbrev pub is_special : ℕ → Bool
is_special byte = (byte == double_quote) || is_line_end byte

abbrev pub is_quoted : Mark → Bool
is_quoted FieldStart = false
is_quoted Plain = false
is_quoted Quoted = true
is_quoted QuoteSeen = false

abbrev pub stops_quoted : Option Mark → Bool
stops_quoted None = false
stops_quoted (Some mark) = is_quoted mark

-- whether a record's bytes end inside of quotes
unfoldable pub ends_quoted : ℕ → List ℕ → Bool
ends_quoted d bytes = stops_quoted (state_after d FieldStart bytes)
