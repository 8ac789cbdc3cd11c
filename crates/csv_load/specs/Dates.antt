-- The date of a field.
use Rattle.std.specs.Prelude.{ℕ, zero, suc, ℤ, pos, ◌+ℤ◌, List, Option, Some, None, if◌then◌else◌}
use Rattle.std.specs.Str.{bytes_eq}
use Rattle.ooc_types.specs.Meets.{first_day}
use Rattle.date_values.specs.DateText.{day_text}

-- the day so many days after 0001-01-01
abbrev pub day_after : ℕ → ℤ
day_after n = first_day +ℤ pos n

-- the one of the first n days from 0001-01-01 on whose text these bytes are
unfoldable pub day_within : ℕ → List ℕ → Option ℤ
day_within zero bytes = None
day_within (suc n) bytes = if bytes_eq (day_text (day_after n)) bytes then Some (day_after n) else day_within n bytes

-- the day from 0001-01-01 to 9999-12-31 whose text `YYYY-MM-DD` these bytes are
unfoldable pub day_of : List ℕ → Option ℤ
day_of bytes = day_within 3652059 bytes
