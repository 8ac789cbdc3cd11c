-- The day of a date's text.
use Rattle.std.specs.Prelude.{ℕ, zero, suc, ◌+◌, ℤ, pos, ◌+ℤ◌, List, Option, Some, None, if◌then◌else◌}
use Rattle.std.specs.Str.{bytes_eq}
use Rattle.ooc_types.specs.Meets.{first_day}
use Rattle.date_values.specs.DateText.{day_text}

-- the days from 0001-01-01 to 9999-12-31
abbrev pub all_days : ℕ
all_days = 3652059

-- the first of so many days, from a number of days behind 0001-01-01 on, whose text it is
unfoldable pub day_from : ℕ → ℕ → List ℕ → Option ℤ
day_from zero days text = None
day_from (suc more) days text =
    if bytes_eq (day_text (first_day +ℤ pos days)) text then Some (first_day +ℤ pos days) else day_from more (days + 1) text

-- the day of a text `YYYY-MM-DD`
unfoldable pub day_of : List ℕ → Option ℤ
day_of text = day_from all_days 0 text
