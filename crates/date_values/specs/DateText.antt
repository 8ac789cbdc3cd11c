-- The text of a date: the year in four digits, the month and the day in two, with hyphens between them.
use Rattle.std.specs.Prelude.{ℕ, ◌+◌, ◌/◌, ◌%◌, ℤ, List, [], ◌∷◌, ◌++◌}
use Rattle.date_values.specs.declared.date.Date.{Date}
use Rattle.date_values.specs.Calendar.{date_of}

-- the tens and the ones, as ASCII digits
abbrev pub two_digits : ℕ → List ℕ
two_digits n = (48 + n / 10) ∷ (48 + n % 10) ∷ []

abbrev pub date_text : Date → List ℕ
date_text date = two_digits (date.year / 100) ++ two_digits (date.year % 100) ++ 45 ∷ two_digits date.month ++ 45 ∷ two_digits date.day

-- `YYYY-MM-DD`
unfoldable pub day_text : ℤ → List ℕ
day_text day = date_text (date_of day)
