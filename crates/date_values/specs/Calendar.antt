-- The civil calendar, counted day by day from 0001-01-01.
use Rattle.std.specs.Prelude.{ℕ, zero, suc, ◌+◌, ◌%◌, Bool, not, ◌&&◌, ◌||◌, ◌==◌, if◌then◌else◌, nat_lt, ℤ, ◌-ℤ◌, int_lt, unsigned_abs}
use Rattle.date_values.specs.declared.date.Date.{Date}
use Rattle.ooc_types.specs.Meets.{first_day, last_day}

-- every fourth year, but of the centuries only every fourth
abbrev pub is_leap_year : ℕ → Bool
is_leap_year year = (year % 4 == 0) && (not (year % 100 == 0) || (year % 400 == 0))

-- thirty days have September, April, June and November
abbrev pub days_in_month : ℕ → ℕ → ℕ
days_in_month year month =
    if month == 2 then (if is_leap_year year then 29 else 28)
    else (if (month == 4) || (month == 6) || (month == 9) || (month == 11) then 30 else 31)

-- the day after: the next of its month, or the first of the next month, or of the next year
abbrev pub next_day : Date → Date
next_day date =
    if nat_lt date.day (days_in_month date.year date.month) then record { year = date.year; month = date.month; day = date.day + 1 }
    else (if nat_lt date.month 12 then record { year = date.year; month = date.month + 1; day = 1 }
    else record { year = date.year + 1; month = 1; day = 1 })

-- the date so many days after 0001-01-01
unfoldable pub date_after : ℕ → Date
date_after zero = record { year = 1; month = 1; day = 1 }
date_after (suc days) = next_day (date_after days)

-- the date of a day number that isn't before `first_day`
unfoldable pub date_of : ℤ → Date
date_of day = date_after (unsigned_abs (day -ℤ first_day))

-- a day number, and for one outside the years 1 to 9999 the nearest end
abbrev pub nearest_day : ℤ → ℤ
nearest_day day = if int_lt day first_day then first_day else (if int_lt last_day day then last_day else day)
