-- The numbers of a command line.
use Rattle.std.specs.Prelude.{ℕ, ◌≡◌, true, ◌^◌, ◌-◌, ◌+◌, ◌*◌, Bool, ◌&&◌, nat_le, nat_lt, if◌then◌else◌, length, fold, Option, Some, None}
use Rattle.std.specs.List.{list_all}
use Rattle.run_settings.specs.Limits.{default_threads, default_limit, default_page, most_digits, is_thread_count, is_page}
use Rattle.run_settings.specs.Words.{Word, Asked, ◌>>=◌}
use Rattle.run_settings.specs.declared.sizes.Sizes.{Sizes}

abbrev pub is_digit : ℕ → Bool
is_digit byte = nat_le 48 byte && nat_le byte 57

-- the number that digits spell
abbrev pub value_of : Word → ℕ
value_of digits = fold (λ n byte. n * 10 + (byte - 48)) 0 digits

-- 1 to 20 digits
abbrev pub is_numeral : Word → Bool
is_numeral text = (nat_le 1 (length text) && nat_le (length text) most_digits) && list_all is_digit text

-- the number that a text of 1 to 20 digits spells, where it is below 2^64
unfoldable pub number_of : Word → Option ℕ
number_of text = if is_numeral text && nat_lt (value_of text) (2 ^ 64) then Some (value_of text) else None

-- the number of a text, or another where none is given
abbrev pub number_or : ℕ → Option Word → Option ℕ
number_or other None = Some other
number_or other (Some text) = number_of text

abbrev pub only_if : (ℕ → Bool) → ℕ → Option ℕ
only_if test n = if test n then Some n else None

abbrev pub thread_count : Option Word → Option ℕ
thread_count text = number_or default_threads text >>= only_if is_thread_count

abbrev pub page_length : Option Word → Option ℕ
page_length text = number_or default_page text >>= only_if is_page

-- the numbers that are asked for, or those that stand where none is, each in its range
abbrev pub sizes_of : Asked → Option Sizes
sizes_of asked = do
  threads ← thread_count asked.threads
  limit ← number_or default_limit asked.limit
  page ← page_length asked.page
  Some (record { threads = threads; limit = limit; page = page })

-- what the sizes of a command line have in common
abbrev pub HasRanges : Sizes → Type 0
HasRanges sizes = is_page sizes.page ≡ true
