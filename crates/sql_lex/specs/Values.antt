-- What tokens stand for.
use Rattle.std.specs.Prelude.{◌≡◌, ◌<◌, ◌≤◌, ◌⊎◌, ℕ, ℤ, pos, ◌+◌, ◌-◌, ◌++◌, take, drop, nat_le, ◌^◌, List, length, Bool, ◌&&◌, ◌==◌, nat_lt, slice_index, slice_range, Option, None, Some, if◌then◌else◌}
use Rattle.std.specs.Str.Parse.{digits_value}
use Rattle.sql_lex.specs.declared.values.DecimalValue.{DecimalValue}
use Rattle.sql_lex.specs.Numbers.{digits_length, begins_with_number, begins_with_point, decimal_width}
use Rattle.sql_lex.specs.Quotes.{undoubled}

-- digits, one at least, that write at most 2^127 - 1
abbrev pub is_integer : List ℕ → Bool
is_integer text = (nat_lt 0 (length text) && (digits_length text == length text)) && nat_lt (digits_value 10 text) (2 ^ 127)

-- the value of an integer
abbrev pub integer_value : List ℕ → Option ℤ
integer_value text = if is_integer text then Some (pos (digits_value 10 text)) else None

-- what stands between the quotes of a text in quotes, with each doubled quote as one
abbrev pub unquoted : List ℕ → List ℕ
unquoted text = undoubled (slice_index text 0) (slice_range text 1 (length text - 1))

-- digits, a point and digits, with one digit at least and a width of at most 38
abbrev pub is_decimal : List ℕ → Bool
is_decimal text = let n = digits_length text in
    let fraction = drop (n + 1) text in
    (begins_with_number text && begins_with_point (drop n text)) && ((digits_length fraction == length fraction) && nat_le (decimal_width text fraction) 38)

-- the value of a decimal: the number that the digits before and behind the point write, the count of those behind it, and the width
abbrev pub decimal_value : List ℕ → Option DecimalValue
decimal_value text = let n = digits_length text in
    let fraction = drop (n + 1) text in
    if is_decimal text then Some (record { digits = pos (digits_value 10 (take n text ++ fraction)); scale = length fraction; width = decimal_width text fraction }) else None

-- What the value of a decimal is like: its digits aren't negative and fit the width, which is from 1 to 38 and not less than the scale;
-- and it is the least such width, or the number's first digit isn't zero.
pub record IsProperDecimal (d : DecimalValue) : Type 0 where
  pub number : ℕ
  pub written : d.digits ≡ pos number
  pub some_digit : 1 ≤ d.width
  pub places : d.scale ≤ d.width
  pub small : number < 10 ^ d.width
  pub most : d.width ≤ 38
  pub least : (d.width ≡ 1) ⊎ (d.width ≡ d.scale) ⊎ (10 ^ (d.width - 1) ≤ number)
