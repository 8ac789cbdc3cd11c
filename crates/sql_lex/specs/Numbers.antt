-- Numbers: digits with at most one point.
use Rattle.std.specs.Prelude.{ℕ, ◌+◌, ◌-◌, max, List, [], ◌∷◌, drop, Bool, false, ◌||◌, ◌&&◌, ◌==◌}
use Rattle.std.specs.List.{prefix_len}
use Rattle.std.specs.Char.{is_ascii_digit}

-- the text begins with a digit
abbrev pub begins_with_digit : List ℕ → Bool
begins_with_digit [] = false
begins_with_digit (c ∷ _) = is_ascii_digit c

-- the text begins with a point
abbrev pub begins_with_point : List ℕ → Bool
begins_with_point [] = false
begins_with_point (c ∷ _) = c == 46

-- the text begins with a digit, or with a point and a digit
abbrev pub begins_with_number : List ℕ → Bool
begins_with_number text = begins_with_digit text || (begins_with_point text && begins_with_digit (drop 1 text))

-- how many digits stand at the front
abbrev pub digits_length : List ℕ → ℕ
digits_length text = prefix_len is_ascii_digit text

-- how many of them are zeros before any other
abbrev pub zeros_length : List ℕ → ℕ
zeros_length text = prefix_len (λ c. c == 48) text

-- the width of a number with a point: the digits before it without leading zeros and those after it, and at least 1
abbrev pub decimal_width : List ℕ → List ℕ → ℕ
decimal_width text fraction = max 1 ((digits_length text - zeros_length text) + digits_length fraction)
