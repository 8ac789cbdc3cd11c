-- The number that a text spells.
use Rattle.std.specs.Prelude.{ℕ, ℤ, Bool, false, ◌||◌, ◌&&◌, not, List, [], ◌∷◌, ◌++◌, ◌+◌, ◌-◌, ◌*◌, ◌/◌, ◌^◌, ◌==◌, if◌then◌else◌, length, reverse, Option, Some, None}
use Rattle.std.specs.List.{before_first, after_first}
use Rattle.std.specs.Str.{all_ascii_digits}
use Rattle.ooc_types.specs.declared.schema.SqlType.{SqlType}
use Rattle.ooc_types.specs.declared.schema.SqlType.TheVariants.{Decimal}
use Rattle.ooc_decimal.specs.Numeric.{scale_of, signed}

-- a space or a tab
abbrev pub is_blank : ℕ → Bool
is_blank byte = (byte == 32) || (byte == 9)

-- without the blanks at the front
abbrev pub after_blanks : List ℕ → List ℕ
after_blanks [] = []
after_blanks (byte ∷ bytes) = if is_blank byte then after_blanks bytes else byte ∷ bytes

-- without the blanks at both ends
unfoldable pub trimmed : List ℕ → List ℕ
trimmed bytes = reverse (after_blanks (reverse (after_blanks bytes)))

-- with a minus at the front
abbrev pub has_minus : List ℕ → Bool
has_minus [] = false
has_minus (byte ∷ bytes) = byte == 45

-- without the plus or minus at the front
abbrev pub without_sign : List ℕ → List ℕ
without_sign [] = []
without_sign (byte ∷ bytes) = if (byte == 45) || (byte == 43) then bytes else byte ∷ bytes

abbrev pub is_point : ℕ → Bool
is_point byte = byte == 46

-- the bytes before the point, which only a decimal may have
abbrev pub whole_of : SqlType → List ℕ → List ℕ
whole_of (Decimal width scale) bytes = before_first is_point bytes
whole_of kind bytes = bytes

-- the bytes behind the point
abbrev pub part_of : SqlType → List ℕ → List ℕ
part_of (Decimal width scale) bytes = after_first is_point bytes
part_of kind bytes = []

-- digits alone, and one at least
abbrev pub is_numeral : List ℕ → Bool
is_numeral bytes = all_ascii_digits bytes && not (length bytes == 0)

-- the number that digits spell behind the digits of n
abbrev pub number_after : ℕ → List ℕ → ℕ
number_after n [] = n
number_after n (digit ∷ digits) = number_after (n * 10 + (digit - 48)) digits

-- `n / 10 ^ places` in units of ten to the power of minus `scale`, rounded, and half of a unit rounded up
unfoldable pub rounded : ℕ → ℕ → ℕ → ℕ
rounded n places scale = (2 * n * 10 ^ scale + 10 ^ places) / (2 * 10 ^ places)

-- the magnitude of a number whose digits stand before and behind a point, in units of a scale
abbrev pub magnitude : List ℕ → List ℕ → ℕ → ℕ
magnitude whole part scale = rounded (number_after 0 (whole ++ part)) (length part) scale

-- The number that a text spells, in units of the type's scale: blanks at the ends, a sign, digits, and at a decimal
-- a point. Digits beyond the scale are rounded, half away from zero.
unfoldable pub spelled : SqlType → List ℕ → Option ℤ
spelled kind text =
    let body = trimmed text in
    let whole = whole_of kind (without_sign body) in
    let part = part_of kind (without_sign body) in
    if is_numeral (whole ++ part) then Some (signed (has_minus body) (magnitude whole part (scale_of kind))) else None
