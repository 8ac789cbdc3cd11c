-- The canonical bytes of a key: values that are equal by value have equal bytes, whatever their types.
use Rattle.std.specs.Prelude.{ℕ, ℤ, pos, suc, List, [], ◌∷◌, ◌++◌, ◌%◌, ◌^◌, length, if◌then◌else◌, int_div, int_rem, Option, Some, None}
use Rattle.std.specs.Option.{option_map_or}
use Prim.Native.Nat.{zero}
use Rattle.std.specs.Ordering.{int_eq}
use Rattle.std.specs.Int.{to_le_bytes, cast_unsigned, from_bool, w32, w128}
use Rattle.ooc_types.specs.declared.value.Value.{Value}
use Rattle.ooc_types.specs.declared.value.Value.TheVariants.{Null, Truth, Number, Day, Text}

-- a tenth of the digits, where the last of them is zero
abbrev pub tenth : ℤ → Option ℤ
tenth digits = if int_eq (int_rem digits (pos 10)) (pos 0) then Some (int_div digits (pos 10)) else None

-- the digits and the scale without the zeros at the end of the fraction
abbrev pub reduce : ℤ → ℕ → ℤ × ℕ
reduce digits zero = (digits, 0)
reduce digits (suc scale) = option_map_or (λ fewer. reduce fewer scale) (tenth digits) (digits, suc scale)

-- 16 bytes in two's complement, the lowest first
unfoldable pub digits_bytes : ℤ → List ℕ
digits_bytes digits = to_le_bytes w128 (cast_unsigned w128 digits)

-- 4 bytes in two's complement, the lowest first
unfoldable pub day_bytes : ℤ → List ℕ
day_bytes day = to_le_bytes w32 (cast_unsigned w32 day)

-- the mark of a number, its scale, and its digits
abbrev pub number_bytes : ℤ × ℕ → List ℕ
number_bytes n = 1 ∷ n.1 ∷ digits_bytes n.0

-- the lowest 32 bits of a length
unfoldable pub length_bytes : ℕ → List ℕ
length_bytes length = to_le_bytes w32 (length % 2 ^ 32)

-- the mark of a text, its length, and its bytes
abbrev pub text_bytes : List ℕ → List ℕ
text_bytes bytes = 3 ∷ length_bytes (length bytes) ++ bytes

-- each kind of value has its mark in front
abbrev pub value_bytes : Value → List ℕ
value_bytes Null = 0 ∷ []
value_bytes (Number digits scale) = number_bytes (reduce digits scale)
value_bytes (Truth truth) = 2 ∷ from_bool truth ∷ []
value_bytes (Day day) = 4 ∷ day_bytes day
value_bytes (Text bytes) = text_bytes bytes

-- those of the values, in order
abbrev pub canonical : List Value → List ℕ
canonical [] = []
canonical (value ∷ key) = value_bytes value ++ canonical key
