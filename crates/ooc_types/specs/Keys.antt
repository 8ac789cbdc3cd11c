-- Keys: when two of them are equal.
use Rattle.std.specs.Prelude.{◌≡◌, ◌<◌, ◌^◌, List, length, ⊤, FitsSigned}
use Rattle.std.specs.declared.cmp.Ordering.TheVariants.{Equal}
use Rattle.std.specs.Int.{w32, w128}
use Rattle.ooc_types.specs.declared.value.Value.{Value}
use Rattle.ooc_types.specs.declared.value.Value.TheVariants.{Null, Truth, Number, Day, Text}
use Rattle.ooc_types.specs.Order.{value_cmp}
use Rattle.ooc_types.specs.Meets.{AllMeet}

-- as many values, and each ties with that at its place: numbers by value, and NULL with NULL
abbrev pub AreEqual : List Value → List Value → Type 0
AreEqual key other = AllMeet (λ value same. value_cmp value same ≡ Equal) key other

-- no text, or one shorter than 2^32 bytes
abbrev pub HasShortText : Value → Type 0
HasShortText Null = ⊤
HasShortText (Truth truth) = ⊤
HasShortText (Number digits scale) = ⊤
HasShortText (Day day) = ⊤
HasShortText (Text bytes) = length bytes < 2 ^ 32

-- a value that a variable can hold: 128 bits of digits, 8 of a scale, 32 of a day
abbrev pub IsHeld : Value → Type 0
IsHeld Null = ⊤
IsHeld (Truth truth) = ⊤
IsHeld (Number digits scale) = FitsSigned w128 digits × (scale < 256)
IsHeld (Day day) = FitsSigned w32 day
IsHeld (Text bytes) = ⊤
