-- The text of a number.
use Rattle.std.specs.Prelude.{ℕ, suc, ℤ, pos, negsuc, List, [], ◌∷◌, ◌++◌, ◌+◌, ◌/◌, ◌%◌, ◌^◌, decimal}
use Prim.Native.Nat.{zero}

-- the last `count` decimal digits of n, as bytes
abbrev pub places : ℕ → ℕ → List ℕ
places zero n = []
places (suc count) n = places count (n / 10) ++ (48 + n % 10) ∷ []

-- the integer part, which has a digit at least, and where the scale isn't 0 a point and exactly `scale` digits
unfoldable pub magnitude_text : ℕ → ℕ → List ℕ
magnitude_text n zero = decimal n
magnitude_text n (suc more) = decimal (n / 10 ^ suc more) ++ 46 ∷ places (suc more) n

-- the number `digits / 10 ^ scale`, with `-` where it is negative
abbrev pub number_text : ℤ → ℕ → List ℕ
number_text (pos n) scale = magnitude_text n scale
number_text (negsuc n) scale = 45 ∷ magnitude_text (suc n) scale
