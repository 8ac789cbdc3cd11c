-- The characters of a text.
use Rattle.std.specs.Prelude.{ℕ, zero, suc, ◌-◌, Bool, List, [], ◌∷◌, take, if◌then◌else◌, length, nat_le, ◌&&◌}
use Rattle.std.specs.Str.{is_utf8}

-- whether the first n bytes are there, and are UTF-8
abbrev pub has_front : ℕ → List ℕ → Bool
has_front n bytes = nat_le n (length bytes) && is_utf8 (take n bytes)

-- How long the character is with which bytes begin: the shortest front that is UTF-8, which is one Unicode scalar of
-- one to four bytes, and one byte where no scalar begins.
unfoldable pub char_length : List ℕ → ℕ
char_length bytes =
    if has_front 1 bytes then 1 else (if has_front 2 bytes then 2 else (if has_front 3 bytes then 3 else (if has_front 4 bytes then 4 else 1)))

-- the characters behind the next n bytes
abbrev pub characters_behind : ℕ → List ℕ → List (List ℕ)
characters_behind n [] = []
characters_behind zero (byte ∷ bytes) =
    take (char_length (byte ∷ bytes)) (byte ∷ bytes) ∷ characters_behind (char_length (byte ∷ bytes) - 1) bytes
characters_behind (suc n) (byte ∷ bytes) = characters_behind n bytes

-- A text as its characters: Unicode scalars, and single bytes where none begins.
unfoldable pub characters : List ℕ → List (List ℕ)
characters bytes = characters_behind 0 bytes
