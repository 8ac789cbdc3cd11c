-- What LIKE says, of the characters of a pattern and of a text.
use Rattle.std.specs.Prelude.{ℕ, Bool, true, false, ◌||◌, ◌&&◌, List, [], ◌∷◌, if◌then◌else◌}
use Rattle.std.specs.Str.{bytes_eq}

-- `%`
abbrev pub is_percent : List ℕ → Bool
is_percent character = bytes_eq character (37 ∷ [])

-- `_`
abbrev pub is_underscore : List ℕ → Bool
is_underscore character = bytes_eq character (95 ∷ [])

-- whether a test holds behind some number of characters
abbrev pub holds_behind_some : (List (List ℕ) → Bool) → List (List ℕ) → Bool
holds_behind_some test [] = test []
holds_behind_some test (character ∷ text) = test (character ∷ text) || holds_behind_some test text

-- whether a text begins with a character that the pattern's stands for, and the test holds behind it
abbrev pub holds_behind_one : List ℕ → (List (List ℕ) → Bool) → List (List ℕ) → Bool
holds_behind_one sign test [] = false
holds_behind_one sign test (character ∷ text) = (is_underscore sign || bytes_eq sign character) && test text

abbrev pub is_empty_text : List (List ℕ) → Bool
is_empty_text [] = true
is_empty_text (character ∷ text) = false

-- `%` stands for any characters, `_` for one, and all else for itself.
abbrev pub is_like : List (List ℕ) → List (List ℕ) → Bool
is_like [] text = is_empty_text text
is_like (sign ∷ pattern) text =
    if is_percent sign then holds_behind_some (is_like pattern) text else holds_behind_one sign (is_like pattern) text
