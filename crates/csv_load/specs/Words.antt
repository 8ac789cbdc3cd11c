-- The words of BOOLEAN.
use Rattle.std.specs.Prelude.{ℕ, Bool, true, false, List, Option, Some, None, if◌then◌else◌, ◌||◌, codes}
use Rattle.std.specs.Str.{str_eq_ignore_ascii_case}

-- the same word, without regard to the case of ASCII letters
abbrev pub is_word : List ℕ → List ℕ → Bool
is_word word bytes = str_eq_ignore_ascii_case bytes word

-- `true`, `t` and `1`, `false`, `f` and `0`
unfoldable pub truth_of : List ℕ → Option Bool
truth_of bytes =
    if is_word (codes "true") bytes || is_word (codes "t") bytes || is_word (codes "1") bytes then Some true
    else if is_word (codes "false") bytes || is_word (codes "f") bytes || is_word (codes "0") bytes then Some false
    else None
