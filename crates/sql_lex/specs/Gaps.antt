-- What may stand between tokens: blanks and comments.
use Rattle.std.specs.Prelude.{ℕ, suc, ◌+◌, List, [], ◌∷◌, drop, Bool, not, ◌||◌, ◌==◌, nat_eq, Option, None, Some, codes, if◌then◌else◌}
use Rattle.std.specs.List.{prefix_len, starts_with}
use Rattle.std.specs.Option.{option_map}

-- space, tab, CR or LF
abbrev pub is_blank : ℕ → Bool
is_blank c = (c == 32 || c == 9) || (c == 13 || c == 10)

-- how many bytes a comment that begins with `--` takes: all before the end of its line, which is LF
abbrev pub line_comment_length : List ℕ → ℕ
line_comment_length text = prefix_len (λ c. not (c == 10)) text

-- how many bytes stand before the first `*/`
abbrev pub before_close : List ℕ → Option ℕ
before_close [] = None
before_close (c ∷ text) = if starts_with nat_eq (c ∷ text) (codes "*/") then Some 0 else option_map suc (before_close text)

-- how many bytes a comment that begins with `/*` takes: up to the next `*/` after that
abbrev pub block_comment_length : List ℕ → Option ℕ
block_comment_length text = option_map (λ inside. inside + 4) (before_close (drop 2 text))
