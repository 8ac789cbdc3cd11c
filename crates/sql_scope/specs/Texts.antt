-- Names in a script, and what they stand for.
use Rattle.std.specs.Prelude.{ℕ, Bool, ◌==◌, List, [], ◌∷◌, map, if◌then◌else◌, false}
use Rattle.std.specs.Char.{to_ascii_lowercase}
use Rattle.sql_lex.specs.Values.{unquoted}
use Rattle.sql_grammar.specs.declared.tree.expr.Span.{Span}
pub use Rattle.sql_grammar.specs.Spans.{text_at}

abbrev pub is_quoted : List ℕ → Bool
is_quoted [] = false
is_quoted (c ∷ text) = c == 34

-- a name without its quotes
abbrev pub plain_name : List ℕ → List ℕ
plain_name text = if is_quoted text then unquoted text else text

-- names are alike without regard to ASCII case
abbrev pub folded : List ℕ → List ℕ
folded name = map to_ascii_lowercase name

abbrev pub folded_at : List ℕ → Span → List ℕ
folded_at script span = folded (plain_name (text_at script span))
