-- Tokens as the grammar sees them: a class, and a span.
use Rattle.std.specs.Prelude.{◌==◌, ℕ, List, [], ◌∷◌, Option, Some, None, Bool, true, false, if◌then◌else◌}

-- a token of a class, which stands in the script from `start` to before `end`
pub record Lexeme : Type 0 where
  pub class : ℕ
  pub start : ℕ
  pub end : ℕ

-- the class is one of these
abbrev pub is_among : ℕ → List ℕ → Bool
is_among c [] = false
is_among c (k ∷ ks) = if c == k then true else is_among c ks

-- the next token is of one of these classes
abbrev pub sees : List ℕ → Option Lexeme → Bool
sees ks None = false
sees ks (Some x) = is_among x.class ks

abbrev pub first : List Lexeme → Option Lexeme
first [] = None
first (x ∷ w) = Some x

abbrev pub tail : List Lexeme → List Lexeme
tail [] = []
tail (x ∷ w) = w

-- the next token, where there is one
abbrev pub lexeme_at : Option Lexeme → Lexeme
lexeme_at None = record { class = 0; start = 0; end = 0 }
lexeme_at (Some x) = x
