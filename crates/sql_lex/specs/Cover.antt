-- A script as its tokens, with nothing but blanks and comments between them.
use Rattle.std.specs.Prelude.{◌≡◌, ℕ, ◌+◌, ◌<◌, ◌≤◌, List, [], ◌∷◌, ◌++◌, length, true, not, ◌==◌, codes}
use Rattle.std.specs.List.{list_all, All}
use Rattle.sql_lex.specs.declared.token.Token.{Token}
use Rattle.sql_lex.specs.declared.token.TokenKind.{TokenKind}
use Rattle.sql_lex.specs.Gaps.{is_blank}

-- a blank, a comment that begins with `--` and has no LF, or one between `/*` and `*/`
pub data IsGap : List ℕ → Type 0 where
  blank : (c : ℕ) → is_blank c ≡ true → IsGap (c ∷ [])
  line_comment : (body : List ℕ) → list_all (λ c. not (c == 10)) body ≡ true → IsGap (codes "--" ++ body)
  block_comment : (body : List ℕ) → IsGap (codes "/*" ++ (body ++ codes "*/"))

-- from a place on, a script is gaps and the texts of these tokens in turn: no text is empty,
-- and each span begins where the bytes before it end and has as many bytes as the text
pub data Covers : ℕ → List ℕ → List Token → Type 0 where
  nothing : (place : ℕ) → Covers place [] []
  gap : (place : ℕ) (between rest : List ℕ) (tokens : List Token) → IsGap between → Covers (place + length between) rest tokens → Covers place (between ++ rest) tokens
  token : (place : ℕ) (text rest : List ℕ) (kind : TokenKind) (tokens : List Token) → 0 < length text → Covers (place + length text) rest tokens
      → Covers place (text ++ rest) ((record { kind = kind; start = place; end = place + length text }) ∷ tokens)

-- each token has a byte at least, and ends within so many bytes
abbrev pub AreWithin : ℕ → List Token → Type 0
AreWithin size tokens = All (λ token. (token.start < token.end) × (token.end ≤ size)) tokens
