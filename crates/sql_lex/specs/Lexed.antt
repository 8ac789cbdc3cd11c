-- The tokens of a script.
use Rattle.std.specs.Prelude.{ℕ, zero, suc, ◌+◌, ◌-◌, List, [], ◌∷◌, Result, Ok, Err, if◌then◌else◌}
use Rattle.std.specs.Str.{is_utf8}
use Rattle.std.specs.Str.Lossy.{utf8_valid_len}
use Rattle.sql_lex.specs.declared.token.Token.{Token}
use Rattle.sql_lex.specs.declared.rules.Front.{Front}
use Rattle.sql_lex.specs.declared.rules.Front.TheVariants.{Gap, Lexeme, Bad}
use Rattle.sql_lex.specs.Fronts.{front_of}

-- how many bytes stand at the front of a text
abbrev pub front_length : Front → ℕ
front_length (Gap n) = n
front_length (Lexeme kind n) = n
front_length Bad = 0

-- a token before others
abbrev pub before : Token → Result (List Token) ℕ → Result (List Token) ℕ
before token (Ok tokens) = Ok (token ∷ tokens)
before token (Err place) = Err place

-- at a place where this stands, the tokens, given those behind it
abbrev pub with_front : Front → ℕ → Result (List Token) ℕ → Result (List Token) ℕ
with_front (Gap n) place behind = behind
with_front (Lexeme kind n) place behind = before (record { kind = kind; start = place; end = place + n }) behind
with_front Bad place behind = Err place

-- the tokens of what is left of a script at a place, or the first place where neither a token nor a gap stands;
-- the first `inside` bytes of what is left belong to what stands before them
abbrev pub tokens_from : ℕ → ℕ → List ℕ → Result (List Token) ℕ
tokens_from place inside [] = Ok []
tokens_from place (suc inside) (c ∷ rest) = tokens_from (place + 1) inside rest
tokens_from place zero (c ∷ rest) = let front = front_of (c ∷ rest) in
    with_front front place (tokens_from (place + 1) (front_length front - 1) rest)

-- the tokens of a script, or the place of the first bad one. Where the script is no UTF-8, that is
-- the place of the first ill-formed sequence, wherever other tokens stand.
unfoldable pub lexed : List ℕ → Result (List Token) ℕ
lexed script = if is_utf8 script then tokens_from 0 0 script else Err (utf8_valid_len script)
