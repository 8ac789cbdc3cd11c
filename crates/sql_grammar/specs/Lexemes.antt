-- The tokens of a script as the grammar sees them.
use Rattle.std.specs.Prelude.{ℕ, List, [], ◌∷◌, length, map, Bool, true, false, codes, nat_le, slice_range, if◌then◌else◌}
use Rattle.std.specs.Char.{to_ascii_lowercase}
use Rattle.std.specs.Str.{bytes_eq}
use Rattle.sql_lex.specs.declared.token.Token.{Token}
use Rattle.sql_lex.specs.declared.token.TokenKind.{TokenKind}
use Rattle.sql_lex.specs.declared.token.TokenKind.TheVariants as k
use Rattle.sql_lex.specs.declared.token.Word.TheVariants as w
use Rattle.sql_lex.specs.declared.token.Sign.TheVariants as s
use Rattle.sql_grammar.specs.Lexeme.{Lexeme}
use Rattle.sql_grammar.specs.Classes.{kind_class, sign_class, query_class, plain_class, header_class, delimiter_class, date_class}

-- the token is spelled with these small letters, without regard to ASCII case
unfoldable pub is_spelled : List ℕ → ℕ → ℕ → List ℕ → Bool
is_spelled script start end letters = if nat_le start end
    then (if nat_le end (length script) then bytes_eq (map to_ascii_lowercase (slice_range script start end)) letters else false)
    else false

-- HEADER and DELIMITER are words of COPY's options, DATE before a text begins a date, and elsewhere they are names
unfoldable pub name_class : List ℕ → ℕ → ℕ → ℕ
name_class script start end = if is_spelled script start end (codes "header") then header_class
    else if is_spelled script start end (codes "delimiter") then delimiter_class
    else if is_spelled script start end (codes "date") then date_class
    else plain_class

abbrev pub is_select : TokenKind → Bool
is_select (k.Word w.Select) = true
is_select kind = false

-- the class of an opening parenthesis before these tokens: before SELECT it is one of its own
abbrev pub parenthesis_class : List Token → ℕ
parenthesis_class [] = sign_class s.LeftParenthesis
parenthesis_class (t ∷ tokens) = if is_select t.kind then query_class else sign_class s.LeftParenthesis

-- the class of a token of this kind, where a plain name and an opening parenthesis have these
abbrev pub class_of : TokenKind → ℕ → ℕ → ℕ
class_of k.Name name parenthesis = name
class_of (k.Sign s.LeftParenthesis) name parenthesis = parenthesis
class_of kind name parenthesis = kind_class kind

-- a token before these others
abbrev pub lexeme : List ℕ → Token → List Token → Lexeme
lexeme script t others = record { class = class_of t.kind (name_class script t.start t.end) (parenthesis_class others); start = t.start; end = t.end }

abbrev pub lexemes : List ℕ → List Token → List Lexeme
lexemes script [] = []
lexemes script (t ∷ tokens) = lexeme script t tokens ∷ lexemes script tokens
