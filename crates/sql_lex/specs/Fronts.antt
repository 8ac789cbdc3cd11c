-- What stands at the front of a text: a blank or a comment, a token, or neither.
use Rattle.std.specs.Prelude.{ℕ, ◌+◌, ◌-◌, ◌^◌, List, [], ◌∷◌, length, take, drop, Bool, ◌==◌, ◌&&◌, nat_eq, nat_lt, nat_le, Option, None, Some, codes, if◌then◌else◌}
use Rattle.std.specs.List.{starts_with, list_all}
use Rattle.std.specs.Str.Parse.{digits_value}
use Rattle.sql_lex.specs.declared.token.Word.{Word}
use Rattle.sql_lex.specs.declared.token.Sign.{Sign}
use Rattle.sql_lex.specs.declared.token.TokenKind.{TokenKind}
use Rattle.sql_lex.specs.declared.token.TokenKind.TheVariants as kind
use Rattle.sql_lex.specs.declared.rules.Front.{Front}
use Rattle.sql_lex.specs.declared.rules.Front.TheVariants.{Gap, Lexeme, Bad}
use Rattle.sql_lex.specs.Words.{word_of}
use Rattle.sql_lex.specs.Signs.{sign_of}
use Rattle.sql_lex.specs.Gaps.{is_blank, line_comment_length, block_comment_length}
use Rattle.sql_lex.specs.Names.{is_name_start, name_length, name_limit}
use Rattle.sql_lex.specs.Quotes.{to_closing, undoubled}
use Rattle.sql_lex.specs.Numbers.{begins_with_number, begins_with_point, digits_length, decimal_width}

-- a gap of that length, if there is one
abbrev pub gap_of : Option ℕ → Front
gap_of None = Bad
gap_of (Some n) = Gap n

-- a name, or the word that it is
abbrev pub kind_of_name : Option Word → TokenKind
kind_of_name None = kind.Name
kind_of_name (Some word) = kind.Word word

-- a name or a word: the longest run of letters, digits and `_`, of at most 63
unfoldable pub name_front : List ℕ → Front
name_front text = let n = name_length text in
    if nat_le n name_limit then Lexeme (kind_of_name (word_of (take n text))) n else Bad

-- a text literal that takes n bytes behind its first quote
abbrev pub text_of : Option ℕ → Front
text_of None = Bad
text_of (Some n) = Lexeme kind.Text (n + 1)

-- a text literal: single quotes, and a quote without its end is bad
unfoldable pub text_front : List ℕ → Front
text_front text = text_of (to_closing 39 (drop 1 text))

-- what a quoted name stands for has 1 to 63 bytes and none below 32
abbrev pub is_quoted_name : List ℕ → Bool
is_quoted_name name = (nat_lt 0 (length name) && nat_le (length name) name_limit) && list_all (λ c. nat_le 32 c) name

-- a quoted name that takes n bytes behind its first quote
abbrev pub quoted_of : List ℕ → Option ℕ → Front
quoted_of inside None = Bad
quoted_of inside (Some n) = if is_quoted_name (undoubled 34 (take (n - 1) inside)) then Lexeme kind.QuotedName (n + 1) else Bad

-- a name between double quotes
unfoldable pub quoted_front : List ℕ → Front
quoted_front text = quoted_of (drop 1 text) (to_closing 34 (drop 1 text))

-- digits without a point: an integer of at most 2^127 - 1
abbrev pub integer_front : List ℕ → ℕ → Front
integer_front text n = if nat_lt (digits_value 10 (take n text)) (2 ^ 127) then Lexeme kind.Integer n else Bad

-- n digits, a point, and the digits of what follows: a decimal of width at most 38
abbrev pub decimal_front : List ℕ → ℕ → List ℕ → Front
decimal_front text n fraction = if nat_le (decimal_width text fraction) 38 then Lexeme kind.Decimal (n + 1 + digits_length fraction) else Bad

-- a number: digits, and the point and digits behind them, if a point stands there
unfoldable pub number_front : List ℕ → Front
number_front text = let n = digits_length text in
    if begins_with_point (drop n text) then decimal_front text n (drop (n + 1) text) else integer_front text n

-- a sign of these bytes, or else what stands otherwise
abbrev pub sign_or : Option Sign → ℕ → Front → Front
sign_or None n otherwise = otherwise
sign_or (Some sign) n otherwise = Lexeme (kind.Sign sign) n

-- the sign of the first two bytes of a text, if it has two and they are one
abbrev pub pair_at : List ℕ → Option Sign
pair_at text = if nat_le 2 (length text) then sign_of (take 2 text) else None

-- a sign: of two bytes if they are one, or else of one byte
unfoldable pub sign_front : List ℕ → Front
sign_front text = sign_or (pair_at text) 2 (sign_or (sign_of (take 1 text)) 1 Bad)

-- what stands at the front of a text
unfoldable pub front_of : List ℕ → Front
front_of [] = Bad
front_of (c ∷ rest) = let text = c ∷ rest in
    if is_name_start c then name_front text
    else if is_blank c then Gap 1
    else if begins_with_number text then number_front text
    else if c == 39 then text_front text
    else if c == 34 then quoted_front text
    else if starts_with nat_eq text (codes "--") then Gap (line_comment_length text)
    else if starts_with nat_eq text (codes "/*") then gap_of (block_comment_length text)
    else sign_front text
