-- The classes of tokens.
use Rattle.std.specs.Prelude.{ℕ, List, [], ◌∷◌}
use Rattle.sql_lex.specs.declared.token.Word.{Word}
use Rattle.sql_lex.specs.declared.token.Word.TheVariants as w
use Rattle.sql_lex.specs.declared.token.Sign.{Sign}
use Rattle.sql_lex.specs.declared.token.Sign.TheVariants as s
use Rattle.sql_lex.specs.declared.token.TokenKind.{TokenKind}
use Rattle.sql_lex.specs.declared.token.TokenKind.TheVariants as k

-- each reserved word is a class
abbrev pub word_class : Word → ℕ
word_class w.All = 0
word_class w.And = 1
word_class w.As = 2
word_class w.Asc = 3
word_class w.Between = 4
word_class w.By = 5
word_class w.Copy = 6
word_class w.Create = 7
word_class w.Cross = 8
word_class w.Desc = 9
word_class w.Distinct = 10
word_class w.Drop = 11
word_class w.Except = 12
word_class w.Explain = 13
word_class w.False = 14
word_class w.From = 15
word_class w.Group = 16
word_class w.Having = 17
word_class w.In = 18
word_class w.Inner = 19
word_class w.Intersect = 20
word_class w.Is = 21
word_class w.Join = 22
word_class w.Left = 23
word_class w.Like = 24
word_class w.Limit = 25
word_class w.Not = 26
word_class w.Null = 27
word_class w.Offset = 28
word_class w.On = 29
word_class w.Or = 30
word_class w.Order = 31
word_class w.Outer = 32
word_class w.Select = 33
word_class w.Table = 34
word_class w.True = 35
word_class w.Union = 36
word_class w.Where = 37

-- and each sign
abbrev pub sign_class : Sign → ℕ
sign_class s.LeftParenthesis = 40
sign_class s.RightParenthesis = 41
sign_class s.Comma = 42
sign_class s.Semicolon = 43
sign_class s.Dot = 44
sign_class s.Star = 45
sign_class s.Plus = 46
sign_class s.Minus = 47
sign_class s.Quotient = 48
sign_class s.Remainder = 49
sign_class s.Equal = 50
sign_class s.Unequal = 51
sign_class s.Less = 52
sign_class s.AtMost = 53
sign_class s.Greater = 54
sign_class s.AtLeast = 55

-- a parenthesis before SELECT, which opens a subquery where one may stand
abbrev pub query_class : ℕ
query_class = 56

-- the classes of an opening parenthesis
abbrev pub opens : List ℕ
opens = sign_class s.LeftParenthesis ∷ query_class ∷ []

-- a plain name, one between double quotes, the names that are words of COPY's options, and DATE, with which a date begins before a text
abbrev pub plain_class : ℕ
plain_class = 60

abbrev pub quoted_class : ℕ
quoted_class = 61

abbrev pub header_class : ℕ
header_class = 62

abbrev pub delimiter_class : ℕ
delimiter_class = 63

-- literals
abbrev pub text_class : ℕ
text_class = 64

abbrev pub integer_class : ℕ
integer_class = 65

abbrev pub decimal_class : ℕ
decimal_class = 66

abbrev pub date_class : ℕ
date_class = 67

-- the class of a token of this kind, but for plain names and opening parentheses
abbrev pub kind_class : TokenKind → ℕ
kind_class (k.Word word) = word_class word
kind_class k.Name = plain_class
kind_class k.QuotedName = quoted_class
kind_class k.Text = text_class
kind_class k.Integer = integer_class
kind_class k.Decimal = decimal_class
kind_class (k.Sign sign) = sign_class sign

-- the classes of names but DATE
abbrev pub other_names : List ℕ
other_names = plain_class ∷ quoted_class ∷ header_class ∷ delimiter_class ∷ []

-- the classes of names
abbrev pub names : List ℕ
names = date_class ∷ other_names
