-- The signs.
use Rattle.std.specs.Prelude.{ℕ, List, [], ◌∷◌, Option, codes, find}
use Rattle.std.specs.Option.{option_map}
use Rattle.std.specs.Str.{bytes_eq}
use Rattle.sql_lex.specs.declared.token.Sign.{Sign}
use Rattle.sql_lex.specs.declared.token.Sign.TheVariants.{LeftParenthesis, RightParenthesis, Comma, Semicolon, Dot, Star, Plus, Minus, Quotient, Remainder, Equal, Unequal, Less, AtMost, Greater, AtLeast}

-- each sign with its bytes
abbrev pub signs : List (List ℕ × Sign)
signs = (codes "<>", Unequal) ∷ (codes "!=", Unequal) ∷ (codes "<=", AtMost) ∷ (codes ">=", AtLeast) ∷ (codes "//", Quotient)
    ∷ (codes "(", LeftParenthesis) ∷ (codes ")", RightParenthesis) ∷ (codes ",", Comma) ∷ (codes ";", Semicolon) ∷ (codes ".", Dot)
    ∷ (codes "*", Star) ∷ (codes "+", Plus) ∷ (codes "-", Minus) ∷ (codes "%", Remainder)
    ∷ (codes "=", Equal) ∷ (codes "<", Less) ∷ (codes ">", Greater) ∷ []

-- the sign with these bytes, if they are a sign's
unfoldable pub sign_of : List ℕ → Option Sign
sign_of bytes = option_map (λ entry. entry.1) (find (λ entry. bytes_eq bytes entry.0) signs)
