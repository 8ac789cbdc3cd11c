-- What stands at the front of a text.
use Rattle.std.proofs.Common.{◌≡◌, ℕ, ◌<◌, List, [], ◌∷◌, length, take, get_or, Some, None, arith, ap, ◌∙◌}
use Rattle.std.specs.Prelude.{Option}
use Rattle.sql_lex.specs.declared.token.Sign.{Sign}
use Rattle.sql_lex.specs.declared.token.TokenKind.TheVariants as kind
use Rattle.sql_lex.specs.declared.rules.Front.TheVariants.{Lexeme, Bad}
use Rattle.sql_lex.specs.Signs.{sign_of}
use Rattle.sql_lex.specs.Fronts.{sign_front, sign_or, pair_at}

-- a sign of two bytes
pub sign_front-pair : (text : List ℕ) (sign : Sign) → Some sign ≡ pair_at text → Lexeme (kind.Sign sign) 2 ≡ sign_front text
unfolding sign_front
sign_front-pair text sign found = ap (λ (o : Option Sign). sign_or o 2 (sign_or (sign_of (take 1 text)) 1 Bad)) found

-- or else what the first byte is
pub sign_front-byte : (text : List ℕ) (found : Option Sign) → 0 < length text → None ≡ pair_at text → found ≡ sign_of (get_or text 0 0 ∷ []) → sign_or found 1 Bad ≡ sign_front text
unfolding sign_front
sign_front-byte [] found some no_pair byte = absurd (omega arith)
sign_front-byte (c ∷ rest) found some no_pair byte = ap (λ (o : Option Sign). sign_or o 1 Bad) byte ∙ ap (λ (o : Option Sign). sign_or o 2 (sign_or (sign_of (c ∷ [])) 1 Bad)) no_pair
