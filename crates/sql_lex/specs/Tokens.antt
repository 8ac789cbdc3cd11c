-- The tokens of a script, as contracts see them.
use Rattle.std.specs.Prelude.{ℕ, List}
use Rattle.sql_lex.specs.declared.token.Token.{Token}

-- the bytes of a script, and its tokens in order
pub record ScriptTokens : Type 0 where
  pub script : List ℕ
  pub list : List Token
