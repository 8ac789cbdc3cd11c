-- Trees over the columns of the tests.
use Rattle.std.specs.Prelude.{◌≡◌, ℕ, List, [], ◌∷◌, ⊤}
use Rattle.ooc_types.specs.declared.schema.SqlType.{SqlType}
use Rattle.ooc_types.specs.declared.schema.SqlType.TheVariants.{Boolean, Integer, BigInt, Date, Varchar}
use Rattle.sql_expr.specs.declared.tree.Expr.{Expr}
use Rattle.sql_expr.specs.Kinds.{kind_of}
use Rattle.sql_expr.specs.Typing.{IsTyped}

-- INTEGER, BIGINT, BOOLEAN, VARCHAR, DATE
abbrev pub columns : List SqlType
columns = Integer ∷ BigInt ∷ Boolean ∷ Varchar ∷ Date ∷ []

-- the greatest length of a text in a row of the tests
abbrev pub limit : ℕ
limit = 63

-- typed over the columns, and of a type
pub record IsBuilt (kind : SqlType) (expr : Expr) : Type 0 where
  pub typed : IsTyped columns expr
  pub is : kind_of expr ≡ kind

abbrev pub AreBuilt : SqlType → List Expr → Type 0
AreBuilt kind [] = ⊤
AreBuilt kind (expr ∷ list) = IsBuilt kind expr × AreBuilt kind list
