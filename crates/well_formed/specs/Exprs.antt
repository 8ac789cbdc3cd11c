-- Expressions and conditions over columns.
use Rattle.std.specs.Prelude.{◌≡◌, ℕ, List}
use Rattle.ooc_types.specs.declared.schema.SqlType.{SqlType}
use Rattle.ooc_types.specs.declared.schema.SqlType.TheVariants.{Boolean}
use Rattle.sql_expr.specs.declared.tree.Expr.{Expr}
use Rattle.sql_expr.specs.Kinds.{kind_of}
use Rattle.sql_expr.specs.Typing.{IsTyped}
use Rattle.sql_expr.specs.Values.{HasShortTexts}

-- Each of its operations is typed, its columns are there and have their types, and its texts have at most `limit` bytes.
pub record IsExpr (limit : ℕ) (columns : List SqlType) (expr : Expr) : Type 0 where
  pub typed : IsTyped columns expr
  pub short : HasShortTexts limit expr

-- a condition is BOOLEAN
pub record IsCondition (limit : ℕ) (columns : List SqlType) (expr : Expr) : Type 0 where
  pub whole : IsExpr limit columns expr
  pub boolean : kind_of expr ≡ Boolean
