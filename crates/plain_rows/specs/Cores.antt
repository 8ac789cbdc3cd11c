-- SELECTs without grouping, and what they are over.
use Rattle.std.specs.Prelude.{◌≡◌, ℕ, Bool, false, List, [], ◌∷◌, length, None}
use Rattle.std.specs.List.{AllByRecursion}
use Rattle.ooc_types.specs.Meets.{Meets}
use Rattle.ooc_types.specs.declared.schema.SqlType.{SqlType}
use Rattle.ooc_types.specs.declared.schema.SqlType.TheVariants.{Boolean}
use Rattle.sql_expr.specs.declared.tree.Expr.{Expr}
use Rattle.sql_expr.specs.Kinds.{kind_of}
use Rattle.sql_expr.specs.Typing.{IsTyped}
use Rattle.sql_meaning.specs.Found.{Row, clean}
use Rattle.sql_meaning.specs.From.{Source}
use Rattle.sql_meaning.specs.Judged.{Condition, RowValue}
use Rattle.sql_meaning.specs.Select.{Core}
use Rattle.plain_rows.specs.declared.test.Test.{Test}
use Rattle.plain_rows.specs.declared.test.Test.TheVariants as of

-- WHERE, the items and DISTINCT
abbrev pub plain_core : List Condition → List RowValue → Bool → Core
plain_core conjuncts items distinct = record { conjuncts = conjuncts; inner = []; grouping = None; having = []; items = items; distinct = distinct }

abbrev pub width_of_first : List Row → ℕ
width_of_first [] = 0
width_of_first (row ∷ rows) = length row

-- the first source of a FROM, with the rows of a table
abbrev pub table_source : List Row → Source
table_source rows = record { found = clean rows; width = width_of_first rows; pads = false; on = [] }

-- a test that is typed over columns of these types
abbrev pub IsTestOver : List SqlType → Test → Type 0
IsTestOver columns (of.Condition expr) = IsTyped columns expr.now × (kind_of expr.now ≡ Boolean)
IsTestOver columns (of.Member expr values negated) = IsTyped columns expr.now

-- Some types that the rows meet, over which the conditions and the items are typed.
pub record CanSelect (tests : List Test) (items : List Expr) (rows : List Row) : Type 0 where
  pub columns : List SqlType
  pub limit : ℕ
  pub are : AllByRecursion (Meets limit columns) rows
  pub judged : AllByRecursion (IsTestOver columns) tests
  pub shown : AllByRecursion (IsTyped columns) items
