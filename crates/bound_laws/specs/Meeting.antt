-- Rows of types, and tables whose rows are of their schemas.
use Rattle.std.specs.Prelude.{◌≡◌, ℕ, List, Some}
use Rattle.std.specs.List.{AllByRecursion}
use Rattle.ooc_types.specs.declared.schema.Column.{Column}
use Rattle.ooc_types.specs.declared.schema.SqlType.{SqlType}
use Rattle.ooc_types.specs.declared.value.Value.{Value}
use Rattle.ooc_types.specs.Meets.{AllMeet, HasForm, IsOf}
use Rattle.sql_expr.specs.Values.{IsRanged}
use Rattle.sql_meaning.specs.Statements.{Tables}
use Rattle.well_formed.specs.Given.{Schemas}

-- Each row of a table that is there is one of its schema; a text has at most `limit` bytes.
abbrev pub MeetSchemas : ℕ → Schemas → Tables → Type 0
MeetSchemas limit schemas tables = (name : List ℕ) (columns : List Column) → schemas name ≡ Some columns → AllByRecursion (IsOf limit columns) (tables name)

-- a value of a type's form, with a text within the limit, and a number in the type's range
pub record IsValue (limit : ℕ) (kind : SqlType) (value : Value) : Type 0 where
  pub form : HasForm limit kind value
  pub range : IsRanged kind value

-- a row that meets these types, with each number in its type's range
abbrev pub IsRow : ℕ → List SqlType → List Value → Type 0
IsRow limit kinds row = AllMeet (IsValue limit) kinds row
