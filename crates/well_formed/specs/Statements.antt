-- What a well-formed statement is, over the tables that are there.
use Rattle.std.specs.Prelude.{◌≡◌, ◌≢◌, ℕ, ◌<◌, ◌≤◌, List, map, length, None}
use Rattle.std.specs.List.{AllByRecursion}
use Rattle.ooc_types.specs.declared.schema.Column.{Column}
use Rattle.sql_expr.specs.Operations.{IsProper}
use Rattle.bound_tree.specs.declared.statement.Bound.{Bound}
use Rattle.bound_tree.specs.declared.statement.Bound.TheVariants.{CreateTable, DropTable, Copy, Explain, Select}
use Rattle.well_formed.specs.From.{most_columns}
use Rattle.well_formed.specs.Given.{Schemas}
use Rattle.well_formed.specs.Names.{AreApart}
use Rattle.well_formed.specs.Rows.{IsWellFormedSelect}

-- the columns that a table may have
pub record IsSchema (columns : List Column) : Type 0 where
  pub few : length columns ≤ most_columns
  pub proper : AllByRecursion (λ column. IsProper column.kind) columns
  pub names : AreApart (map (λ column. column.name) columns)

-- an ASCII byte other than a double quote, CR and LF
pub record IsDelimiter (byte : ℕ) : Type 0 where
  pub ascii : byte < 128
  pub no_quote : byte ≢ 34
  pub no_return : byte ≢ 13
  pub no_feed : byte ≢ 10

abbrev pub IsThere : Schemas → List ℕ → Type 0
IsThere schemas name = schemas name ≢ None

pub record IsCreated (schemas : Schemas) (name : List ℕ) (columns : List Column) : Type 0 where
  pub new : schemas name ≡ None
  pub schema : IsSchema columns

pub record IsCopied (schemas : Schemas) (name : List ℕ) (delimiter : ℕ) : Type 0 where
  pub there : IsThere schemas name
  pub separates : IsDelimiter delimiter

abbrev pub IsWellFormed : ℕ → Schemas → Bound → Type 0
IsWellFormed limit schemas (CreateTable name columns) = IsCreated schemas name columns
IsWellFormed limit schemas (DropTable name) = IsThere schemas name
IsWellFormed limit schemas (Copy name file header delimiter null) = IsCopied schemas name delimiter
IsWellFormed limit schemas (Explain select) = IsWellFormedSelect limit schemas select
IsWellFormed limit schemas (Select select) = IsWellFormedSelect limit schemas select
