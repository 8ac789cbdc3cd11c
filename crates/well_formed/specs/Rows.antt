-- Set operations, the order, and the SELECT whole.
use Rattle.std.specs.Prelude.{◌≡◌, ◌⊎◌, ℕ, ◌<◌, ◌^◌, List, [], ◌∷◌, length, IfSome, Option, Some, None, ⊤}
use Rattle.std.specs.List.{AllByRecursion}
use Rattle.ooc_types.specs.declared.schema.SqlType.{SqlType}
use Rattle.sql_expr.specs.Operations.{wider}
use Rattle.bound_tree.specs.declared.select.SortKey.{SortKey}
use Rattle.bound_tree.specs.declared.select.Cut.{Cut}
use Rattle.bound_tree.specs.declared.select.BoundCore.{BoundCore}
use Rattle.bound_tree.specs.declared.select.BoundRows.{BoundRows}
use Rattle.bound_tree.specs.declared.select.BoundSelect.{BoundSelect}
use Rattle.bound_tree.specs.declared.select.BoundSource.{BoundSource}
use Rattle.bound_tree.specs.declared.select.Conjunct.{Conjunct}
use Rattle.bound_tree.specs.declared.select.SourceRows.{SourceRows}
use Rattle.bound_tree.specs.declared.select.BoundRows.TheOpen.{BoundRows-F, BoundSelect-F, Conjunct-F, SourceRows-F}
use Rattle.bound_tree.specs.declared.select.BoundRows.TheFolds.{every-BoundRows, every-Conjunct, every-SourceRows, every-BoundCore, every-BoundSelect, every-BoundSource}
use Rattle.well_formed.specs.Cores.{IsCoreNode}
use Rattle.well_formed.specs.From.{IsSourceNode}
use Rattle.well_formed.specs.Given.{Schemas, kinds_of_columns, kinds_of_rows}

-- ---- set operations

-- what two columns are together: of their type where it is one, or of the wider of two types of integers
abbrev pub IsCommon : SqlType → SqlType → SqlType → Type 0
IsCommon left right kind = ((left ≡ right) × (kind ≡ left)) ⊎ (wider left right ≡ Some kind)

-- pair by pair, and as many columns on each side
abbrev pub AreCommon : List SqlType → List SqlType → List SqlType → Type 0
AreCommon [] [] [] = ⊤
AreCommon (left ∷ lefts) (right ∷ rights) (kind ∷ kinds) = IsCommon left right kind × AreCommon lefts rights kinds
AreCommon lefts rights kinds = ⊥

abbrev pub IsRowsNode : BoundRows-F BoundRows Conjunct SourceRows BoundCore BoundSelect BoundSource → Type 0
IsRowsNode (BoundRows-F.Core core) = ⊤
IsRowsNode (BoundRows-F.Set kind all left right kinds) = AreCommon (kinds_of_rows left) (kinds_of_rows right) kinds

-- ---- ORDER BY, LIMIT and OFFSET

-- one of them is written
abbrev pub IsWritten : List SortKey → Option ℕ → Option ℕ → Type 0
IsWritten [] None None = ⊥
IsWritten keys limit offset = ⊤

-- the numbers that a token may write
abbrev pub IsNumber : ℕ → Type 0
IsNumber n = n < 2 ^ 127

-- over so many output columns
pub record IsCut (columns : ℕ) (cut : Cut) : Type 0 where
  pub keys : AllByRecursion (λ key. key.place < columns) cut.keys
  pub limit : IfSome cut.limit IsNumber
  pub offset : IfSome cut.offset IsNumber
  pub written : IsWritten cut.keys cut.limit cut.offset

-- The output columns have the types of the rows.
pub record IsSelectNode (select : BoundSelect-F BoundRows Conjunct SourceRows BoundCore BoundSelect BoundSource) : Type 0 where
  pub columns : kinds_of_columns select.columns ≡ kinds_of_rows select.rows
  pub cut : IfSome select.cut (IsCut (length select.columns))

-- ---- the whole

abbrev pub AnyConjunct : Conjunct-F BoundRows Conjunct SourceRows BoundCore BoundSelect BoundSource → Type 0
AnyConjunct conjunct = ⊤

abbrev pub AnyInput : SourceRows-F BoundRows Conjunct SourceRows BoundCore BoundSelect BoundSource → Type 0
AnyInput rows = ⊤

-- Each part of a SELECT over these tables is well-formed, in its subqueries too; a text has at most `limit` bytes.
abbrev pub IsWellFormedSelect : ℕ → Schemas → BoundSelect → Type 0
IsWellFormedSelect limit schemas = every-BoundSelect IsRowsNode AnyConjunct AnyInput (IsCoreNode limit) IsSelectNode (IsSourceNode schemas)

abbrev pub AreWellFormedRows : ℕ → Schemas → BoundRows → Type 0
AreWellFormedRows limit schemas = every-BoundRows IsRowsNode AnyConjunct AnyInput (IsCoreNode limit) IsSelectNode (IsSourceNode schemas)

abbrev pub IsWellFormedConjunct : ℕ → Schemas → Conjunct → Type 0
IsWellFormedConjunct limit schemas = every-Conjunct IsRowsNode AnyConjunct AnyInput (IsCoreNode limit) IsSelectNode (IsSourceNode schemas)

abbrev pub IsWellFormedInput : ℕ → Schemas → SourceRows → Type 0
IsWellFormedInput limit schemas = every-SourceRows IsRowsNode AnyConjunct AnyInput (IsCoreNode limit) IsSelectNode (IsSourceNode schemas)

abbrev pub IsWellFormedCore : ℕ → Schemas → BoundCore → Type 0
IsWellFormedCore limit schemas = every-BoundCore IsRowsNode AnyConjunct AnyInput (IsCoreNode limit) IsSelectNode (IsSourceNode schemas)

abbrev pub IsWellFormedSource : ℕ → Schemas → BoundSource → Type 0
IsWellFormedSource limit schemas = every-BoundSource IsRowsNode AnyConjunct AnyInput (IsCoreNode limit) IsSelectNode (IsSourceNode schemas)
