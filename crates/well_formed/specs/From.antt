-- The sources of FROM.
use Rattle.std.specs.Option.{option_map}
use Rattle.std.specs.Prelude.{◌≡◌, ℕ, ◌≤◌, List, [], ◌∷◌, ◌++◌, map, length, Some, ⊤}
use Rattle.std.specs.List.{AllByRecursion}
use Rattle.ooc_types.specs.declared.schema.SqlType.{SqlType}
use Rattle.sql_expr.specs.declared.tree.Expr.{Expr}
use Rattle.bound_tree.specs.declared.kinds.JoinKind.{JoinKind}
use Rattle.bound_tree.specs.declared.kinds.JoinKind.TheVariants.{First, Inner, Left, Cross}
use Rattle.bound_tree.specs.declared.select.BoundCore.{BoundCore}
use Rattle.bound_tree.specs.declared.select.BoundRows.{BoundRows}
use Rattle.bound_tree.specs.declared.select.BoundSelect.{BoundSelect}
use Rattle.bound_tree.specs.declared.select.BoundSource.{BoundSource}
use Rattle.bound_tree.specs.declared.select.Conjunct.{Conjunct}
use Rattle.bound_tree.specs.declared.select.SourceRows.{SourceRows}
use Rattle.bound_tree.specs.declared.select.BoundRows.TheOpen.{BoundSource-F, SourceRows-F}
use Rattle.bound_tree.specs.declared.select.BoundRows.TheViews.{out-BoundSource, out-SourceRows}
use Rattle.well_formed.specs.Exprs.{IsCondition}
use Rattle.well_formed.specs.Given.{Schemas, kinds_of_columns, kinds_of_select, kinds_of_source, kinds_of_sources}
use Rattle.well_formed.specs.Names.{AreApart}

-- ---- one source

abbrev pub HasKindsIn : Schemas → List SqlType → SourceRows-F BoundRows Conjunct SourceRows BoundCore BoundSelect BoundSource → Type 0
HasKindsIn schemas kinds (SourceRows-F.Table name) = option_map kinds_of_columns (schemas name) ≡ Some kinds
HasKindsIn schemas kinds (SourceRows-F.Query select) = kinds_of_select select ≡ kinds

-- A table is there, and has columns of these types; or a subquery has.
abbrev pub HasKinds : Schemas → List SqlType → SourceRows → Type 0
HasKinds schemas kinds rows = HasKindsIn schemas kinds (out-SourceRows rows)

abbrev pub IsSourceNode : Schemas → BoundSource-F BoundRows Conjunct SourceRows BoundCore BoundSelect BoundSource → Type 0
IsSourceNode schemas source = HasKinds schemas source.kinds source.rows

-- ---- all of one FROM

-- the first source and a CROSS JOIN have no ON
abbrev pub MayHave : JoinKind → List Expr → Type 0
MayHave First on = on ≡ []
MayHave Inner on = ⊤
MayHave Left on = ⊤
MayHave Cross on = on ≡ []

-- An ON behind these columns is over them and those of its own source, and is made of conditions.
pub record IsOn (limit : ℕ) (columns : List SqlType) (source : BoundSource) : Type 0 where
  pub join : MayHave (out-BoundSource source).join (out-BoundSource source).on
  pub conditions : AllByRecursion (IsCondition limit (columns ++ kinds_of_source source)) (out-BoundSource source).on

abbrev pub AreJoined : ℕ → List SqlType → List BoundSource → Type 0
AreJoined limit columns [] = ⊤
AreJoined limit columns (source ∷ sources) = IsOn limit columns source × AreJoined limit (columns ++ kinds_of_source source) sources

abbrev pub IsFirst : JoinKind → Type 0
IsFirst First = ⊤
IsFirst Inner = ⊥
IsFirst Left = ⊥
IsFirst Cross = ⊥

abbrev pub IsLater : JoinKind → Type 0
IsLater First = ⊥
IsLater Inner = ⊤
IsLater Left = ⊤
IsLater Cross = ⊤

-- there is a first source, and each other is joined to those before it
abbrev pub BeginsOnce : List BoundSource → Type 0
BeginsOnce [] = ⊥
BeginsOnce (source ∷ sources) = IsFirst (out-BoundSource source).join × AllByRecursion (λ later. IsLater (out-BoundSource later).join) sources

-- how many sources one FROM may have
abbrev pub most_sources : ℕ
most_sources = 8

-- how many columns a table may have, and all sources of one FROM together
abbrev pub most_columns : ℕ
most_columns = 64

abbrev pub names_of : List BoundSource → List (List ℕ)
names_of sources = map (λ source. (out-BoundSource source).name) sources

pub record IsFrom (limit : ℕ) (sources : List BoundSource) : Type 0 where
  pub first : BeginsOnce sources
  pub names : AreApart (names_of sources)
  pub few : length sources ≤ most_sources
  pub narrow : length (kinds_of_sources sources) ≤ most_columns
  pub joined : AreJoined limit [] sources
