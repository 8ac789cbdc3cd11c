-- Sources of FROM as the meaning has them, and what their conditions are over.
use Rattle.std.specs.Prelude.{◌≡◌, ℕ, List, [], ◌∷◌, ◌++◌, All, map, length, ⊤}
use Rattle.std.specs.List.{AllByRecursion}
use Rattle.ooc_types.specs.Meets.{Meets}
use Rattle.ooc_types.specs.declared.schema.SqlType.{SqlType}
use Rattle.sql_meaning.specs.Found.{Row}
use Rattle.sql_meaning.specs.From.{Source as MeantSource, pairs}
use Rattle.plain_rows.specs.declared.source.Source.{Source}
use Rattle.plain_rows.specs.Answers.{found_in}
use Rattle.plain_rows.specs.Cores.{IsTestOver}
use Rattle.plain_rows.specs.Tests.{IsReady, condition_in}

abbrev pub source_in : Source → MeantSource
source_in source = record { found = found_in source.found; width = source.width; pads = source.pads; on = map condition_in source.on.items }

-- the conditions of ON are over each pair of a left row
abbrev pub AreReadyPairs : Source → Row → Type 0
AreReadyPairs source left = All (λ row. All (IsReady row) source.on.items) (pairs left source.found.rows.items)

-- behind columns of these types: the types of a source's own columns, which its rows meet, and its ON is typed over both
pub record IsSourceBehind (limit : ℕ) (columns : List SqlType) (source : Source) : Type 0 where
  pub kinds : List SqlType
  pub width : source.width ≡ length kinds
  pub are : AllByRecursion (Meets limit kinds) source.found.rows.items
  pub on : AllByRecursion (IsTestOver (columns ++ kinds)) source.on.items

-- each source is behind those before it
abbrev pub CanJoin : ℕ → List SqlType → List Source → Type 0
CanJoin limit columns [] = ⊤
CanJoin limit columns (source ∷ sources) = (first : IsSourceBehind limit columns source) × CanJoin limit (columns ++ first.kinds) sources

-- all sources of a FROM
pub record IsFrom (sources : List Source) : Type 0 where
  pub limit : ℕ
  pub all : CanJoin limit [] sources

-- sources that are joined to these rows
pub record AreBehind (rows : List Row) (sources : List Source) : Type 0 where
  pub limit : ℕ
  pub columns : List SqlType
  pub meet : AllByRecursion (Meets limit columns) rows
  pub rest : CanJoin limit columns sources
