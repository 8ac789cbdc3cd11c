-- A core over its answered subqueries.
use Rattle.std.specs.Prelude.{◌≡◌, ℕ, Bool, List, [], map, unwrap_or, IfSome, Option, Some, None}
use Rattle.std.specs.List.{AllByRecursion}
use Rattle.ooc_types.specs.Meets.{Meets}
use Rattle.ooc_types.specs.declared.schema.SqlType.{SqlType}
use Rattle.ooc_types.specs.declared.schema.SqlType.TheVariants.{Boolean}
use Rattle.bound_tree.specs.declared.select.BoundCore.{BoundCore}
use Rattle.bound_tree.specs.declared.select.Grouping.{Grouping}
use Rattle.bound_tree.specs.declared.select.BoundRows.TheViews.{out-BoundCore}
use Rattle.sql_expr.specs.declared.tree.Expr.{Expr}
use Rattle.sql_expr.specs.Kinds.{kind_of}
use Rattle.sql_expr.specs.Typing.{IsTyped}
use Rattle.sql_meaning.specs.Found.{Found, Row, and_then, clean, if_clean}
use Rattle.sql_meaning.specs.From.{from_rows}
use Rattle.sql_meaning.specs.Judged.{Condition, kept}
use Rattle.sql_meaning.specs.Select.{Core, below_having, projected, selected}
use Rattle.sql_meaning.specs.Statements.{condition_of, core_of, row_value_of}
use Rattle.plain_rows.specs.declared.source.Source.{Source}
use Rattle.plain_rows.specs.Answers.{distinct_found}
use Rattle.plain_rows.specs.Froms.{IsFrom, source_in}
use Rattle.plain_rows.specs.Tests.{Among, Parts, condition_by}
use Rattle.plain_groups.specs.Grouped.{CanGroup}
use Rattle.plain_cores.specs.declared.known.Known.{Known}
use Rattle.plain_cores.specs.Known.{known_parts, meant_in}

abbrev pub conditions_of : List Known → List Condition
conditions_of knowns = map (λ known. condition_by (known_parts known)) knowns

-- the core with what its conjuncts mean
abbrev pub core_in : BoundCore → List Known → Core
core_in core knowns = core_of (map meant_in knowns) (out-BoundCore core).grouping (out-BoundCore core).items (out-BoundCore core).distinct

abbrev pub core_found : BoundCore → List Source → List Known → Found Row
core_found core sources knowns = selected (core_in core knowns) (map source_in sources)

-- the conditions of HAVING
abbrev pub having_exprs : Option Grouping → List Expr
having_exprs None = []
having_exprs (Some grouping) = unwrap_or grouping.having []

-- HAVING, the items and DISTINCT over rows below which nothing faulted
abbrev pub above_of : List Expr → List Expr → Bool → Found Row → Found Row
above_of having items distinct found =
    distinct_found distinct (if_clean (if_clean found (kept (map condition_of having))) (projected (map row_value_of items)))

-- a conjunct that is typed over columns of these types
abbrev pub IsOver : List SqlType → Expr → Option Among → Type 0
IsOver columns expr None = IsTyped columns expr × (kind_of expr ≡ Boolean)
IsOver columns expr (Some among) = IsTyped columns expr

abbrev pub ArePartsOver : List SqlType → Parts → Type 0
ArePartsOver columns parts = IsOver columns parts.of parts.among

-- Some types that the rows meet, over which the conjuncts are typed.
pub record CanFilter (knowns : List Known) (rows : List Row) : Type 0 where
  pub columns : List SqlType
  pub limit : ℕ
  pub are : AllByRecursion (Meets limit columns) rows
  pub judged : AllByRecursion (λ known. ArePartsOver columns (known_parts known)) knowns

-- Some types that the rows meet, over which HAVING and the items are typed.
pub record CanShow (having items : List Expr) (rows : List Row) : Type 0 where
  pub columns : List SqlType
  pub limit : ℕ
  pub are : AllByRecursion (Meets limit columns) rows
  pub judged : AllByRecursion (λ expr. IsTyped columns expr × (kind_of expr ≡ Boolean)) having
  pub shown : AllByRecursion (IsTyped columns) items

-- a core over whose rows each of its parts is typed
pub record CanCore (core : BoundCore) (sources : List Source) (knowns : List Known) : Type 0 where
  pub from : IsFrom sources
  pub filtered : CanFilter knowns (from_rows (map source_in sources)).rows
  pub grouped : IfSome (out-BoundCore core).grouping (λ grouping. CanGroup grouping (and_then (from_rows (map source_in sources)) (kept (conditions_of knowns))).rows)
  pub shown : CanShow (having_exprs (out-BoundCore core).grouping) (out-BoundCore core).items (if_clean (below_having (core_in core knowns) (map source_in sources)) clean).rows
