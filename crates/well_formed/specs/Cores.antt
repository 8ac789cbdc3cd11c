-- A SELECT without set operations and order.
use Rattle.std.specs.Prelude.{ℕ, ◌≤◌, List, [], ◌∷◌, length, IfSome}
use Rattle.std.specs.List.{AllByRecursion}
use Rattle.ooc_types.specs.declared.schema.SqlType.{SqlType}
use Rattle.sql_expr.specs.declared.tree.Expr.{Expr}
use Rattle.sql_expr.specs.Kinds.{kind_of}
use Rattle.sql_expr.specs.Operations.{IsComparable}
use Rattle.bound_tree.specs.declared.select.BoundCore.{BoundCore}
use Rattle.bound_tree.specs.declared.select.BoundRows.{BoundRows}
use Rattle.bound_tree.specs.declared.select.BoundSelect.{BoundSelect}
use Rattle.bound_tree.specs.declared.select.BoundSource.{BoundSource}
use Rattle.bound_tree.specs.declared.select.Conjunct.{Conjunct}
use Rattle.bound_tree.specs.declared.select.SourceRows.{SourceRows}
use Rattle.bound_tree.specs.declared.select.BoundRows.TheOpen.{BoundCore-F, Conjunct-F}
use Rattle.bound_tree.specs.declared.select.BoundRows.TheViews.{out-Conjunct}
use Rattle.well_formed.specs.Aggregates.{IsGrouping}
use Rattle.well_formed.specs.Exprs.{IsCondition, IsExpr}
use Rattle.well_formed.specs.From.{IsFrom}
use Rattle.well_formed.specs.Given.{kinds_of_select, kinds_of_sources, kinds_below_items}

-- one column, of a type that compares
abbrev pub IsOneComparable : SqlType → List SqlType → Type 0
IsOneComparable kind [] = ⊥
IsOneComparable kind (only ∷ []) = IsComparable kind only
IsOneComparable kind (first ∷ second ∷ more) = ⊥

-- IN with a subquery
pub record IsMembership (limit : ℕ) (columns : List SqlType) (of : Expr) (query : BoundSelect) : Type 0 where
  pub operand : IsExpr limit columns of
  pub column : IsOneComparable (kind_of of) (kinds_of_select query)

abbrev pub IsConjunctIn : ℕ → List SqlType → Conjunct-F BoundRows Conjunct SourceRows BoundCore BoundSelect BoundSource → Type 0
IsConjunctIn limit columns (Conjunct-F.Condition expr) = IsCondition limit columns expr
IsConjunctIn limit columns (Conjunct-F.Member of query negated) = IsMembership limit columns of query

-- a conjunct of WHERE
abbrev pub IsConjunct : ℕ → List SqlType → Conjunct → Type 0
IsConjunct limit columns conjunct = IsConjunctIn limit columns (out-Conjunct conjunct)

-- how many items one SELECT may have
abbrev pub most_items : ℕ
most_items = 64

pub record IsCoreNode (limit : ℕ) (core : BoundCore-F BoundRows Conjunct SourceRows BoundCore BoundSelect BoundSource) : Type 0 where
  pub from : IsFrom limit core.sources
  pub conjuncts : AllByRecursion (IsConjunct limit (kinds_of_sources core.sources)) core.conjuncts
  pub grouping : IfSome core.grouping (IsGrouping limit (kinds_of_sources core.sources))
  pub items : AllByRecursion (IsExpr limit (kinds_below_items core.sources core.grouping)) core.items
  pub most : length core.items ≤ most_items
