-- What a plan asks of a bound SELECT and its tables.
use Rattle.std.specs.Prelude.{◌≡◌, ℕ, ◌+◌, ◌≤◌, true, length, List, [], ◌∷◌, ⊤}
use Rattle.std.specs.List.{AllByRecursion}
use Rattle.sql_expr.specs.declared.tree.Expr.{Expr}
use Rattle.bound_tree.specs.declared.select.BoundCore.{BoundCore}
use Rattle.bound_tree.specs.declared.select.BoundRows.{BoundRows}
use Rattle.bound_tree.specs.declared.select.BoundSelect.{BoundSelect}
use Rattle.bound_tree.specs.declared.select.BoundSource.{BoundSource}
use Rattle.bound_tree.specs.declared.select.Conjunct.{Conjunct}
use Rattle.bound_tree.specs.declared.select.SourceRows.{SourceRows}
use Rattle.bound_tree.specs.declared.select.BoundRows.TheOpen.{BoundCore-F, Conjunct-F}
use Rattle.bound_tree.specs.declared.select.BoundRows.TheFolds.{every-BoundSelect}
use Rattle.bound_tree.specs.declared.select.BoundRows.TheViews.{out-BoundSource, out-Conjunct}
use Rattle.sql_meaning.specs.Pool.{IsPlainCondition}
use Rattle.sql_meaning.specs.Statements.{Tables, condition_of, source_meaning}
use Rattle.plan_tree.specs.Split.{is_plain_expr, top}

-- a conjunct that is plain has a value over every row, as one that is typed has
abbrev pub IsSure : Expr → Type 0
IsSure expr = is_plain_expr expr ≡ true → IsPlainCondition (condition_of expr)

abbrev pub columns_of_source : BoundSource → ℕ
columns_of_source source = length (out-BoundSource source).kinds

abbrev pub columns_of_sources : List BoundSource → ℕ
columns_of_sources [] = 0
columns_of_sources (source ∷ sources) = columns_of_source source + columns_of_sources sources

-- Each row of a source has its columns; its ON names columns up to its own, and its plain conjuncts have values.
abbrev pub AreJoinable : Tables → ℕ → List BoundSource → Type 0
AreJoinable tables at [] = ⊤
AreJoinable tables at (source ∷ sources) =
    AllByRecursion (λ row. length row ≡ columns_of_source source) (source_meaning tables source).found.rows
    × (AllByRecursion (λ e. top e ≤ at + columns_of_source source) (out-BoundSource source).on
    × (AllByRecursion IsSure (out-BoundSource source).on
    × AreJoinable tables (at + columns_of_source source) sources))

abbrev pub IsWithinNode : ℕ → Conjunct-F BoundRows Conjunct SourceRows BoundCore BoundSelect BoundSource → Type 0
IsWithinNode columns (Conjunct-F.Condition expr) = (top expr ≤ columns) × IsSure expr
IsWithinNode columns (Conjunct-F.Member expr query negated) = ⊤

-- a conjunct of WHERE names columns that are there, and has values where it is plain
abbrev pub IsWithin : ℕ → Conjunct → Type 0
IsWithin columns conjunct = IsWithinNode columns (out-Conjunct conjunct)

abbrev pub IsPlannableCore : Tables → BoundCore-F BoundRows Conjunct SourceRows BoundCore BoundSelect BoundSource → Type 0
IsPlannableCore tables core = AreJoinable tables 0 core.sources × AllByRecursion (IsWithin (columns_of_sources core.sources)) core.conjuncts

-- each core of the SELECT, in its subqueries too
abbrev pub IsPlannable : Tables → BoundSelect → Type 0
IsPlannable tables = every-BoundSelect (λ x. ⊤) (λ x. ⊤) (λ x. ⊤) (IsPlannableCore tables) (λ x. ⊤) (λ x. ⊤)
