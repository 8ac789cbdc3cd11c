-- What each part of a statement's tree keeps: each FROM in what it is bound to is numbered.
use Rattle.std.specs.Prelude.{◌≡◌, ◌+◌, ◌≤◌, List, length, Option, Some, None, Ok, Err, ⊤}
use Rattle.std.specs.List.{AllByRecursion}
use Rattle.bound_tree.specs.declared.kinds.JoinKind.{JoinKind}
use Rattle.bound_tree.specs.declared.select.BoundSource.{BoundSource}
use Rattle.bound_tree.specs.declared.select.Conjunct.{Conjunct}
use Rattle.plan_tree.specs.Plannable.{columns_of_sources}
use Rattle.sql_plan.specs.Numbered.{AreNumbered, AreNumberedConjunct, AreNumberedRows, AreNumberedSource}
use Rattle.sql_scope.specs.Answer.{Answer}
use Rattle.sql_scope.specs.Scopes.{View}
use Rattle.sql_clauses.specs.declared.conditions.FilterOperand.{FilterOperand}
use Rattle.sql_clauses.specs.declared.conditions.Filter.{Filter}
use Rattle.sql_clauses.specs.declared.cores.NamedRows.{NamedRows}
use Rattle.sql_clauses.specs.declared.joins.Joined.{Joined}
use Rattle.sql_clauses.specs.declared.rows.Unordered.{Unordered}
use Rattle.sql_clauses.specs.declared.rows.Unordered.TheVariants.{Core, Set}
use Rattle.sql_clauses.specs.declared.sources.Sources.{Sources}
use Rattle.bind_rules.specs.declared.cores.Filtered.{Filtered}
use Rattle.bind_rules.specs.Bindings.{ExprBinding, OperandBinding, ConditionBinding, SelectBinding, RowsBinding, SetBinding, SourceBinding, JoinBinding}

-- a fact of an answer, where there is one
abbrev pub OfAnswer : {A : Type 0} → (A → Type 0) → Answer A → Type 0
OfAnswer P (Err refusal) = ⊤
OfAnswer P (Ok a) = P a

-- ---- what is bound

-- sources so far, whose columns are those that are seen
pub record AreSources (sources : Sources) : Type 0 where
  pub numbered : AllByRecursion AreNumberedSource sources.list
  pub columns : columns_of_sources sources.list ≡ length sources.columns

-- once all are there, their columns are at most 64
pub record AreFew (sources : Sources) : Type 0 where
  pub numbered : AllByRecursion AreNumberedSource sources.list
  pub few : columns_of_sources sources.list ≤ 64

-- the sources that have their ON, and those that haven't
pub record AreJoined (all : Joined) : Type 0 where
  pub numbered : AllByRecursion AreNumberedSource all.joined
  pub left : AllByRecursion AreNumberedSource all.rest
  pub few : columns_of_sources all.joined + columns_of_sources all.rest ≤ 64

pub record IsNumberedFrom (sources : List BoundSource) (filter : List Conjunct) : Type 0 where
  pub numbered : AllByRecursion AreNumberedSource sources
  pub few : columns_of_sources sources ≤ 64
  pub conjuncts : AllByRecursion AreNumberedConjunct filter

abbrev pub IsFiltered : Filtered → Type 0
IsFiltered filtered = IsNumberedFrom filtered.sources filtered.conjuncts

abbrev pub AreUnordered : Unordered → Type 0
AreUnordered (Core core) = IsNumberedFrom core.sources core.conjuncts
AreUnordered (Set rows) = AreNumberedRows rows.rows

abbrev pub AreNamed : NamedRows → Type 0
AreNamed named = AreNumberedRows named.rows

abbrev pub IsOperand : FilterOperand → Type 0
IsOperand operand = AreNumberedConjunct operand.conjunct

abbrev pub IsFilter : Filter → Type 0
IsFilter filter = AllByRecursion AreNumberedConjunct filter.conjuncts

-- ---- how it is bound, over whatever it may be bound

pub record OfExpr (binding : ExprBinding) : Type 0 where
  pub operand : (view : View) → OfAnswer IsOperand (binding.operand view)
  pub filter : (view : View) → OfAnswer IsFilter (binding.filter view)

abbrev pub OfOperand : OperandBinding → Type 0
OfOperand binding = OfExpr binding.right

abbrev pub OfCondition : ConditionBinding → Type 0
OfCondition binding = OfExpr binding.test

abbrev pub IfCondition : Option ConditionBinding → Type 0
IfCondition None = ⊤
IfCondition (Some binding) = OfCondition binding

abbrev pub OfSelect : SelectBinding → Type 0
OfSelect binding = (view : View) → OfAnswer AreNumbered (binding.select view)

abbrev pub OfRows : RowsBinding → Type 0
OfRows binding = (view : View) → OfAnswer AreUnordered (binding.rows view)

abbrev pub OfSet : SetBinding → Type 0
OfSet binding = OfRows binding.right

abbrev pub OfSource : SourceBinding → Type 0
OfSource binding = (view : View) (join : JoinKind) (sources : Sources) → AreSources sources → OfAnswer AreSources (binding.sources view join sources)

pub record OfJoin (binding : JoinBinding) : Type 0 where
  pub sources : (view : View) (sources : Sources) → AreSources sources → OfAnswer AreSources (binding.sources view sources)
  pub on : (view : View) (all : Joined) → AreJoined all → OfAnswer AreJoined (binding.on view all)
