-- What each part of a statement's tree keeps: what it is bound to is well-formed, and its calls are among those written.
use Rattle.std.specs.Prelude.{◌≡◌, ℕ, Bool, true, false, List, [], ◌∷◌, ◌++◌, Option, Some, None, ⊤}
use Rattle.std.specs.List.{AllByRecursion}
use Rattle.bound_tree.specs.declared.kinds.JoinKind.{JoinKind}
use Rattle.sql_grammar.specs.declared.tree.expr.Span.{Span}
use Rattle.sql_scope.specs.Calls.{function_of}
use Rattle.sql_scope.specs.Scopes.{View, columns_of, kinds}
use Rattle.sql_scope.specs.Texts.{folded_at}
use Rattle.std.specs.Prelude.{is_some, ◌||◌}
use Rattle.sql_clauses.specs.declared.items.Outputs.{Outputs}
use Rattle.sql_clauses.specs.declared.joins.Joined.{Joined}
use Rattle.sql_clauses.specs.declared.sources.Sources.{Sources}
use Rattle.bind_rules.specs.Bindings.{ExprBinding, ArgumentBinding, LinkBinding, OperandBinding, ConditionBinding, SelectBinding, RowsBinding, SetBinding, ItemBinding, SourceBinding, JoinBinding}
use Rattle.well_formed.specs.From.{IsLater}
use Rattle.formed_binding.specs.Answers.{OfAnswer}
use Rattle.formed_binding.specs.Filters.{IsFilter, IsOperand}
use Rattle.formed_binding.specs.Items.{AreOutputs}
use Rattle.formed_binding.specs.Named.{AreUnordered, IsSelected}
use Rattle.formed_binding.specs.Parts.{IsPart, IsView}
use Rattle.formed_binding.specs.Placed.{Placed, count}
use Rattle.formed_binding.specs.Sources.{AreJoinedAs, AreSources}
use Rattle.formed_binding.specs.Tables.{AreProper}

-- the columns of the tables have proper types
abbrev pub HasSchemas : View → Type 0
HasSchemas view = AllByRecursion (λ table. AreProper table.columns) view.tables

pub record OfExpr (binding : ExprBinding) (calls : List ℕ) : Type 0 where
  pub part : (view : View) → IsView view → OfAnswer (IsPart view (binding.aggregates view.script) (count calls)) (binding.part view)
  pub operand : (view : View) → IsView view → view.aggregates ≡ false → OfAnswer (IsOperand view.limit (columns_of view.tables) (kinds view)) (binding.operand view)
  pub filter : (view : View) → IsView view → view.aggregates ≡ false → OfAnswer (IsFilter view.limit (columns_of view.tables) (kinds view)) (binding.filter view)

-- the call itself is the only one
abbrev pub OfArgument : ArgumentBinding → List ℕ → Type 0
OfArgument binding calls = (view : View) (name : Span) → IsView view
    → OfAnswer (IsPart view (is_some (function_of (folded_at view.script name)) || binding.aggregates view.script) (count (name.start ∷ []))) (binding.call view name)

abbrev pub OfLink : LinkBinding → List ℕ → Type 0
OfLink binding calls = OfExpr binding.right calls

abbrev pub OfOperand : OperandBinding → List ℕ → Type 0
OfOperand binding calls = OfExpr binding.right calls

abbrev pub OfCondition : ConditionBinding → List ℕ → Type 0
OfCondition binding calls = OfExpr binding.test calls

abbrev pub IfCondition : Option ConditionBinding → List ℕ → Type 0
IfCondition None calls = ⊤
IfCondition (Some binding) calls = OfCondition binding calls

abbrev pub OfItem : ItemBinding → List ℕ → Type 0
OfItem binding calls = (view : View) (grouped : Bool) (done : List ℕ) (outputs : Outputs) → IsView view → (binding.aggregates view.script ≡ true → grouped ≡ true)
    → AreOutputs view grouped (count done) outputs → OfAnswer (AreOutputs view grouped (count (done ++ calls))) (binding.outputs view grouped outputs)

abbrev pub OfSelect : SelectBinding → Type 0
OfSelect binding = (view : View) → HasSchemas view → OfAnswer (IsSelected view.limit (columns_of view.tables)) (binding.select view)

abbrev pub OfRows : RowsBinding → Type 0
OfRows binding = (view : View) → HasSchemas view → OfAnswer (AreUnordered view.limit (columns_of view.tables)) (binding.rows view)

abbrev pub OfSet : SetBinding → Type 0
OfSet binding = OfRows binding.right

abbrev pub OfSource : SourceBinding → Type 0
OfSource binding = (view : View) (join : JoinKind) (sources : Sources) (joins : List JoinKind) → HasSchemas view → AreSources view sources joins
    → OfAnswer (λ all. AreSources view all (joins ++ join ∷ [])) (binding.sources view join sources)

-- a join of some kind
pub record OfJoin (binding : JoinBinding) : Type 0 where
  pub kind : JoinKind
  pub later : IsLater kind
  pub sources : (view : View) (sources : Sources) (joins : List JoinKind) → HasSchemas view → AreSources view sources joins → OfAnswer (λ all. AreSources view all (joins ++ kind ∷ [])) (binding.sources view sources)
  pub on : (view : View) (names : List (List ℕ)) (all left : List JoinKind) (joined : Joined) → IsView view → view.aggregates ≡ false → AreJoinedAs view names all (kind ∷ left) joined
      → OfAnswer (AreJoinedAs view names all left) (binding.on view joined)

-- parts of a list, one by one, beside where their calls stand
abbrev pub EachOf : {A : Type 0} → (A → List ℕ → Type 0) → List A → List Placed → Type 0
EachOf P [] [] = ⊤
EachOf P (x ∷ xs) (c ∷ cs) = P x c.calls × EachOf P xs cs
EachOf P xs cs = ⊥
