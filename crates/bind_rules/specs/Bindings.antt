-- What each part of a statement's tree is bound to, over whatever it may be bound.
use Rattle.std.specs.Prelude.{ℕ, Bool, List}
use Rattle.bound_tree.specs.declared.kinds.JoinKind.{JoinKind}
use Rattle.bound_tree.specs.declared.select.BoundSelect.{BoundSelect}
use Rattle.sql_grammar.specs.declared.tree.expr.ChainSign.{ChainSign}
use Rattle.sql_grammar.specs.declared.tree.expr.Span.{Span}
use Rattle.sql_grammar.specs.declared.tree.select.SetKind.{SetKind}
use Rattle.sql_scope.specs.declared.part.Part.{Part}
use Rattle.sql_scope.specs.Answer.{Answer}
use Rattle.sql_scope.specs.Scopes.{View}
use Rattle.sql_clauses.specs.declared.conditions.FilterOperand.{FilterOperand}
use Rattle.sql_clauses.specs.declared.conditions.Filter.{Filter}
use Rattle.sql_clauses.specs.declared.items.Outputs.{Outputs}
use Rattle.sql_clauses.specs.declared.joins.Joined.{Joined}
use Rattle.sql_clauses.specs.declared.rows.Unordered.{Unordered}
use Rattle.sql_clauses.specs.declared.sources.Sources.{Sources}

-- An expression: as a part of another, as an operand of WHERE's outermost AND, and as all of WHERE; and whether an
-- aggregate stands in it, in a script.
pub record ExprBinding : Type 0 where
  pub part : View → Answer Part
  pub operand : View → Answer FilterOperand
  pub filter : View → Answer Filter
  pub aggregates : List ℕ → Bool

-- the argument of the function of a name
pub record ArgumentBinding : Type 0 where
  pub call : View → Span → Answer Part
  pub aggregates : List ℕ → Bool

-- a sign, and the operand behind it
pub record LinkBinding : Type 0 where
  pub place : ℕ
  pub sign : ChainSign
  pub right : ExprBinding

-- an operand behind AND or OR
pub record OperandBinding : Type 0 where
  pub place : ℕ
  pub right : ExprBinding

pub record ConditionBinding : Type 0 where
  pub place : ℕ
  pub test : ExprBinding

-- a SELECT that begins at a place
pub record SelectBinding : Type 0 where
  pub place : ℕ
  pub select : View → Answer BoundSelect

pub record RowsBinding : Type 0 where
  pub rows : View → Answer Unordered

-- an operand of a set operation
pub record SetBinding : Type 0 where
  pub kind : SetKind
  pub all : Bool
  pub place : ℕ
  pub right : RowsBinding

-- an item of a core that is grouped, or isn't, behind those before it
pub record ItemBinding : Type 0 where
  pub outputs : View → Bool → Outputs → Answer Outputs
  pub aggregates : List ℕ → Bool

-- a source that begins at a place, behind those before it
pub record SourceBinding : Type 0 where
  pub place : ℕ
  pub sources : View → JoinKind → Sources → Answer Sources

-- a join: its source behind those before it, and its ON behind those before it
pub record JoinBinding : Type 0 where
  pub sources : View → Sources → Answer Sources
  pub on : View → Joined → Answer Joined
