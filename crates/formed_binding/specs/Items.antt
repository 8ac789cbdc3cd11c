-- The items of a core, and its HAVING, as far as they are bound.
use Rattle.std.specs.Prelude.{◌≡◌, ℕ, ◌≤◌, Bool, true, List, map, length, IfSome}
use Rattle.std.specs.List.{AllByRecursion}
use Rattle.ooc_types.specs.declared.schema.SqlType.TheVariants.{Boolean}
use Rattle.sql_expr.specs.declared.tree.Expr.{Expr}
use Rattle.sql_expr.specs.Kinds.{kind_of}
use Rattle.sql_expr.specs.Operations.{IsProper}
use Rattle.sql_expr.specs.Values.{HasShortTexts}
use Rattle.sql_scope.specs.declared.part.Call.{Call}
use Rattle.sql_scope.specs.Scopes.{View, kinds}
use Rattle.sql_clauses.specs.declared.cores.Selected.{Selected}
use Rattle.sql_clauses.specs.declared.items.Outputs.{Outputs}
use Rattle.typed_scope.specs.Typed.{AreSeen, IsTypedOver, seen_of}
use Rattle.well_formed.specs.Given.{kinds_of_columns}
use Rattle.formed_binding.specs.Covered.{Covered}
use Rattle.formed_binding.specs.Parts.{AreCalls, calls_at}

-- Items so far, of a core that is grouped or isn't, with at most so many calls at each place: they are typed where their
-- aggregates are seen, the columns have their types, and in a grouped core they are covered.
pub record AreOutputs (view : View) (grouped : Bool) (n : ℕ → ℕ) (outputs : Outputs) : Type 0 where
  pub typed : (calls : List Call) → AreSeen (seen_of (kinds view) calls) (length (kinds view)) outputs.calls → AllByRecursion (IsTypedOver (seen_of (kinds view) calls)) outputs.trees
  pub short : AllByRecursion (HasShortTexts view.limit) outputs.trees
  pub proper : AllByRecursion IsProper (map kind_of outputs.trees)
  pub columns : kinds_of_columns outputs.columns ≡ map kind_of outputs.trees
  pub plain : length outputs.plain ≡ length outputs.columns
  pub calls : AreCalls view grouped outputs.calls
  pub counted : (place : ℕ) → calls_at outputs.calls place ≤ n place
  pub covered : grouped ≡ true → AllByRecursion (Covered view.keys (length view.columns)) outputs.trees

-- HAVING, whose aggregates are among these calls
pub record IsTested (view : View) (among : List Call) (tree : Expr) : Type 0 where
  pub typed : (calls : List Call) → AreSeen (seen_of (kinds view) calls) (length (kinds view)) among → IsTypedOver (seen_of (kinds view) calls) tree
  pub short : HasShortTexts view.limit tree
  pub boolean : kind_of tree ≡ Boolean
  pub covered : Covered view.keys (length view.columns) tree

pub record AreShown (view : View) (grouped : Bool) (n : ℕ → ℕ) (selected : Selected) : Type 0 where
  pub outputs : AreOutputs view grouped n selected.outputs
  pub having : IfSome selected.having (IsTested view selected.outputs.calls)
