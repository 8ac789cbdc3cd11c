-- What is known of the parts of a statement that are bound.
use Rattle.std.specs.Prelude.{◌≡◌, ℕ, ◌+◌, ◌≤◌, Bool, true, ◌==◌, List, [], ◌∷◌, length, None, if◌then◌else◌}
use Rattle.std.specs.List.{AllByRecursion}
use Rattle.sql_expr.specs.declared.tree.Expr.{Expr}
use Rattle.sql_expr.specs.Operations.{IsProper}
use Rattle.sql_expr.specs.Values.{HasShortTexts}
use Rattle.sql_scope.specs.declared.chain.Chain.{Chain}
use Rattle.sql_scope.specs.declared.chain.Conditions.{Conditions}
use Rattle.sql_scope.specs.declared.part.Call.{Call}
use Rattle.sql_scope.specs.declared.part.Part.{Part}
use Rattle.sql_scope.specs.Scopes.{View, kinds}
use Rattle.typed_scope.specs.Typed.{AreConditionsOver, IsChainOver, IsPartOver, IsTypedOver, seen_of}
use Rattle.well_formed.specs.Aggregates.{IsAggregate}
use Rattle.formed_binding.specs.Covered.{Covered}
use Rattle.formed_binding.specs.Tables.{AreProper}

-- the columns of the tables and those that are seen have proper types
pub record IsView (view : View) : Type 0 where
  pub tables : AllByRecursion (λ table. AreProper table.columns) view.tables
  pub proper : AllByRecursion IsProper (kinds view)

-- an aggregate that stands where one may, and where the tree has one
pub record IsCall (view : View) (flag : Bool) (call : Call) : Type 0 where
  pub aggregate : IsAggregate view.limit (kinds view) call.aggregate
  pub here : view.aggregates ≡ true
  pub stands : flag ≡ true

abbrev pub AreCalls : View → Bool → List Call → Type 0
AreCalls view flag = AllByRecursion (IsCall view flag)

-- one, where it holds
abbrev pub one_if : Bool → ℕ
one_if b = if b then 1 else 0

-- how many of them stand at a place
abbrev pub calls_at : List Call → ℕ → ℕ
calls_at [] place = 0
calls_at (call ∷ calls) place = one_if (call.place == place) + calls_at calls place

-- A bound expression of a tree that has an aggregate only where the flag says so, and at each place at most so many calls:
-- it is typed, and covered where no first uncovered column was noted.
pub record IsPart (view : View) (flag : Bool) (n : ℕ → ℕ) (part : Part) : Type 0 where
  pub typed : (calls : List Call) → IsPartOver (kinds view) calls view.limit part
  pub calls : AreCalls view flag part.calls
  pub counted : (place : ℕ) → calls_at part.calls place ≤ n place
  pub covered : part.bare ≡ None → Covered view.keys (length view.columns) part.tree

-- a chain so far
pub record IsChain (view : View) (flag : Bool) (n : ℕ → ℕ) (chain : Chain) : Type 0 where
  pub typed : (calls : List Call) → IsChainOver (kinds view) calls view.limit chain
  pub calls : AreCalls view flag chain.calls
  pub counted : (place : ℕ) → calls_at chain.calls place ≤ n place
  pub covered : chain.bare ≡ None → Covered view.keys (length view.columns) chain.first × AllByRecursion (λ link. Covered view.keys (length view.columns) link.right) chain.links

-- the operands of AND or OR so far
pub record AreConditions (view : View) (flag : Bool) (n : ℕ → ℕ) (conditions : Conditions) : Type 0 where
  pub typed : (calls : List Call) → AreConditionsOver (kinds view) calls view.limit conditions
  pub calls : AreCalls view flag conditions.calls
  pub counted : (place : ℕ) → calls_at conditions.calls place ≤ n place
  pub covered : conditions.bare ≡ None → AllByRecursion (Covered view.keys (length view.columns)) conditions.list

-- a constant of an IN list
pub record IsListed (view : View) (e : Expr) : Type 0 where
  pub typed : (calls : List Call) → IsTypedOver (seen_of (kinds view) calls) e
  pub short : HasShortTexts view.limit e
  pub covered : Covered view.keys (length view.columns) e

abbrev pub AreListed : View → List Expr → Type 0
AreListed view list = AllByRecursion (IsListed view) list
