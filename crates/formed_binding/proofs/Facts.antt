-- What is known of the parts of a statement that are bound.
use Rattle.std.proofs.Common.{◌≡◌, ℕ, ◌+◌, ◌≤◌, Bool, true, false, List, [], ◌∷◌, ◌++◌, length, refl, sym, subst, Option, Some, None, cond, arith, Ok, inl, inr}
use Rattle.std.specs.Prelude.{◌||◌, ◌⊎◌}
use Rattle.std.specs.List.{AllByRecursion}
use Rattle.ooc_types.specs.declared.schema.SqlType.{SqlType}
use Rattle.sql_expr.specs.declared.tree.Expr.{Expr}
use Rattle.sql_expr.specs.declared.tree.Link.{Link}
use Rattle.sql_expr.specs.declared.tree.Expr.TheOpen.{Expr-F}
use Rattle.sql_expr.specs.Typing.{IsTyped, IsTypedNode}
use Rattle.sql_scope.specs.declared.part.Call.{Call}
use Rattle.sql_scope.specs.declared.part.Part.{Part}
use Rattle.sql_scope.specs.Answer.{Answer}
use Rattle.sql_scope.specs.Parts.{first_of, is_key, part_of, uncovered}
use Rattle.sql_scope.specs.Scopes.{View, kinds}
use Rattle.typed_scope.specs.Typed.{IsPartOver, IsTypedNodeOver, IsTypedOver, seen_of}
use Rattle.typed_scope.proofs.PartLemmas.{answered}
use Rattle.well_formed.specs.Exprs.{IsExpr}
use Rattle.formed_binding.specs.Covered.{Covered, by_key}
use Rattle.formed_binding.specs.Parts.{AreCalls, IsPart, calls_at}
use Rattle.formed_binding.proofs.TreeLemmas.{every-to}

-- ---- calls

pub calls-more : (view : View) (flag other : Bool) (calls : List Call) → (flag ≡ true → other ≡ true) → AreCalls view flag calls → AreCalls view other calls
calls-more view flag other [] to all = tt
calls-more view flag other (call ∷ calls) to all = (record { aggregate = all.0.aggregate; here = all.0.here; stands = to all.0.stands }, calls-more view flag other calls to all.1)

pub calls-both : (view : View) (flag : Bool) (xs ys : List Call) → AreCalls view flag xs → AreCalls view flag ys → AreCalls view flag (xs ++ ys)
calls-both view flag [] ys a b = b
calls-both view flag (x ∷ xs) ys a b = (a.0, calls-both view flag xs ys a.1 b)

pub counted-both : (xs ys : List Call) (place : ℕ) → calls_at (xs ++ ys) place ≡ calls_at xs place + calls_at ys place
counted-both [] ys place = omega arith
counted-both (x ∷ xs) ys place = let h = counted-both xs ys place in omega arith

pub left-stands : (a b : Bool) → a ≡ true → (a || b) ≡ true
left-stands true b e = refl
left-stands false b e = cc

pub right-stands : (a b : Bool) → b ≡ true → (a || b) ≡ true
right-stands true b e = refl
right-stands false b e = e

pub no-calls : (view : View) (flag : Bool) (calls : List Call) → view.aggregates ≡ false → AreCalls view flag calls → calls ≡ []
no-calls view flag [] off all = refl
no-calls view flag (call ∷ calls) off all = let on = all.0.here in cc

pub no-flag : (view : View) (flag : Bool) (calls : List Call) → flag ≡ false → AreCalls view flag calls → calls ≡ []
no-flag view flag [] off all = refl
no-flag view flag (call ∷ calls) off all = let on = all.0.stands in cc

-- ---- what is covered

pub no-first : (a b : Option ℕ) → first_of a b ≡ None → (a ≡ None) × (b ≡ None)
no-first None b is = (refl, is)
no-first (Some place) b is = cc

pub covers : (keys : List Expr) (width : ℕ) (tree : Expr) (bare : Option ℕ) → (bare ≡ None → Covered keys width tree) → uncovered keys tree bare ≡ None → Covered keys width tree
covers keys width tree None to is = to refl
covers keys width tree (Some place) to is = by (is_key keys tree) refl is
  where
    by : (b : Bool) → is_key keys tree ≡ b → ◌≡◌ {A = Option ℕ} (cond b None (Some place)) None → Covered keys width tree
    by true e is = by_key tree e
    by false e is = cc

pub record Rest (view : View) (flag : Bool) (n : ℕ → ℕ) (part : Part) : Type 0 where
  pub calls : AreCalls view flag part.calls
  pub counted : (place : ℕ) → calls_at part.calls place ≤ n place
  pub covered : part.bare ≡ None → Covered view.keys (length view.columns) part.tree

-- a part that an operation makes
pub made : (view : View) (flag : Bool) (n : ℕ → ℕ) (tree : Expr) (bare : Option ℕ) (calls : List Call) (part : Part) → ((calls : List Call) → IsPartOver (kinds view) calls view.limit part)
    → AreCalls view flag calls → ((place : ℕ) → calls_at calls place ≤ n place) → (bare ≡ None → Covered view.keys (length view.columns) tree)
    → ◌≡◌ {A = Answer Part} (Ok (part_of view tree bare calls)) (Ok part) → IsPart view flag n part
made view flag n tree bare calls part typed are counted covered is =
    let rest : Rest view flag n part = answered (Rest view flag n) (part_of view tree bare calls) part is (record { calls = are; counted = counted; covered = λ none. covers view.keys (length view.columns) tree bare covered none }) in
    record { typed = typed; calls = rest.calls; counted = rest.counted; covered = rest.covered }

-- ---- over columns alone

closed-node : (columns : List SqlType) (x : Expr-F Expr Link) → IsTypedNodeOver (seen_of columns []) x → IsTypedNode columns x
closed-node columns (Expr-F.Constant value kind) h = h
closed-node columns (Expr-F.Column place kind) h = ⊎-left h
  where
    ⊎-left : {A : Type 0} → (A ⊎ ⊥) → A
    ⊎-left (inl a) = a
    ⊎-left (inr b) = absurd b
closed-node columns (Expr-F.Not of) h = h
closed-node columns (Expr-F.Minus of kind) h = h
closed-node columns (Expr-F.Every list) h = h
closed-node columns (Expr-F.Either list) h = h
closed-node columns (Expr-F.Chain first links) h = h
closed-node columns (Expr-F.Compare sign left right) h = h
closed-node columns (Expr-F.IsNull of negated) h = h
closed-node columns (Expr-F.Like of pattern negated) h = h
closed-node columns (Expr-F.OneOf of list negated) h = h
closed-node columns (Expr-F.Between of low high negated) h = h

pub closed : (columns : List SqlType) (e : Expr) → IsTypedOver (seen_of columns []) e → IsTyped columns e
closed columns = every-to (IsTypedNodeOver (seen_of columns [])) (IsTypedNode columns) (closed-node columns)

-- a part without aggregates is an expression over the columns
pub part-expr : (view : View) (flag : Bool) (n : ℕ → ℕ) (part : Part) → IsPart view flag n part → part.calls ≡ [] → IsExpr view.limit (kinds view) part.tree
part-expr view flag n part is none =
    let typed = is.typed [] in
    record { typed = closed (kinds view) part.tree (typed.typed (subst (λ (calls : List Call). AllByRecursion (λ (call : Call). seen_of (kinds view) [] (length (kinds view) + call.place) call.aggregate.result) calls) (sym none) tt)); short = typed.short }
