-- What an expression that fits a row says of its outermost node.
use Rattle.std.proofs.Common.{◌≡◌, ℕ, zero, suc, ◌<◌, List, [], ◌∷◌, map, refl, subst, ap, ◌∙◌, length, slice_index_or, arith}
use Rattle.std.specs.Prelude.{⊤, slice_get, Some}
use Rattle.ooc_types.specs.declared.value.Value.{Value}
use Rattle.ooc_types.specs.declared.value.Value.TheVariants.{Null}
use Rattle.ooc_types.specs.declared.schema.SqlType.{SqlType}
use Rattle.ooc_types.specs.Meets.{Meets, AllMeet}
use Rattle.sql_expr.specs.declared.tree.Expr.{Expr}
use Rattle.sql_expr.specs.declared.tree.Link.{Link}
use Rattle.sql_expr.specs.declared.tree.Expr.TheOpen.{Expr-F}
use Rattle.sql_expr.specs.declared.tree.Expr.TheFolds.{every-Link, every_here-Expr, every_held-Expr, every_held-Link, map-Expr}
use Rattle.sql_expr.specs.declared.tree.Expr.TheViews.{out-Expr, out-Link}
use Rattle.sql_expr.specs.Typing.{IsTyped, IsTypedNode, AnyLink, FitsRow}

abbrev pub AllOf : (Expr → Type 0) → List Expr → Type 0
AllOf T [] = ⊤
AllOf T (e ∷ es) = T e × AllOf T es

abbrev pub AllLinks : (Expr → Type 0) → List Link → Type 0
AllLinks T [] = ⊤
AllLinks T (l ∷ ls) = T l.right × AllLinks T ls

-- a fact of each child
abbrev pub Children : (Expr → Type 0) → Expr-F Expr Link → Type 0
Children T (Expr-F.Constant value kind) = ⊤
Children T (Expr-F.Column place kind) = ⊤
Children T (Expr-F.Not of) = T of
Children T (Expr-F.Minus of kind) = T of
Children T (Expr-F.Every list) = AllOf T list
Children T (Expr-F.Either list) = AllOf T list
Children T (Expr-F.Chain first links) = T first × AllLinks T links
Children T (Expr-F.Compare sign left right) = T left × T right
Children T (Expr-F.IsNull of negated) = T of
Children T (Expr-F.Like of pattern negated) = T of
Children T (Expr-F.OneOf of list negated) = T of × AllOf T list
Children T (Expr-F.Between of low high negated) = T of × T low × T high

module _ (S : Expr → Type 0) (S' : Link → Type 0) (T : Expr → Type 0) (to : (e : Expr) → S e → T e) (to' : (l : Link) → S' l → T l.right) where
  all_of : (ys : List ((e : Expr) × S e)) → AllOf T (map (λ e. e.0) ys)
  all_of [] = tt
  all_of (y ∷ ys) = (to y.0 y.1, all_of ys)

  all_links : (ys : List ((l : Link) × S' l)) → AllLinks T (map (λ l. l.0) ys)
  all_links [] = tt
  all_links (y ∷ ys) = (to' y.0 y.1, all_links ys)

  children : (y : Expr-F ((e : Expr) × S e) ((l : Link) × S' l)) → Children T (map-Expr ((e : Expr) × S e) ((l : Link) × S' l) Expr Link (λ e. e.0) (λ l. l.0) y)
  children (Expr-F.Constant value kind) = tt
  children (Expr-F.Column place kind) = tt
  children (Expr-F.Not of) = to of.0 of.1
  children (Expr-F.Minus of kind) = to of.0 of.1
  children (Expr-F.Every list) = all_of list
  children (Expr-F.Either list) = all_of list
  children (Expr-F.Chain first links) = (to first.0 first.1, all_links links)
  children (Expr-F.Compare sign left right) = (to left.0 left.1, to right.0 right.1)
  children (Expr-F.IsNull of negated) = to of.0 of.1
  children (Expr-F.Like of pattern negated) = to of.0 of.1
  children (Expr-F.OneOf of list negated) = (to of.0 of.1, all_of list)
  children (Expr-F.Between of low high negated) = (to of.0 of.1, to low.0 low.1, to high.0 high.1)

  pub children_hold : (x : Expr-F Expr Link) (y : Expr-F ((e : Expr) × S e) ((l : Link) × S' l))
      → map-Expr ((e : Expr) × S e) ((l : Link) × S' l) Expr Link (λ e. e.0) (λ l. l.0) y ≡ x → Children T x
  children_hold x y is = subst (Children T) is (children y)

link_right : (l : Link) → (out-Link l).right ≡ l.right
link_right l = refl

right_typed : (columns : List SqlType) (l : Link) → every-Link (IsTypedNode columns) AnyLink l → IsTyped columns l.right
right_typed columns l h =
    let held = every_held-Link (IsTypedNode columns) AnyLink l h in
    subst (IsTyped columns) (ap (λ x. x.right) held.1) held.0.right.1

-- a node that is typed, over operands that are
pub record TypedNode (columns : List SqlType) (x : Expr-F Expr Link) : Type 0 where
  pub node : IsTypedNode columns x
  pub children : Children (IsTyped columns) x

pub opened_typed : (columns : List SqlType) (e : Expr) (x : Expr-F Expr Link) → IsTyped columns e → out-Expr e ≡ x → TypedNode columns x
opened_typed columns e x typed is =
    let held = every_held-Expr (IsTypedNode columns) AnyLink e typed in
    record {
      node = subst (IsTypedNode columns) is (every_here-Expr (IsTypedNode columns) AnyLink e typed);
      children = children_hold (IsTyped columns) (every-Link (IsTypedNode columns) AnyLink) (IsTyped columns) (λ e t. t) (λ l t. right_typed columns l t) x held.0 (held.1 ∙ is);
    }

-- a node that is typed, over operands that fit the row
pub record Node (row : List Value) (x : Expr-F Expr Link) : Type 0 where
  pub columns : List SqlType
  pub limit : ℕ
  pub meets : Meets limit columns row
  pub node : IsTypedNode columns x
  pub children : Children (λ e. FitsRow e row) x

pub opened : (row : List Value) (e : Expr) (x : Expr-F Expr Link) → FitsRow e row → out-Expr e ≡ x → Node row x
opened row e x fits is =
    let held = every_held-Expr (IsTypedNode fits.columns) AnyLink e fits.typed in
    record {
      columns = fits.columns;
      limit = fits.limit;
      meets = fits.meets;
      node = subst (IsTypedNode fits.columns) is (every_here-Expr (IsTypedNode fits.columns) AnyLink e fits.typed);
      children = children_hold (IsTyped fits.columns) (every-Link (IsTypedNode fits.columns) AnyLink) (λ e. FitsRow e row)
          (λ e typed. record { columns = fits.columns; limit = fits.limit; typed = typed; meets = fits.meets })
          (λ l typed. record { columns = fits.columns; limit = fits.limit; typed = right_typed fits.columns l typed; meets = fits.meets })
          x held.0 (held.1 ∙ is);
    }

-- the value of a column has the fact that its type asks
pub record InColumn (Fact : SqlType → Value → Type 0) (kind : SqlType) (row : List Value) (place : ℕ) : Type 0 where
  pub within : place < length row
  pub form : Fact kind (slice_index_or row place Null)

pub meets_at : (Fact : SqlType → Value → Type 0) (kinds : List SqlType) (row : List Value) (place : ℕ) (kind : SqlType)
    → AllMeet Fact kinds row → slice_get kinds place ≡ Some kind → InColumn Fact kind row place
meets_at Fact [] [] place kind meets is = cc
meets_at Fact [] (v ∷ row) place kind meets is = absurd meets
meets_at Fact (k ∷ kinds) [] place kind meets is = absurd meets
meets_at Fact (k ∷ kinds) (v ∷ row) zero kind meets is = record { within = omega arith; form = let e : k ≡ kind = cc in subst (λ (x : SqlType). Fact x v) e meets.0 }
meets_at Fact (k ∷ kinds) (v ∷ row) (suc place) kind meets is =
    let next = meets_at Fact kinds row place kind meets.1 is in
    record { within = let h = next.within in omega arith; form = next.form }
