-- Expressions that are typed, node by node. Who builds a tree shows by these that it is typed.
use Rattle.std.proofs.Common.{◌≡◌, ℕ, Bool, List, [], ◌∷◌, sym, subst}
use Rattle.std.specs.Prelude.{Some, slice_get}
use Rattle.std.specs.List.{AllByRecursion}
use Rattle.ooc_types.specs.declared.value.Value.{Value}
use Rattle.ooc_types.specs.declared.schema.SqlType.{SqlType}
use Rattle.ooc_types.specs.declared.schema.SqlType.TheVariants.{Boolean, Varchar}
use Rattle.ooc_decimal.specs.Numeric.{IsNumeric}
use Rattle.sql_expr.specs.declared.tree.CompareSign.{CompareSign}
use Rattle.sql_expr.specs.declared.tree.Expr.{Expr}
use Rattle.sql_expr.specs.declared.tree.Link.{Link}
use Rattle.sql_expr.specs.declared.tree.Expr.TheVariants as variant
use Rattle.sql_expr.specs.Kinds.{kind_of}
use Rattle.sql_expr.specs.Operations.{IsAmount, IsComparable, IsLinked}
use Rattle.sql_expr.specs.Typing.{IsTyped, IsTypedNode, IsLiteral, AreLinks}
use Rattle.sql_expr.proofs.Every.{every_constant, every_column, every_not, every_minus, every_every, every_either, every_chain, every_compare, every_is_null, every_like, every_one_of, every_between}
use Rattle.sql_expr.proofs.Linked.{linked_left}
use Rattle.sql_expr.proofs.Opened.{AllOf, AllLinks}

module _ (columns : List SqlType) where
  abbrev T : Expr → Type 0
  T = IsTyped columns

  pub typed_constant : (value : Value) (kind : SqlType) → IsLiteral kind value → T (variant.Constant value kind)
  typed_constant value kind h = every_constant (IsTypedNode columns) value kind h

  pub typed_column : (place : ℕ) (kind : SqlType) → slice_get columns place ≡ Some kind → T (variant.Column place kind)
  typed_column place kind h = every_column (IsTypedNode columns) place kind h

  pub typed_not : (of : Expr) → T of → kind_of of ≡ Boolean → T (variant.Not of)
  typed_not of t h = every_not (IsTypedNode columns) of t h

  pub typed_minus : (of : Expr) (kind : SqlType) → T of → IsNumeric kind → kind_of of ≡ kind → T (variant.Minus of kind)
  typed_minus of kind t h k = every_minus (IsTypedNode columns) of kind t (h, k)

  pub typed_every : (list : List Expr) → AllOf T list → AllByRecursion (λ e. kind_of e ≡ Boolean) list → T (variant.Every list)
  typed_every list all h = every_every (IsTypedNode columns) list all h

  pub typed_either : (list : List Expr) → AllOf T list → AllByRecursion (λ e. kind_of e ≡ Boolean) list → T (variant.Either list)
  typed_either list all h = every_either (IsTypedNode columns) list all h

  pub typed_chain : (first : Expr) (links : List Link) → T first → AllLinks T links → IsAmount (kind_of first) → AreLinks (kind_of first) links
      → T (variant.Chain first links)
  typed_chain first links t all h ls = every_chain (IsTypedNode columns) first links t all (h, ls)

  pub typed_compare : (sign : CompareSign) (left right : Expr) → T left → T right → IsComparable (kind_of left) (kind_of right) → T (variant.Compare sign left right)
  typed_compare sign left right l r h = every_compare (IsTypedNode columns) sign left right l r h

  pub typed_is_null : (of : Expr) (negated : Bool) → T of → T (variant.IsNull of negated)
  typed_is_null of negated t = every_is_null (IsTypedNode columns) of negated t tt

  pub typed_like : (of : Expr) (pattern : List ℕ) (negated : Bool) → T of → kind_of of ≡ Varchar → T (variant.Like of pattern negated)
  typed_like of pattern negated t h = every_like (IsTypedNode columns) of pattern negated t h

  pub typed_one_of : (of : Expr) (list : List Expr) (negated : Bool) → T of → AllOf T list → AllByRecursion (λ e. IsComparable (kind_of of) (kind_of e)) list
      → T (variant.OneOf of list negated)
  typed_one_of of list negated t all h = every_one_of (IsTypedNode columns) of list negated t all h

  pub typed_between : (of low high : Expr) (negated : Bool) → T of → T low → T high
      → IsComparable (kind_of of) (kind_of low) → IsComparable (kind_of of) (kind_of high) → T (variant.Between of low high negated)
  typed_between of low high negated t l r h k = every_between (IsTypedNode columns) of low high negated t l r (h, k)

  -- two operands under a sign
  pub typed_pair : (first : Expr) (link : Link) (left right : SqlType) → T first → kind_of first ≡ left → T link.right → kind_of link.right ≡ right
      → IsLinked link.sign left right link.kind → T (variant.Chain first (link ∷ []))
  typed_pair first link left right t k u l linked =
      let here : IsLinked link.sign (kind_of first) (kind_of link.right) link.kind =
      subst (λ (x : SqlType). IsLinked link.sign x (kind_of link.right) link.kind) (sym k)
      (subst (λ (x : SqlType). IsLinked link.sign left x link.kind) (sym l) linked) in
      typed_chain first (link ∷ []) t (u, tt) (linked_left link.sign (kind_of first) (kind_of link.right) link.kind here) (here, tt)
