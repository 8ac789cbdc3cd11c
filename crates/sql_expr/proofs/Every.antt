-- A fact of each node of a tree, node by node. Who builds a tree shows by these that it has the fact.
use Rattle.std.proofs.Common.{◌≡◌, ℕ, Bool, List, [], ◌∷◌, map, refl, ap, subst}
use Rattle.ooc_types.specs.declared.value.Value.{Value}
use Rattle.ooc_types.specs.declared.schema.SqlType.{SqlType}
use Rattle.sql_expr.specs.declared.tree.CompareSign.{CompareSign}
use Rattle.sql_expr.specs.declared.tree.Expr.{Expr}
use Rattle.sql_expr.specs.declared.tree.Link.{Link}
use Rattle.sql_expr.specs.declared.tree.Expr.TheOpen.{Expr-F}
use Rattle.sql_expr.specs.declared.tree.Expr.TheFolds.{every-Expr, every-Link, every_made-Expr, every_made-Link, map-Expr}
use Rattle.sql_expr.specs.declared.tree.Expr.TheViews.{out-Link, roll-Expr, roll-out-Link}
use Rattle.sql_expr.specs.declared.tree.Expr.TheVariants.{rolls-Constant, rolls-Column, rolls-Not, rolls-Minus, rolls-Every, rolls-Either, rolls-Chain, rolls-Compare, rolls-IsNull, rolls-Like, rolls-OneOf, rolls-Between}
use Rattle.sql_expr.specs.declared.tree.Expr.TheVariants as variant
use Rattle.sql_expr.specs.Typing.{AnyLink}
use Rattle.sql_expr.proofs.Opened.{AllOf, AllLinks}

module _ (N : Expr-F Expr Link → Type 0) where
  abbrev T : Expr → Type 0
  T = every-Expr N AnyLink

  abbrev T' : Link → Type 0
  T' = every-Link N AnyLink

  link_has : (l : Link) → T l.right → T' l
  link_has l p =
      subst T' (roll-out-Link l)
      (every_made-Link N AnyLink (out-Link l) (record { sign = l.sign; right = (l.right, p); kind = l.kind }) refl tt)

  abbrev pack : (es : List Expr) → AllOf T es → List ((e : Expr) × T e)
  pack [] all = []
  pack (e ∷ es) all = (e, all.0) ∷ pack es all.1

  pack_is : (es : List Expr) (all : AllOf T es) → map (λ e. e.0) (pack es all) ≡ es
  pack_is [] all = refl
  pack_is (e ∷ es) all = ap (λ rest. e ∷ rest) (pack_is es all.1)

  abbrev pack_links : (ls : List Link) → AllLinks T ls → List ((l : Link) × T' l)
  pack_links [] all = []
  pack_links (l ∷ ls) all = (l, link_has l all.0) ∷ pack_links ls all.1

  pack_links_is : (ls : List Link) (all : AllLinks T ls) → map (λ l. l.0) (pack_links ls all) ≡ ls
  pack_links_is [] all = refl
  pack_links_is (l ∷ ls) all = ap (λ rest. l ∷ rest) (pack_links_is ls all.1)

  made : (x : Expr-F Expr Link) (y : Expr-F ((e : Expr) × T e) ((l : Link) × T' l))
      → map-Expr ((e : Expr) × T e) ((l : Link) × T' l) Expr Link (λ e. e.0) (λ l. l.0) y ≡ x → N x → T (roll-Expr x)
  made x y is node = every_made-Expr N AnyLink x y is node

  pub every_constant : (value : Value) (kind : SqlType) → N (Expr-F.Constant value kind) → T (variant.Constant value kind)
  every_constant value kind h = subst T (rolls-Constant value kind) (made (Expr-F.Constant value kind) (Expr-F.Constant value kind) refl h)

  pub every_column : (place : ℕ) (kind : SqlType) → N (Expr-F.Column place kind) → T (variant.Column place kind)
  every_column place kind h = subst T (rolls-Column place kind) (made (Expr-F.Column place kind) (Expr-F.Column place kind) refl h)

  pub every_not : (of : Expr) → T of → N (Expr-F.Not of) → T (variant.Not of)
  every_not of t h = subst T (rolls-Not of) (made (Expr-F.Not of) (Expr-F.Not (of, t)) refl h)

  pub every_minus : (of : Expr) (kind : SqlType) → T of → N (Expr-F.Minus of kind) → T (variant.Minus of kind)
  every_minus of kind t h = subst T (rolls-Minus of kind) (made (Expr-F.Minus of kind) (Expr-F.Minus (of, t) kind) refl h)

  pub every_every : (list : List Expr) → AllOf T list → N (Expr-F.Every list) → T (variant.Every list)
  every_every list all h = subst T (rolls-Every list) (made (Expr-F.Every list) (Expr-F.Every (pack list all)) (ap Expr-F.Every (pack_is list all)) h)

  pub every_either : (list : List Expr) → AllOf T list → N (Expr-F.Either list) → T (variant.Either list)
  every_either list all h = subst T (rolls-Either list) (made (Expr-F.Either list) (Expr-F.Either (pack list all)) (ap Expr-F.Either (pack_is list all)) h)

  pub every_chain : (first : Expr) (links : List Link) → T first → AllLinks T links → N (Expr-F.Chain first links) → T (variant.Chain first links)
  every_chain first links t all h = subst T (rolls-Chain first links) (made (Expr-F.Chain first links) (Expr-F.Chain (first, t) (pack_links links all)) (ap (Expr-F.Chain first) (pack_links_is links all)) h)

  pub every_compare : (sign : CompareSign) (left right : Expr) → T left → T right → N (Expr-F.Compare sign left right) → T (variant.Compare sign left right)
  every_compare sign left right l r h = subst T (rolls-Compare sign left right) (made (Expr-F.Compare sign left right) (Expr-F.Compare sign (left, l) (right, r)) refl h)

  pub every_is_null : (of : Expr) (negated : Bool) → T of → N (Expr-F.IsNull of negated) → T (variant.IsNull of negated)
  every_is_null of negated t h = subst T (rolls-IsNull of negated) (made (Expr-F.IsNull of negated) (Expr-F.IsNull (of, t) negated) refl h)

  pub every_like : (of : Expr) (pattern : List ℕ) (negated : Bool) → T of → N (Expr-F.Like of pattern negated) → T (variant.Like of pattern negated)
  every_like of pattern negated t h = subst T (rolls-Like of pattern negated) (made (Expr-F.Like of pattern negated) (Expr-F.Like (of, t) pattern negated) refl h)

  pub every_one_of : (of : Expr) (list : List Expr) (negated : Bool) → T of → AllOf T list → N (Expr-F.OneOf of list negated) → T (variant.OneOf of list negated)
  every_one_of of list negated t all h = subst T (rolls-OneOf of list negated) (made (Expr-F.OneOf of list negated) (Expr-F.OneOf (of, t) (pack list all) negated) (ap (λ es. Expr-F.OneOf of es negated) (pack_is list all)) h)

  pub every_between : (of low high : Expr) (negated : Bool) → T of → T low → T high → N (Expr-F.Between of low high negated) → T (variant.Between of low high negated)
  every_between of low high negated t l r h = subst T (rolls-Between of low high negated) (made (Expr-F.Between of low high negated) (Expr-F.Between (of, t) (low, l) (high, r) negated) refl h)
