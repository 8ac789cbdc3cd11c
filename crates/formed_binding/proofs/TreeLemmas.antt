-- Typed trees by their nodes, and trees over the row of a group.
use Rattle.std.proofs.Common.{◌≡◌, ℕ, ◌+◌, ◌≤◌, Bool, true, false, inl, inr, List, [], ◌∷◌, map, refl, sym, ap, ◌∙◌, subst, Option, Some, None, cond}
use Rattle.std.specs.Prelude.{◌||◌, slice_get}
use Rattle.std.specs.List.{AllByRecursion}
use Rattle.ooc_types.specs.declared.schema.SqlType.{SqlType}
use Rattle.ooc_types.specs.declared.schema.SqlType.TheVariants.{Boolean}
use Rattle.sql_expr.specs.declared.tree.Expr.{Expr}
use Rattle.sql_expr.specs.declared.tree.Link.{Link}
use Rattle.sql_expr.specs.declared.tree.Expr.TheOpen.{Expr-F, Link-F}
use Rattle.sql_expr.specs.declared.tree.Expr.TheFolds.{every-Expr, every-Link, every_here-Expr, every_held-Expr, every_held-Link, ind-Expr, map-Expr}
use Rattle.sql_expr.specs.declared.tree.Expr.TheVariants as tree
use Rattle.sql_expr.specs.declared.tree.Expr.TheVariants.{rolls-Constant, rolls-Column, rolls-Not, rolls-Minus, rolls-Every, rolls-Either, rolls-Chain, rolls-Compare, rolls-IsNull, rolls-Like, rolls-OneOf, rolls-Between}
use Rattle.sql_expr.specs.declared.tree.Expr.TheViews.{out-Expr, roll-Expr, out-roll-Expr}
use Rattle.sql_expr.specs.Kinds.{kind_of, kind_step, link_kind, last_kind}
use Rattle.sql_expr.specs.Operations.{IsAmount, IsComparable, IsLinked}
use Rattle.sql_expr.specs.Typing.{AnyLink, AreLinks, IsTyped, IsTypedNode}
use Rattle.sql_expr.specs.Values.{HasShortTexts, IsShortNode}
use Rattle.sql_expr.proofs.Every.{every_constant, every_column, every_not, every_minus, every_every, every_either, every_chain, every_compare, every_is_null, every_like, every_one_of, every_between}
use Rattle.sql_expr.proofs.Nodes.{is_rolled, kind_out, link_kind_is}
use Rattle.sql_expr.proofs.Opened.{AllLinks, AllOf, Children, children_hold}
use Rattle.sql_clauses.specs.Grouping.{key_from, over_group, list_over, link_over, links_over}
use Rattle.sql_clauses.proofs.Regrouping.{over_key, over_constant, over_column, over_not, over_minus, over_every, over_either, over_chain, over_compare, over_null_test, over_like, over_one_of, over_between}
use Rattle.sql_scope.specs.Equality.{same}
use Rattle.sql_scope.specs.Parts.{is_key}
use Rattle.typed_scope.specs.Typed.{IsTypedNodeOver, IsTypedOver, Seen}
use Rattle.formed_binding.specs.Covered.{Covered, by_key, by_parts, IsBeyond, IsChild, IsIn, IsInLinks}

-- ---- a fact of every tree, node by node

pub by-node : (P : Expr → Type 0) → ((e : Expr) (x : Expr-F Expr Link) → out-Expr e ≡ x → Children P x → P e) → (e : Expr) → P e
by-node P step = ind-Expr P (λ l. P l.right)
    (λ x y is. step (roll-Expr x) x (out-roll-Expr x) (children_hold P (λ l. P l.right) P (λ e h. h) (λ l h. h) x y is))
    (λ x y is. subst P (ap (λ (l : Link-F Expr Link). l.right) is) y.right.1)

-- a fact of each node: that of the outermost one, and the children's
pub record OpenNode (N : Expr-F Expr Link → Type 0) (x : Expr-F Expr Link) : Type 0 where
  pub node : N x
  pub children : Children (every-Expr N AnyLink) x

right-every : (N : Expr-F Expr Link → Type 0) (l : Link) → every-Link N AnyLink l → every-Expr N AnyLink l.right
right-every N l h =
    let held = every_held-Link N AnyLink l h in
    subst (every-Expr N AnyLink) (ap (λ x. x.right) held.1) held.0.right.1

pub open-node : (N : Expr-F Expr Link → Type 0) (e : Expr) (x : Expr-F Expr Link) → every-Expr N AnyLink e → out-Expr e ≡ x → OpenNode N x
open-node N e x every is =
    let held = every_held-Expr N AnyLink e every in
    record {
      node = subst N is (every_here-Expr N AnyLink e every);
      children = children_hold (every-Expr N AnyLink) (every-Link N AnyLink) (every-Expr N AnyLink) (λ e t. t) (λ l t. right-every N l t) x held.0 (held.1 ∙ is);
    }

pub close-node : (N : Expr-F Expr Link → Type 0) (e : Expr) (x : Expr-F Expr Link) → out-Expr e ≡ x → N x → Children (every-Expr N AnyLink) x → every-Expr N AnyLink e
close-node N e (Expr-F.Constant value kind) is node h = subst (every-Expr N AnyLink) (sym (is_rolled e (Expr-F.Constant value kind) is ∙ rolls-Constant value kind)) (every_constant N value kind node)
close-node N e (Expr-F.Column place kind) is node h = subst (every-Expr N AnyLink) (sym (is_rolled e (Expr-F.Column place kind) is ∙ rolls-Column place kind)) (every_column N place kind node)
close-node N e (Expr-F.Not of) is node h = subst (every-Expr N AnyLink) (sym (is_rolled e (Expr-F.Not of) is ∙ rolls-Not of)) (every_not N of h node)
close-node N e (Expr-F.Minus of kind) is node h = subst (every-Expr N AnyLink) (sym (is_rolled e (Expr-F.Minus of kind) is ∙ rolls-Minus of kind)) (every_minus N of kind h node)
close-node N e (Expr-F.Every list) is node h = subst (every-Expr N AnyLink) (sym (is_rolled e (Expr-F.Every list) is ∙ rolls-Every list)) (every_every N list h node)
close-node N e (Expr-F.Either list) is node h = subst (every-Expr N AnyLink) (sym (is_rolled e (Expr-F.Either list) is ∙ rolls-Either list)) (every_either N list h node)
close-node N e (Expr-F.Chain first links) is node h = subst (every-Expr N AnyLink) (sym (is_rolled e (Expr-F.Chain first links) is ∙ rolls-Chain first links)) (every_chain N first links h.0 h.1 node)
close-node N e (Expr-F.Compare sign left right) is node h = subst (every-Expr N AnyLink) (sym (is_rolled e (Expr-F.Compare sign left right) is ∙ rolls-Compare sign left right)) (every_compare N sign left right h.0 h.1 node)
close-node N e (Expr-F.IsNull of negated) is node h = subst (every-Expr N AnyLink) (sym (is_rolled e (Expr-F.IsNull of negated) is ∙ rolls-IsNull of negated)) (every_is_null N of negated h node)
close-node N e (Expr-F.Like of pattern negated) is node h = subst (every-Expr N AnyLink) (sym (is_rolled e (Expr-F.Like of pattern negated) is ∙ rolls-Like of pattern negated)) (every_like N of pattern negated h node)
close-node N e (Expr-F.OneOf of list negated) is node h = subst (every-Expr N AnyLink) (sym (is_rolled e (Expr-F.OneOf of list negated) is ∙ rolls-OneOf of list negated)) (every_one_of N of list negated h.0 h.1 node)
close-node N e (Expr-F.Between of low high negated) is node h = subst (every-Expr N AnyLink) (sym (is_rolled e (Expr-F.Between of low high negated) is ∙ rolls-Between of low high negated)) (every_between N of low high negated h.0 h.1 h.2 node)

all-applied : (A B : Expr → Type 0) (list : List Expr) → AllOf (λ e. A e → B e) list → AllOf A list → AllOf B list
all-applied A B [] to all = tt
all-applied A B (e ∷ list) to all = (to.0 all.0, all-applied A B list to.1 all.1)

links-applied : (A B : Expr → Type 0) (links : List Link) → AllLinks (λ e. A e → B e) links → AllLinks A links → AllLinks B links
links-applied A B [] to all = tt
links-applied A B (l ∷ links) to all = (to.0 all.0, links-applied A B links to.1 all.1)

pub children-applied : (A B : Expr → Type 0) (x : Expr-F Expr Link) → Children (λ e. A e → B e) x → Children A x → Children B x
children-applied A B (Expr-F.Constant value kind) t h = tt
children-applied A B (Expr-F.Column place kind) t h = tt
children-applied A B (Expr-F.Not of) t h = t h
children-applied A B (Expr-F.Minus of kind) t h = t h
children-applied A B (Expr-F.Every list) t h = all-applied A B list t h
children-applied A B (Expr-F.Either list) t h = all-applied A B list t h
children-applied A B (Expr-F.Chain first links) t h = (t.0 h.0, links-applied A B links t.1 h.1)
children-applied A B (Expr-F.Compare sign left right) t h = (t.0 h.0, t.1 h.1)
children-applied A B (Expr-F.IsNull of negated) t h = t h
children-applied A B (Expr-F.Like of pattern negated) t h = t h
children-applied A B (Expr-F.OneOf of list negated) t h = (t.0 h.0, all-applied A B list t.1 h.1)
children-applied A B (Expr-F.Between of low high negated) t h = (t.0 h.0, t.1 h.1, t.2 h.2)

pub every-to : (N M : Expr-F Expr Link → Type 0) → ((x : Expr-F Expr Link) → N x → M x) → (e : Expr) → every-Expr N AnyLink e → every-Expr M AnyLink e
every-to N M to = by-node (λ e. every-Expr N AnyLink e → every-Expr M AnyLink e)
    (λ e x is have every. let o = open-node N e x every is in close-node M e x is (to x o.node) (children-applied (every-Expr N AnyLink) (every-Expr M AnyLink) x have o.children))

-- ---- which trees stand in another as its parts

in-list : (T : Expr → Type 0) (list : List Expr) → AllOf T list → (child : Expr) → IsIn child list → T child
in-list T [] all child at = absurd at
in-list T (e ∷ list) all child (inl is) = subst T (sym is) all.0
in-list T (e ∷ list) all child (inr at) = in-list T list all.1 child at

in-links : (T : Expr → Type 0) (links : List Link) → AllLinks T links → (child : Expr) → IsInLinks child links → T child
in-links T [] all child at = absurd at
in-links T (l ∷ links) all child (inl is) = subst T (sym is) all.0
in-links T (l ∷ links) all child (inr at) = in-links T links all.1 child at

pub to-each : (T : Expr → Type 0) (x : Expr-F Expr Link) → Children T x → (child : Expr) → IsChild child x → T child
to-each T (Expr-F.Constant value kind) h child at = absurd at
to-each T (Expr-F.Column place kind) h child at = absurd at
to-each T (Expr-F.Not of) h child at = subst T (sym at) h
to-each T (Expr-F.Minus of kind) h child at = subst T (sym at) h
to-each T (Expr-F.Every list) h child at = in-list T list h child at
to-each T (Expr-F.Either list) h child at = in-list T list h child at
to-each T (Expr-F.Chain first links) h child (inl at) = subst T (sym at) h.0
to-each T (Expr-F.Chain first links) h child (inr at) = in-links T links h.1 child at
to-each T (Expr-F.Compare sign left right) h child (inl at) = subst T (sym at) h.0
to-each T (Expr-F.Compare sign left right) h child (inr at) = subst T (sym at) h.1
to-each T (Expr-F.IsNull of negated) h child at = subst T (sym at) h
to-each T (Expr-F.Like of pattern negated) h child at = subst T (sym at) h
to-each T (Expr-F.OneOf of list negated) h child (inl at) = subst T (sym at) h.0
to-each T (Expr-F.OneOf of list negated) h child (inr at) = in-list T list h.1 child at
to-each T (Expr-F.Between of low high negated) h child (inl at) = subst T (sym at) h.0
to-each T (Expr-F.Between of low high negated) h child (inr (inl at)) = subst T (sym at) h.1
to-each T (Expr-F.Between of low high negated) h child (inr (inr at)) = subst T (sym at) h.2

of-list : (T : Expr → Type 0) (list : List Expr) → ((child : Expr) → IsIn child list → T child) → AllOf T list
of-list T [] each = tt
of-list T (e ∷ list) each = (each e (inl refl), of-list T list (λ child at. each child (inr at)))

of-links : (T : Expr → Type 0) (links : List Link) → ((child : Expr) → IsInLinks child links → T child) → AllLinks T links
of-links T [] each = tt
of-links T (l ∷ links) each = (each l.right (inl refl), of-links T links (λ child at. each child (inr at)))

pub of-each : (T : Expr → Type 0) (x : Expr-F Expr Link) → ((child : Expr) → IsChild child x → T child) → Children T x
of-each T (Expr-F.Constant value kind) each = tt
of-each T (Expr-F.Column place kind) each = tt
of-each T (Expr-F.Not of) each = each of refl
of-each T (Expr-F.Minus of kind) each = each of refl
of-each T (Expr-F.Every list) each = of-list T list (λ child at. each child at)
of-each T (Expr-F.Either list) each = of-list T list (λ child at. each child at)
of-each T (Expr-F.Chain first links) each = (each first (inl refl), of-links T links (λ child at. each child (inr at)))
of-each T (Expr-F.Compare sign left right) each = (each left (inl refl), each right (inr refl))
of-each T (Expr-F.IsNull of negated) each = each of refl
of-each T (Expr-F.Like of pattern negated) each = each of refl
of-each T (Expr-F.OneOf of list negated) each = (each of (inl refl), of-list T list (λ child at. each child (inr at)))
of-each T (Expr-F.Between of low high negated) each = (each of (inl refl), each low (inr (inl refl)), each high (inr (inr refl)))

-- ---- what keys cover

pub covered-node : (keys : List Expr) (width : ℕ) (e : Expr) (x : Expr-F Expr Link) → out-Expr e ≡ x → IsBeyond width x → Children (Covered keys width) x → Covered keys width e
covered-node keys width e x is beyond children = by_parts e x is beyond (to-each (Covered keys width) x children)

key-at : (at : ℕ) (keys : List Expr) (e : Expr) → is_key keys e ≡ true → key_from at keys e ≡ None → ⊥
key-at at [] e is none = cc
key-at at (key ∷ keys) e is none = by (same key e) (λ rest later. key-at (at + 1) keys e rest later) is none
  where
    by : (b : Bool) → (is_key keys e ≡ true → key_from (at + 1) keys e ≡ None → ⊥) → (b || is_key keys e) ≡ true → cond b (Some at) (key_from (at + 1) keys e) ≡ None → ⊥
    by true more is none = cc
    by false more is none = more is none

-- ---- the same over the row of a group

module _ (keys : List Expr) (place_of : ℕ → ℕ) where
  abbrev Over : Expr → Expr
  Over = over_group keys place_of

  abbrev pub shape-over : Expr-F Expr Link → Expr-F Expr Link
  shape-over (Expr-F.Constant value kind) = Expr-F.Constant value kind
  shape-over (Expr-F.Column place kind) = Expr-F.Column (place_of place) kind
  shape-over (Expr-F.Not of) = Expr-F.Not (over_group keys place_of of)
  shape-over (Expr-F.Minus of kind) = Expr-F.Minus (over_group keys place_of of) kind
  shape-over (Expr-F.Every list) = Expr-F.Every (list_over keys place_of list)
  shape-over (Expr-F.Either list) = Expr-F.Either (list_over keys place_of list)
  shape-over (Expr-F.Chain first links) = Expr-F.Chain (over_group keys place_of first) (links_over keys place_of links)
  shape-over (Expr-F.Compare sign left right) = Expr-F.Compare sign (over_group keys place_of left) (over_group keys place_of right)
  shape-over (Expr-F.IsNull of negated) = Expr-F.IsNull (over_group keys place_of of) negated
  shape-over (Expr-F.Like of pattern negated) = Expr-F.Like (over_group keys place_of of) pattern negated
  shape-over (Expr-F.OneOf of list negated) = Expr-F.OneOf (over_group keys place_of of) (list_over keys place_of list) negated
  shape-over (Expr-F.Between of low high negated) = Expr-F.Between (over_group keys place_of of) (over_group keys place_of low) (over_group keys place_of high) negated

  over-out : (e : Expr) (x : Expr-F Expr Link) → out-Expr e ≡ x → None ≡ key_from 0 keys e → out-Expr (Over e) ≡ shape-over x
  over-out e (Expr-F.Constant value kind) is none = ap out-Expr (sym (over_constant keys place_of e value kind is none)) ∙ ap out-Expr (sym (rolls-Constant value kind)) ∙ out-roll-Expr (Expr-F.Constant value kind)
  over-out e (Expr-F.Column place kind) is none = ap out-Expr (sym (over_column keys place_of e place kind is none)) ∙ ap out-Expr (sym (rolls-Column (place_of place) kind)) ∙ out-roll-Expr (Expr-F.Column (place_of place) kind)
  over-out e (Expr-F.Not of) is none = ap out-Expr (sym (over_not keys place_of e of is none)) ∙ ap out-Expr (sym (rolls-Not (Over of))) ∙ out-roll-Expr (Expr-F.Not (Over of))
  over-out e (Expr-F.Minus of kind) is none = ap out-Expr (sym (over_minus keys place_of e of kind is none)) ∙ ap out-Expr (sym (rolls-Minus (Over of) kind)) ∙ out-roll-Expr (Expr-F.Minus (Over of) kind)
  over-out e (Expr-F.Every list) is none = ap out-Expr (sym (over_every keys place_of e list is none)) ∙ ap out-Expr (sym (rolls-Every (list_over keys place_of list))) ∙ out-roll-Expr (Expr-F.Every (list_over keys place_of list))
  over-out e (Expr-F.Either list) is none = ap out-Expr (sym (over_either keys place_of e list is none)) ∙ ap out-Expr (sym (rolls-Either (list_over keys place_of list))) ∙ out-roll-Expr (Expr-F.Either (list_over keys place_of list))
  over-out e (Expr-F.Chain first links) is none = ap out-Expr (sym (over_chain keys place_of e first links is none)) ∙ ap out-Expr (sym (rolls-Chain (Over first) (links_over keys place_of links))) ∙ out-roll-Expr (Expr-F.Chain (Over first) (links_over keys place_of links))
  over-out e (Expr-F.Compare sign left right) is none = ap out-Expr (sym (over_compare keys place_of e left right sign is none)) ∙ ap out-Expr (sym (rolls-Compare sign (Over left) (Over right))) ∙ out-roll-Expr (Expr-F.Compare sign (Over left) (Over right))
  over-out e (Expr-F.IsNull of negated) is none = ap out-Expr (sym (over_null_test keys place_of e of negated is none)) ∙ ap out-Expr (sym (rolls-IsNull (Over of) negated)) ∙ out-roll-Expr (Expr-F.IsNull (Over of) negated)
  over-out e (Expr-F.Like of pattern negated) is none = ap out-Expr (sym (over_like keys place_of e of pattern negated is none)) ∙ ap out-Expr (sym (rolls-Like (Over of) pattern negated)) ∙ out-roll-Expr (Expr-F.Like (Over of) pattern negated)
  over-out e (Expr-F.OneOf of list negated) is none = ap out-Expr (sym (over_one_of keys place_of e of list negated is none)) ∙ ap out-Expr (sym (rolls-OneOf (Over of) (list_over keys place_of list) negated)) ∙ out-roll-Expr (Expr-F.OneOf (Over of) (list_over keys place_of list) negated)
  over-out e (Expr-F.Between of low high negated) is none = ap out-Expr (sym (over_between keys place_of e of low high negated is none)) ∙ ap out-Expr (sym (rolls-Between (Over of) (Over low) (Over high) negated)) ∙ out-roll-Expr (Expr-F.Between (Over of) (Over low) (Over high) negated)

  list-children : (T : Expr → Type 0) (list : List Expr) → AllOf (λ e. T (Over e)) list → AllOf T (list_over keys place_of list)
  list-children T [] all = tt
  list-children T (e ∷ list) all = (all.0, list-children T list all.1)

  link-children : (T : Expr → Type 0) (links : List Link) → AllLinks (λ e. T (Over e)) links → AllLinks T (links_over keys place_of links)
  link-children T [] all = tt
  link-children T (l ∷ links) all = (all.0, link-children T links all.1)

  children-over : (T : Expr → Type 0) (x : Expr-F Expr Link) → Children (λ e. T (Over e)) x → Children T (shape-over x)
  children-over T (Expr-F.Constant value kind) h = tt
  children-over T (Expr-F.Column place kind) h = tt
  children-over T (Expr-F.Not of) h = h
  children-over T (Expr-F.Minus of kind) h = h
  children-over T (Expr-F.Every list) h = list-children T list h
  children-over T (Expr-F.Either list) h = list-children T list h
  children-over T (Expr-F.Chain first links) h = (h.0, link-children T links h.1)
  children-over T (Expr-F.Compare sign left right) h = (h.0, h.1)
  children-over T (Expr-F.IsNull of negated) h = h
  children-over T (Expr-F.Like of pattern negated) h = h
  children-over T (Expr-F.OneOf of list negated) h = (h.0, list-children T list h.1)
  children-over T (Expr-F.Between of low high negated) h = (h.0, h.1, h.2)

  column-out : (place : ℕ) (kind : SqlType) → out-Expr (tree.Column place kind) ≡ Expr-F.Column place kind
  column-out place kind = ap out-Expr (sym (rolls-Column place kind)) ∙ out-roll-Expr (Expr-F.Column place kind)

  -- ---- types stay

  SameKind : Expr → Type 0
  SameKind e = kind_of (Over e) ≡ kind_of e

  links-kinds : (links : List Link) → map link_kind (links_over keys place_of links) ≡ map link_kind links
  links-kinds [] = refl
  links-kinds (l ∷ links) =
      ap (λ (k : SqlType). k ∷ map link_kind (links_over keys place_of links)) (link_kind_is (link_over keys place_of l) ∙ sym (link_kind_is l)) ∙ ap (λ rest. link_kind l ∷ rest) (links-kinds links)

  kind-shape : (x : Expr-F Expr Link) → Children SameKind x → kind_step (map-Expr Expr Link SqlType SqlType kind_of link_kind (shape-over x)) ≡ kind_step (map-Expr Expr Link SqlType SqlType kind_of link_kind x)
  unfolding SameKind
  kind-shape (Expr-F.Constant value kind) h = refl
  kind-shape (Expr-F.Column place kind) h = refl
  kind-shape (Expr-F.Not of) h = refl
  kind-shape (Expr-F.Minus of kind) h = refl
  kind-shape (Expr-F.Every list) h = refl
  kind-shape (Expr-F.Either list) h = refl
  kind-shape (Expr-F.Chain first links) h = ap (λ (k : SqlType). last_kind k (map link_kind (links_over keys place_of links))) h.0 ∙ ap (last_kind (kind_of first)) (links-kinds links)
  kind-shape (Expr-F.Compare sign left right) h = refl
  kind-shape (Expr-F.IsNull of negated) h = refl
  kind-shape (Expr-F.Like of pattern negated) h = refl
  kind-shape (Expr-F.OneOf of list negated) h = refl
  kind-shape (Expr-F.Between of low high negated) h = refl

  kind-node : (e : Expr) (x : Expr-F Expr Link) → out-Expr e ≡ x → Children SameKind x → SameKind e
  unfolding SameKind
  kind-node e x is have = by (key_from 0 keys e) refl
    where
      by : (o : Option ℕ) → o ≡ key_from 0 keys e → kind_of (Over e) ≡ kind_of e
      by (Some key) found = ap kind_of (over_key keys place_of e key found) ∙ kind_out (tree.Column key (kind_of e)) (Expr-F.Column key (kind_of e)) (column-out key (kind_of e))
      by None found = kind_out (Over e) (shape-over x) (over-out e x is found) ∙ kind-shape x have ∙ sym (kind_out e x is)

  pub over-kind : (e : Expr) → kind_of (Over e) ≡ kind_of e
  unfolding SameKind
  over-kind = by-node SameKind kind-node

  -- ---- texts stay

  short-shape : (limit : ℕ) (x : Expr-F Expr Link) → IsShortNode limit x → IsShortNode limit (shape-over x)
  short-shape limit (Expr-F.Constant value kind) h = h
  short-shape limit (Expr-F.Column place kind) h = tt
  short-shape limit (Expr-F.Not of) h = tt
  short-shape limit (Expr-F.Minus of kind) h = tt
  short-shape limit (Expr-F.Every list) h = tt
  short-shape limit (Expr-F.Either list) h = tt
  short-shape limit (Expr-F.Chain first links) h = tt
  short-shape limit (Expr-F.Compare sign left right) h = tt
  short-shape limit (Expr-F.IsNull of negated) h = tt
  short-shape limit (Expr-F.Like of pattern negated) h = tt
  short-shape limit (Expr-F.OneOf of list negated) h = tt
  short-shape limit (Expr-F.Between of low high negated) h = tt

  pub over-short : (limit : ℕ) (e : Expr) → HasShortTexts limit e → HasShortTexts limit (Over e)
  over-short limit = by-node (λ e. HasShortTexts limit e → HasShortTexts limit (Over e)) node
    where
      node : (e : Expr) (x : Expr-F Expr Link) → out-Expr e ≡ x → Children (λ e. HasShortTexts limit e → HasShortTexts limit (Over e)) x → HasShortTexts limit e → HasShortTexts limit (Over e)
      node e x is have short = by (key_from 0 keys e) refl
        where
          by : (o : Option ℕ) → o ≡ key_from 0 keys e → HasShortTexts limit (Over e)
          by (Some key) found = subst (HasShortTexts limit) (sym (over_key keys place_of e key found)) (every_column (IsShortNode limit) key (kind_of e) tt)
          by None found =
              let o = open-node (IsShortNode limit) e x short is in
              close-node (IsShortNode limit) (Over e) (shape-over x) (over-out e x is found) (short-shape limit x o.node)
              (children-over (HasShortTexts limit) x (children-applied (HasShortTexts limit) (λ e. HasShortTexts limit (Over e)) x have o.children))

  -- ---- what is covered is typed over the row of a group

  module _ (seen : Seen) (width : ℕ) (group : List SqlType)
      (of_key : (e : Expr) (key : ℕ) → Some key ≡ key_from 0 keys e → slice_get group key ≡ Some (kind_of e))
      (of_call : (place : ℕ) (kind : SqlType) → width ≤ place → seen place kind → slice_get group (place_of place) ≡ Some kind) where
    kinds-of-list : (P : SqlType → Type 0) (list : List Expr) → AllByRecursion (λ (e : Expr). P (kind_of e)) list → AllByRecursion (λ (e : Expr). P (kind_of e)) (list_over keys place_of list)
    kinds-of-list P [] all = tt
    kinds-of-list P (e ∷ list) all = (subst P (sym (over-kind e)) all.0, kinds-of-list P list all.1)

    links-over : (kind : SqlType) (links : List Link) → AreLinks kind links → AreLinks kind (links_over keys place_of links)
    links-over kind [] are = tt
    links-over kind (l ∷ links) are = (subst (λ (k : SqlType). IsLinked l.sign kind k l.kind) (sym (over-kind l.right)) are.0, links-over l.kind links are.1)

    typed-shape : (x : Expr-F Expr Link) → IsBeyond width x → IsTypedNodeOver seen x → IsTypedNode group (shape-over x)
    typed-shape (Expr-F.Constant value kind) beyond h = h
    typed-shape (Expr-F.Column place kind) beyond h = of_call place kind beyond h
    typed-shape (Expr-F.Not of) beyond h = over-kind of ∙ h
    typed-shape (Expr-F.Minus of kind) beyond h = (h.0, over-kind of ∙ h.1)
    typed-shape (Expr-F.Every list) beyond h = kinds-of-list (λ (k : SqlType). k ≡ Boolean) list h
    typed-shape (Expr-F.Either list) beyond h = kinds-of-list (λ (k : SqlType). k ≡ Boolean) list h
    typed-shape (Expr-F.Chain first links) beyond h =
        (subst IsAmount (sym (over-kind first)) h.0, subst (λ (k : SqlType). AreLinks k (links_over keys place_of links)) (sym (over-kind first)) (links-over (kind_of first) links h.1))
    typed-shape (Expr-F.Compare sign left right) beyond h = subst (λ (k : SqlType). IsComparable k (kind_of (Over right))) (sym (over-kind left)) (subst (IsComparable (kind_of left)) (sym (over-kind right)) h)
    typed-shape (Expr-F.IsNull of negated) beyond h = tt
    typed-shape (Expr-F.Like of pattern negated) beyond h = over-kind of ∙ h
    typed-shape (Expr-F.OneOf of list negated) beyond h =
        subst (λ (k : SqlType). AllByRecursion (λ (e : Expr). IsComparable k (kind_of e)) (list_over keys place_of list)) (sym (over-kind of)) (kinds-of-list (IsComparable (kind_of of)) list h)
    typed-shape (Expr-F.Between of low high negated) beyond h =
        subst (λ (k : SqlType). IsComparable k (kind_of (Over low)) × IsComparable k (kind_of (Over high))) (sym (over-kind of))
        (subst (IsComparable (kind_of of)) (sym (over-kind low)) h.0, subst (IsComparable (kind_of of)) (sym (over-kind high)) h.1)

    at-key : (e : Expr) (key : ℕ) → Some key ≡ key_from 0 keys e → IsTyped group (Over e)
    at-key e key found = subst (IsTyped group) (sym (over_key keys place_of e key found)) (every_column (IsTypedNode group) key (kind_of e) (of_key e key found))

    at-node : (e : Expr) (x : Expr-F Expr Link) → out-Expr e ≡ x → IsBeyond width x → ((child : Expr) → IsChild child x → IsTypedOver seen child → IsTyped group (Over child)) → IsTypedOver seen e
        → (o : Option ℕ) → o ≡ key_from 0 keys e → IsTyped group (Over e)
    at-node e x is beyond have typed (Some key) found = at-key e key found
    at-node e x is beyond have typed None found =
        let o = open-node (IsTypedNodeOver seen) e x typed is in
        close-node (IsTypedNode group) (Over e) (shape-over x) (over-out e x is found) (typed-shape x beyond o.node)
        (children-over (IsTyped group) x (children-applied (IsTypedOver seen) (λ e. IsTyped group (Over e)) x (of-each (λ e. IsTypedOver seen e → IsTyped group (Over e)) x have) o.children))

    as-key : (e : Expr) → is_key keys e ≡ true → (o : Option ℕ) → o ≡ key_from 0 keys e → IsTyped group (Over e)
    as-key e is (Some key) found = at-key e key found
    as-key e is None found = absurd (key-at 0 keys e is (sym found))

    pub over-typed : {e : Expr} → Covered keys width e → IsTypedOver seen e → IsTyped group (Over e)
    over-typed (by_key e is) typed = as-key e is (key_from 0 keys e) refl
    over-typed (by_parts e x is beyond parts) typed = at-node e x is beyond (λ child at. over-typed (parts child at)) typed (key_from 0 keys e) refl
