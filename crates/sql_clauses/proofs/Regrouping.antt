-- A tree over the row of a group, by its outermost node.
use Rattle.std.proofs.Common.{◌≡◌, ℕ, ◌+◌, ◌<◌, ◌≤◌, Bool, List, [], ◌∷◌, ◌++◌, map, refl, sym, ap, ◌∙◌, subst, get_or, drop, length}
use Rattle.std.proofs.Math.Seq.{append_snoc}
use Rattle.std.specs.Prelude.{Some, None, Result, Ok, Err, IfOk}
use Rattle.ooc_types.specs.declared.memory.OutOfMemory.{OutOfMemory}
use Rattle.ooc_types.specs.declared.schema.SqlType.{SqlType}
use Rattle.ooc_types.specs.declared.value.Value.{Value}
use Rattle.sql_expr.specs.declared.tree.CompareSign.{CompareSign}
use Rattle.sql_expr.specs.declared.tree.Expr.{Expr}
use Rattle.sql_expr.specs.declared.tree.Link.{Link}
use Rattle.sql_expr.specs.declared.tree.Expr.TheVariants as typed
use Rattle.sql_expr.specs.declared.tree.Expr.TheOpen.{Expr-F, Link-F}
use Rattle.sql_expr.specs.declared.tree.Expr.TheFolds.{fold-Expr, fold-Link, fold_out-Expr, fold_out-Link, ind-Expr, map-Expr}
use Rattle.sql_expr.specs.declared.tree.Expr.TheViews.{out-Expr, roll-Expr, roll-Link, out-roll-Expr}
use Rattle.sql_expr.specs.Kinds.{kind_of}
use Rattle.sql_scope.proofs.Finding.{item_behind, nothing_behind}
use Rattle.sql_clauses.specs.Makes.{MakesBoth}
use Rattle.sql_clauses.specs.Grouping.{Regrouped, RegroupedLink, regrouped_step, regrouped_link_step, key_from, covered, uncovered, written, over_group, list_over, link_over, links_over}
use Rattle.sql_clauses.proofs.MakesLaws.{makes}

module _ (keys : List Expr) (place_of : ℕ → ℕ) where
  abbrev G : Expr → Regrouped
  G = fold-Expr Regrouped RegroupedLink (regrouped_step keys place_of) regrouped_link_step

  abbrev GL : Link → RegroupedLink
  GL = fold-Link Regrouped RegroupedLink (regrouped_step keys place_of) regrouped_link_step

  Same : Expr → Type 0
  Same e = (G e).tree ≡ e

  SameLink : Link → Type 0
  SameLink l = (GL l).tree ≡ l

  list_same : (list : List ((e : Expr) × Same e)) → map (λ r. r.tree) (map G (map (λ e. e.0) list)) ≡ map (λ e. e.0) list
  unfolding Same
  list_same [] = refl
  list_same (e ∷ list) = ap (λ a. a ∷ map (λ r. r.tree) (map G (map (λ e. e.0) list))) e.1 ∙ ap (λ rest. e.0 ∷ rest) (list_same list)

  links_same : (list : List ((l : Link) × SameLink l)) → map (λ r. r.tree) (map GL (map (λ l. l.0) list)) ≡ map (λ l. l.0) list
  unfolding SameLink
  links_same [] = refl
  links_same (l ∷ list) = ap (λ a. a ∷ map (λ r. r.tree) (map GL (map (λ l. l.0) list))) l.1 ∙ ap (λ rest. l.0 ∷ rest) (links_same list)

  node_same : (y : Expr-F ((e : Expr) × Same e) ((l : Link) × SameLink l))
      → written (map-Expr Expr Link Regrouped RegroupedLink G GL (map-Expr ((e : Expr) × Same e) ((l : Link) × SameLink l) Expr Link (λ e. e.0) (λ l. l.0) y))
      ≡ roll-Expr (map-Expr ((e : Expr) × Same e) ((l : Link) × SameLink l) Expr Link (λ e. e.0) (λ l. l.0) y)
  unfolding Same SameLink
  node_same (Expr-F.Constant value kind) = refl
  node_same (Expr-F.Column place kind) = refl
  node_same (Expr-F.Not of) = ap (λ a. roll-Expr (Expr-F.Not a)) of.1
  node_same (Expr-F.Minus of kind) = ap (λ a. roll-Expr (Expr-F.Minus a kind)) of.1
  node_same (Expr-F.Every list) = ap (λ a. roll-Expr (Expr-F.Every a)) (list_same list)
  node_same (Expr-F.Either list) = ap (λ a. roll-Expr (Expr-F.Either a)) (list_same list)
  node_same (Expr-F.Chain first links) =
      ap (λ a. roll-Expr (Expr-F.Chain a (map (λ r. r.tree) (map GL (map (λ l. l.0) links))))) first.1 ∙ ap (λ b. roll-Expr (Expr-F.Chain first.0 b)) (links_same links)
  node_same (Expr-F.Compare sign left right) =
      ap (λ a. roll-Expr (Expr-F.Compare sign a (G right.0).tree)) left.1 ∙ ap (λ b. roll-Expr (Expr-F.Compare sign left.0 b)) right.1
  node_same (Expr-F.IsNull of negated) = ap (λ a. roll-Expr (Expr-F.IsNull a negated)) of.1
  node_same (Expr-F.Like of pattern negated) = ap (λ a. roll-Expr (Expr-F.Like a pattern negated)) of.1
  node_same (Expr-F.OneOf of list negated) =
      ap (λ a. roll-Expr (Expr-F.OneOf a (map (λ r. r.tree) (map G (map (λ e. e.0) list))) negated)) of.1 ∙ ap (λ b. roll-Expr (Expr-F.OneOf of.0 b negated)) (list_same list)
  node_same (Expr-F.Between of low high negated) =
      ap (λ a. roll-Expr (Expr-F.Between a (G low.0).tree (G high.0).tree negated)) of.1
      ∙ ap (λ b. roll-Expr (Expr-F.Between of.0 b (G high.0).tree negated)) low.1
      ∙ ap (λ d. roll-Expr (Expr-F.Between of.0 low.0 d negated)) high.1

  -- what the fold keeps beside is the tree itself
  rolled : (e : Expr) (x : Expr-F Expr Link) → out-Expr e ≡ x → G e ≡ regrouped_step keys place_of (map-Expr Expr Link Regrouped RegroupedLink G GL x)
  rolled e x is =
      fold_out-Expr Regrouped RegroupedLink (regrouped_step keys place_of) regrouped_link_step e
      ∙ ap (λ y. regrouped_step keys place_of (map-Expr Expr Link Regrouped RegroupedLink G GL y)) is

  expr_same : (x : Expr-F Expr Link) (y : Expr-F ((e : Expr) × Same e) ((l : Link) × SameLink l))
      → map-Expr ((e : Expr) × Same e) ((l : Link) × SameLink l) Expr Link (λ e. e.0) (λ l. l.0) y ≡ x → Same (roll-Expr x)
  unfolding Same
  expr_same x y is =
      ap (λ (r : Regrouped). r.tree) (rolled (roll-Expr x) x (out-roll-Expr x))
      ∙ subst (λ z. written (map-Expr Expr Link Regrouped RegroupedLink G GL z) ≡ roll-Expr z) is (node_same y)

  link_same : (l : Link) → Same l.right → SameLink l
  unfolding Same SameLink
  link_same l h =
      ap (λ (r : RegroupedLink). r.tree) (fold_out-Link Regrouped RegroupedLink (regrouped_step keys place_of) regrouped_link_step l)
      ∙ (λ i. record { sign = l.sign; right = h i; kind = l.kind })

  tree_same : (e : Expr) → (G e).tree ≡ e
  unfolding Same SameLink
  tree_same = ind-Expr Same SameLink expr_same (λ x y is. link_same (roll-Link x) (subst Same (ap (λ (l : Link-F Expr Link). l.right) is) y.right.1))

  written_is : (e : Expr) (x : Expr-F Expr Link) → out-Expr e ≡ x → written (map-Expr Expr Link Regrouped RegroupedLink G GL x) ≡ e
  written_is e x is = sym (ap (λ (r : Regrouped). r.tree) (rolled e x is)) ∙ tree_same e

  -- a key is its column
  pub over_key : (e : Expr) (key : ℕ) → Some key ≡ key_from 0 keys e → over_group keys place_of e ≡ typed.Column key (kind_of e)
  over_key e key found =
      ap (λ (r : Regrouped). r.over) (rolled e (out-Expr e) refl)
      ∙ ap (λ t. covered place_of (key_from 0 keys t) (map-Expr Expr Link Regrouped RegroupedLink G GL (out-Expr e))) (written_is e (out-Expr e) refl)
      ∙ ap (λ k. covered place_of k (map-Expr Expr Link Regrouped RegroupedLink G GL (out-Expr e))) (sym found)
      ∙ ap (λ t. typed.Column key (kind_of t)) (written_is e (out-Expr e) refl)

  -- what is no key goes on with its operands
  pub over_node : (e : Expr) (x : Expr-F Expr Link) → out-Expr e ≡ x → None ≡ key_from 0 keys e
      → over_group keys place_of e ≡ uncovered place_of (map-Expr Expr Link Regrouped RegroupedLink G GL x)
  over_node e x is found =
      ap (λ (r : Regrouped). r.over) (rolled e x is)
      ∙ ap (λ t. covered place_of (key_from 0 keys t) (map-Expr Expr Link Regrouped RegroupedLink G GL x)) (written_is e x is)
      ∙ ap (λ k. covered place_of k (map-Expr Expr Link Regrouped RegroupedLink G GL x)) (sym found)

  list_overs : (list : List Expr) → map (λ r. r.over) (map G list) ≡ list_over keys place_of list
  list_overs [] = refl
  list_overs (e ∷ list) = ap (λ rest. (G e).over ∷ rest) (list_overs list)

  links_overs : (links : List Link) → map (λ r. r.over) (map GL links) ≡ links_over keys place_of links
  links_overs [] = refl
  links_overs (l ∷ links) =
      ap (λ a. a ∷ map (λ r. r.over) (map GL links)) (ap (λ (r : RegroupedLink). r.over) (fold_out-Link Regrouped RegroupedLink (regrouped_step keys place_of) regrouped_link_step l))
      ∙ ap (λ rest. link_over keys place_of l ∷ rest) (links_overs links)

  pub over_constant : (e : Expr) (value : Value) (kind : SqlType) → out-Expr e ≡ Expr-F.Constant value kind → None ≡ key_from 0 keys e → typed.Constant value kind ≡ over_group keys place_of e
  unfolding roll-Expr denote.Hole.Carrier.roll
  over_constant e value kind is found = sym (over_node e (Expr-F.Constant value kind) is found)

  pub over_column : (e : Expr) (place : ℕ) (kind : SqlType) → out-Expr e ≡ Expr-F.Column place kind → None ≡ key_from 0 keys e → typed.Column (place_of place) kind ≡ over_group keys place_of e
  unfolding roll-Expr denote.Hole.Carrier.roll
  over_column e place kind is found = sym (over_node e (Expr-F.Column place kind) is found)

  pub over_not : (e of : Expr) → out-Expr e ≡ Expr-F.Not of → None ≡ key_from 0 keys e → typed.Not (over_group keys place_of of) ≡ over_group keys place_of e
  unfolding roll-Expr denote.Hole.Carrier.roll
  over_not e of is found = sym (over_node e (Expr-F.Not of) is found)

  pub over_minus : (e of : Expr) (kind : SqlType) → out-Expr e ≡ Expr-F.Minus of kind → None ≡ key_from 0 keys e → typed.Minus (over_group keys place_of of) kind ≡ over_group keys place_of e
  unfolding roll-Expr denote.Hole.Carrier.roll
  over_minus e of kind is found = sym (over_node e (Expr-F.Minus of kind) is found)

  pub over_compare : (e left right : Expr) (sign : CompareSign) → out-Expr e ≡ Expr-F.Compare sign left right → None ≡ key_from 0 keys e
      → typed.Compare sign (over_group keys place_of left) (over_group keys place_of right) ≡ over_group keys place_of e
  unfolding roll-Expr denote.Hole.Carrier.roll
  over_compare e left right sign is found = sym (over_node e (Expr-F.Compare sign left right) is found)

  pub over_null_test : (e of : Expr) (negated : Bool) → out-Expr e ≡ Expr-F.IsNull of negated → None ≡ key_from 0 keys e → typed.IsNull (over_group keys place_of of) negated ≡ over_group keys place_of e
  unfolding roll-Expr denote.Hole.Carrier.roll
  over_null_test e of negated is found = sym (over_node e (Expr-F.IsNull of negated) is found)

  pub over_like : (e of : Expr) (pattern : List ℕ) (negated : Bool) → out-Expr e ≡ Expr-F.Like of pattern negated → None ≡ key_from 0 keys e
      → typed.Like (over_group keys place_of of) pattern negated ≡ over_group keys place_of e
  unfolding roll-Expr denote.Hole.Carrier.roll
  over_like e of pattern negated is found = sym (over_node e (Expr-F.Like of pattern negated) is found)

  pub over_between : (e of low high : Expr) (negated : Bool) → out-Expr e ≡ Expr-F.Between of low high negated → None ≡ key_from 0 keys e
      → typed.Between (over_group keys place_of of) (over_group keys place_of low) (over_group keys place_of high) negated ≡ over_group keys place_of e
  unfolding roll-Expr denote.Hole.Carrier.roll
  over_between e of low high negated is found = sym (over_node e (Expr-F.Between of low high negated) is found)

  pub over_every : (e : Expr) (list : List Expr) → out-Expr e ≡ Expr-F.Every list → None ≡ key_from 0 keys e → typed.Every (list_over keys place_of list) ≡ over_group keys place_of e
  unfolding roll-Expr denote.Hole.Carrier.roll
  over_every e list is found = ap (λ a. typed.Every a) (sym (list_overs list)) ∙ sym (over_node e (Expr-F.Every list) is found)

  pub over_either : (e : Expr) (list : List Expr) → out-Expr e ≡ Expr-F.Either list → None ≡ key_from 0 keys e → typed.Either (list_over keys place_of list) ≡ over_group keys place_of e
  unfolding roll-Expr denote.Hole.Carrier.roll
  over_either e list is found = ap (λ a. typed.Either a) (sym (list_overs list)) ∙ sym (over_node e (Expr-F.Either list) is found)

  pub over_chain : (e first : Expr) (links : List Link) → out-Expr e ≡ Expr-F.Chain first links → None ≡ key_from 0 keys e
      → typed.Chain (over_group keys place_of first) (links_over keys place_of links) ≡ over_group keys place_of e
  unfolding roll-Expr denote.Hole.Carrier.roll
  over_chain e first links is found =
      ap (λ a. typed.Chain (over_group keys place_of first) a) (sym (links_overs links)) ∙ sym (over_node e (Expr-F.Chain first links) is found)

  pub over_one_of : (e of : Expr) (list : List Expr) (negated : Bool) → out-Expr e ≡ Expr-F.OneOf of list negated → None ≡ key_from 0 keys e
      → typed.OneOf (over_group keys place_of of) (list_over keys place_of list) negated ≡ over_group keys place_of e
  unfolding roll-Expr denote.Hole.Carrier.roll
  over_one_of e of list negated is found =
      ap (λ a. typed.OneOf (over_group keys place_of of) a negated) (sym (list_overs list)) ∙ sym (over_node e (Expr-F.OneOf of list negated) is found)

-- what is done of a list, and what is left, is the whole
abbrev pub Rest : {A B : Type 0} → (A → B) → List B → Result (List B) OutOfMemory → List A → Type 0
Rest f whole got left = IfOk got (λ done. done ++ map f left ≡ whole)

more : {B : Type 0} (done : List B) (b : B) (rest whole : List B) (result : Result (List B) OutOfMemory)
    → done ++ b ∷ rest ≡ whole → IfOk result (λ r. r ≡ done ++ b ∷ []) → IfOk result (λ r. r ++ rest ≡ whole)
more done b rest whole (Err e) far made = tt
more done b rest whole (Ok r) far made = ap (λ a. a ++ rest) made ∙ append_snoc done b rest ∙ far

faulty : {A B : Type 0} (f : A → B) (whole : List B) (fault : OutOfMemory) (result : Result (List B) OutOfMemory) (left : List A) → result ≡ Err fault → Rest f whole result left
faulty f whole fault (Err e) left is = tt
faulty f whole fault (Ok r) left is = cc

-- one item more
pub more_done : {A B C : Type 0} (f : A → B) (g : C → B) (whole : List B) (got result : Result (List B) OutOfMemory) (there : Result C OutOfMemory) (c : C) (list : List A) (i : ℕ) (x : A)
    → i < length list → x ≡ get_or list i x → f x ≡ g c → Rest f whole got (drop i list) → IfOk there (λ t. t ≡ c)
    → MakesBoth (λ done t. done ++ g t ∷ []) got there result → Rest f whole result (drop (i + 1) list)
more_done f g whole (Err e) result there c list i x h is same far given on = faulty f whole e result (drop (i + 1) list) on
more_done f g whole (Ok done) result there c list i x h is same far given on =
    more done (g c) (map f (drop (i + 1) list)) whole result
    (ap (λ b. done ++ b ∷ map f (drop (i + 1) list)) (sym same) ∙ sym (ap (λ l. done ++ map f l) (item_behind list i x h is)) ∙ far)
    (makes (λ t. done ++ g t ∷ []) c there result given on)

pub all_made : {A B : Type 0} (f : A → B) (whole : List B) (got : Result (List B) OutOfMemory) (list : List A) (i : ℕ) → length list ≤ i → Rest f whole got (drop i list) → IfOk got (λ r. r ≡ whole)
all_made f whole (Err e) list i h far = tt
all_made f whole (Ok done) list i h far = sym (nothing_more done) ∙ sym (ap (λ l. done ++ map f l) (nothing_behind list i h)) ∙ far
  where
    nothing_more : {B : Type 0} (done : List B) → done ++ [] ≡ done
    nothing_more [] = refl
    nothing_more (b ∷ done) = ap (λ rest. b ∷ rest) (nothing_more done)
