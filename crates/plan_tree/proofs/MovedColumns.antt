-- The columns of an expression whose columns were moved.
use Rattle.std.proofs.Common.{◌≡◌, ℕ, zero, suc, ◌<◌, List, [], ◌∷◌, ◌++◌, map, length, get_or, refl, sym, ap, ap₂, ◌∙◌, subst, arith}
use Rattle.std.specs.Prelude.{slice_get}
use Rattle.std.specs.List.{AllByRecursion}
use Rattle.ooc_types.specs.declared.schema.SqlType.{SqlType}
use Rattle.sql_expr.specs.declared.tree.Expr.{Expr}
use Rattle.sql_expr.specs.declared.tree.Link.{Link}
use Rattle.sql_expr.specs.declared.tree.Expr.TheOpen.{Expr-F, Link-F}
use Rattle.sql_expr.specs.declared.tree.Expr.TheFolds.{fold_out-Expr, fold_out-Link, ind-Expr, map-Expr}
use Rattle.sql_expr.specs.declared.tree.Expr.TheViews.{roll-Expr, roll-Link, out-roll-Expr}
use Rattle.sql_meaning.specs.Moved.{moved_column, moved_node, moved, moved_link}
use Rattle.plan_tree.specs.Columns.{together, columns_of, columns_step, link_columns}
use Rattle.plan_tree.proofs.ColumnLemmas.{columns_out, link_columns-is, all-front, all-back}
use Rattle.plan_tree.proofs.JoinLemmas.{map-over}

module _ (places : List ℕ) where
  abbrev pub Placed : List ℕ → Type 0
  Placed = AllByRecursion (λ c. c < length places)

  abbrev pub put : ℕ → ℕ
  put c = get_or places c 0

  Same : Expr → Type 0
  Same e = Placed (columns_of e) → columns_of (moved places e) ≡ map put (columns_of e)

  SameLink : Link → Type 0
  SameLink l = Placed (link_columns l) → link_columns (moved_link places l) ≡ map put (link_columns l)

  list_same : (list : List ((e : Expr) × Same e)) → Placed (together (map columns_of (map (λ e. e.0) list)))
      → together (map columns_of (map (moved places) (map (λ e. e.0) list))) ≡ map put (together (map columns_of (map (λ e. e.0) list)))
  unfolding Same
  list_same [] placed = refl
  list_same (e ∷ list) placed =
      ap₂ ◌++◌ (e.1 (all-front (λ c. c < length places) (columns_of e.0) (together (map columns_of (map (λ e. e.0) list))) placed))
      (list_same list (all-back (λ c. c < length places) (columns_of e.0) (together (map columns_of (map (λ e. e.0) list))) placed))
      ∙ sym (map-over put (columns_of e.0) (together (map columns_of (map (λ e. e.0) list))))

  links_same : (list : List ((l : Link) × SameLink l)) → Placed (together (map link_columns (map (λ l. l.0) list)))
      → together (map link_columns (map (moved_link places) (map (λ l. l.0) list))) ≡ map put (together (map link_columns (map (λ l. l.0) list)))
  unfolding SameLink
  links_same [] placed = refl
  links_same (l ∷ list) placed =
      ap₂ ◌++◌ (l.1 (all-front (λ c. c < length places) (link_columns l.0) (together (map link_columns (map (λ l. l.0) list))) placed))
      (links_same list (all-back (λ c. c < length places) (link_columns l.0) (together (map link_columns (map (λ l. l.0) list))) placed))
      ∙ sym (map-over put (link_columns l.0) (together (map link_columns (map (λ l. l.0) list))))

  two_same : (a b c d : List ℕ) → a ≡ map put c → b ≡ map put d → a ++ b ≡ map put (c ++ d)
  two_same a b c d p q = ap₂ ◌++◌ p q ∙ sym (map-over put c d)

  column_same : (ps : List ℕ) (place : ℕ) (kind : SqlType) → place < length ps
      → columns_step (map-Expr Expr Link (List ℕ) (List ℕ) columns_of link_columns (moved_column (slice_get ps place) kind)) ≡ get_or ps place 0 ∷ []
  column_same [] place kind below = absurd (omega arith)
  column_same (p ∷ ps) zero kind below = refl
  column_same (p ∷ ps) (suc place) kind below = column_same ps place kind (omega arith)

  node_same : (y : Expr-F ((e : Expr) × Same e) ((l : Link) × SameLink l))
      → Placed (columns_step (map-Expr Expr Link (List ℕ) (List ℕ) columns_of link_columns (map-Expr ((e : Expr) × Same e) ((l : Link) × SameLink l) Expr Link (λ e. e.0) (λ l. l.0) y)))
      → columns_step (map-Expr Expr Link (List ℕ) (List ℕ) columns_of link_columns (moved_node places (map-Expr Expr Link Expr Link (moved places) (moved_link places) (map-Expr ((e : Expr) × Same e) ((l : Link) × SameLink l) Expr Link (λ e. e.0) (λ l. l.0) y))))
      ≡ map put (columns_step (map-Expr Expr Link (List ℕ) (List ℕ) columns_of link_columns (map-Expr ((e : Expr) × Same e) ((l : Link) × SameLink l) Expr Link (λ e. e.0) (λ l. l.0) y)))
  unfolding Same SameLink
  node_same (Expr-F.Constant value kind) placed = refl
  node_same (Expr-F.Column place kind) placed = column_same places place kind placed.0
  node_same (Expr-F.Not of) placed = of.1 placed
  node_same (Expr-F.Minus of kind) placed = of.1 placed
  node_same (Expr-F.Every list) placed = list_same list placed
  node_same (Expr-F.Either list) placed = list_same list placed
  node_same (Expr-F.Chain first links) placed =
      two_same (columns_of (moved places first.0)) (together (map link_columns (map (moved_link places) (map (λ l. l.0) links)))) (columns_of first.0) (together (map link_columns (map (λ l. l.0) links)))
      (first.1 (all-front (λ c. c < length places) (columns_of first.0) (together (map link_columns (map (λ l. l.0) links))) placed))
      (links_same links (all-back (λ c. c < length places) (columns_of first.0) (together (map link_columns (map (λ l. l.0) links))) placed))
  node_same (Expr-F.Compare sign left right) placed =
      two_same (columns_of (moved places left.0)) (columns_of (moved places right.0)) (columns_of left.0) (columns_of right.0)
      (left.1 (all-front (λ c. c < length places) (columns_of left.0) (columns_of right.0) placed)) (right.1 (all-back (λ c. c < length places) (columns_of left.0) (columns_of right.0) placed))
  node_same (Expr-F.IsNull of negated) placed = of.1 placed
  node_same (Expr-F.Like of pattern negated) placed = of.1 placed
  node_same (Expr-F.OneOf of list negated) placed =
      two_same (columns_of (moved places of.0)) (together (map columns_of (map (moved places) (map (λ e. e.0) list)))) (columns_of of.0) (together (map columns_of (map (λ e. e.0) list)))
      (of.1 (all-front (λ c. c < length places) (columns_of of.0) (together (map columns_of (map (λ e. e.0) list))) placed))
      (list_same list (all-back (λ c. c < length places) (columns_of of.0) (together (map columns_of (map (λ e. e.0) list))) placed))
  node_same (Expr-F.Between of low high negated) placed =
      let rest = all-back (λ c. c < length places) (columns_of of.0) (columns_of low.0 ++ columns_of high.0) placed in
      two_same (columns_of (moved places of.0)) (columns_of (moved places low.0) ++ columns_of (moved places high.0)) (columns_of of.0) (columns_of low.0 ++ columns_of high.0)
      (of.1 (all-front (λ c. c < length places) (columns_of of.0) (columns_of low.0 ++ columns_of high.0) placed))
      (two_same (columns_of (moved places low.0)) (columns_of (moved places high.0)) (columns_of low.0) (columns_of high.0)
      (low.1 (all-front (λ c. c < length places) (columns_of low.0) (columns_of high.0) rest)) (high.1 (all-back (λ c. c < length places) (columns_of low.0) (columns_of high.0) rest)))

  moved_out : (x : Expr-F Expr Link) → moved places (roll-Expr x) ≡ roll-Expr (moved_node places (map-Expr Expr Link Expr Link (moved places) (moved_link places) x))
  moved_out x =
      fold_out-Expr Expr Link (λ x. roll-Expr (moved_node places x)) roll-Link (roll-Expr x)
      ∙ ap (λ z. roll-Expr (moved_node places (map-Expr Expr Link Expr Link (moved places) (moved_link places) z))) (out-roll-Expr x)

  expr_same : (x : Expr-F Expr Link) (y : Expr-F ((e : Expr) × Same e) ((l : Link) × SameLink l))
      → map-Expr ((e : Expr) × Same e) ((l : Link) × SameLink l) Expr Link (λ e. e.0) (λ l. l.0) y ≡ x → Same (roll-Expr x)
  unfolding Same
  expr_same x y is placed =
      let here = columns_out (roll-Expr x) x (out-roll-Expr x) in
      let whole = here ∙ ap (λ z. columns_step (map-Expr Expr Link (List ℕ) (List ℕ) columns_of link_columns z)) (sym is) in
      let node = moved_node places (map-Expr Expr Link Expr Link (moved places) (moved_link places) x) in
      ap columns_of (moved_out x)
      ∙ columns_out (roll-Expr node) node (out-roll-Expr node)
      ∙ subst (λ z. columns_step (map-Expr Expr Link (List ℕ) (List ℕ) columns_of link_columns (moved_node places (map-Expr Expr Link Expr Link (moved places) (moved_link places) z)))
      ≡ map put (columns_step (map-Expr Expr Link (List ℕ) (List ℕ) columns_of link_columns z))) is (node_same y (subst Placed whole placed))
      ∙ sym (ap (map put) here)

  link_same : (l : Link) → Same l.right → SameLink l
  unfolding Same SameLink
  link_same l h placed =
      ap link_columns (fold_out-Link Expr Link (λ x. roll-Expr (moved_node places x)) roll-Link l)
      ∙ link_columns-is (roll-Link (record { sign = l.sign; right = moved places l.right; kind = l.kind }))
      ∙ h (subst Placed (link_columns-is l) placed)
      ∙ sym (ap (map put) (link_columns-is l))

  pub columns-moved : (e : Expr) → Placed (columns_of e) → columns_of (moved places e) ≡ map put (columns_of e)
  unfolding Same SameLink
  columns-moved = ind-Expr Same SameLink expr_same (λ x y is. link_same (roll-Link x) (subst Same (ap (λ (l : Link-F Expr Link). l.right) is) y.right.1))
