-- The value of an expression depends on the columns that it names alone.
use Rattle.std.proofs.Common.{◌≡◌, ℕ, true, false, List, [], ◌∷◌, ◌++◌, map, refl, sym, ap, ap₂, ◌∙◌, subst}
use Rattle.std.specs.Prelude.{Ok}
use Rattle.std.specs.List.{AllByRecursion}
use Rattle.ooc_types.specs.declared.value.Value.TheVariants.{Truth}
use Rattle.sql_expr.specs.declared.tree.Expr.{Expr}
use Rattle.sql_expr.specs.declared.tree.Link.{Link}
use Rattle.sql_expr.specs.declared.tree.Expr.TheOpen.{Expr-F, Link-F}
use Rattle.sql_expr.specs.declared.tree.Expr.TheFolds.{fold_out-Expr, fold_out-Link, ind-Expr, map-Expr}
use Rattle.sql_expr.specs.declared.tree.Expr.TheViews.{out-Expr, roll-Expr, roll-Link, out-roll-Expr}
use Rattle.sql_expr.specs.Arithmetic.{Meaning}
use Rattle.sql_expr.specs.Meaning.{LinkMeaning, value_of, value_step, link_step, link_meaning, plain_link, then_value, perhaps_not, every_from, either_from, chain_from, comparison, one_of, between, null_test, liked}
use Rattle.sql_expr.proofs.Nodes.{value_out}
use Rattle.sql_meaning.specs.Found.{Row}
use Rattle.sql_meaning.specs.Ordered.{value_at}
use Rattle.plan_tree.specs.Columns.{together, columns_of, columns_step, link_columns, link_columns_step}

pub all-front : {A : Type 0} (P : A → Type 0) (xs ys : List A) → AllByRecursion P (xs ++ ys) → AllByRecursion P xs
all-front P [] ys all = tt
all-front P (x ∷ xs) ys all = (all.0, all-front P xs ys all.1)

pub all-back : {A : Type 0} (P : A → Type 0) (xs ys : List A) → AllByRecursion P (xs ++ ys) → AllByRecursion P ys
all-back P [] ys all = all
all-back P (x ∷ xs) ys all = all-back P xs ys all.1

pub columns_out : (e : Expr) (x : Expr-F Expr Link) → out-Expr e ≡ x → columns_of e ≡ columns_step (map-Expr Expr Link (List ℕ) (List ℕ) columns_of link_columns x)
columns_out e x is = fold_out-Expr (List ℕ) (List ℕ) columns_step link_columns_step e ∙ ap (λ y. columns_step (map-Expr Expr Link (List ℕ) (List ℕ) columns_of link_columns y)) is

pub link_columns-is : (l : Link) → link_columns l ≡ columns_of l.right
link_columns-is l = fold_out-Link (List ℕ) (List ℕ) columns_step link_columns_step l

link_value : (row : Row) (link : Link) → link_meaning row link ≡ plain_link row link
link_value row link = fold_out-Link Meaning LinkMeaning (value_step row) link_step link

module _ (row other : Row) where
  abbrev Agree : List ℕ → Type 0
  Agree = AllByRecursion (λ place. value_at place row ≡ value_at place other)

  Same : Expr → Type 0
  Same e = Agree (columns_of e) → value_of row e ≡ value_of other e

  SameLink : Link → Type 0
  SameLink l = Agree (link_columns l) → link_meaning row l ≡ link_meaning other l

  list_same : (list : List ((e : Expr) × Same e)) → Agree (together (map columns_of (map (λ e. e.0) list))) → map (value_of row) (map (λ e. e.0) list) ≡ map (value_of other) (map (λ e. e.0) list)
  unfolding Same
  list_same [] agree = refl
  list_same (e ∷ list) agree =
      ap₂ ◌∷◌ (e.1 (all-front (λ place. value_at place row ≡ value_at place other) (columns_of e.0) (together (map columns_of (map (λ e. e.0) list))) agree))
      (list_same list (all-back (λ place. value_at place row ≡ value_at place other) (columns_of e.0) (together (map columns_of (map (λ e. e.0) list))) agree))

  links_same : (list : List ((l : Link) × SameLink l)) → Agree (together (map link_columns (map (λ l. l.0) list))) → map (link_meaning row) (map (λ l. l.0) list) ≡ map (link_meaning other) (map (λ l. l.0) list)
  unfolding SameLink
  links_same [] agree = refl
  links_same (l ∷ list) agree =
      ap₂ ◌∷◌ (l.1 (all-front (λ place. value_at place row ≡ value_at place other) (link_columns l.0) (together (map link_columns (map (λ l. l.0) list))) agree))
      (links_same list (all-back (λ place. value_at place row ≡ value_at place other) (link_columns l.0) (together (map link_columns (map (λ l. l.0) list))) agree))

  node_same : (y : Expr-F ((e : Expr) × Same e) ((l : Link) × SameLink l))
      → Agree (columns_step (map-Expr Expr Link (List ℕ) (List ℕ) columns_of link_columns (map-Expr ((e : Expr) × Same e) ((l : Link) × SameLink l) Expr Link (λ e. e.0) (λ l. l.0) y)))
      → value_step row (map-Expr Expr Link Meaning LinkMeaning (value_of row) (link_meaning row) (map-Expr ((e : Expr) × Same e) ((l : Link) × SameLink l) Expr Link (λ e. e.0) (λ l. l.0) y))
      ≡ value_step other (map-Expr Expr Link Meaning LinkMeaning (value_of other) (link_meaning other) (map-Expr ((e : Expr) × Same e) ((l : Link) × SameLink l) Expr Link (λ e. e.0) (λ l. l.0) y))
  unfolding Same SameLink
  node_same (Expr-F.Constant value kind) agree = refl
  node_same (Expr-F.Column place kind) agree = ap Ok agree.0
  node_same (Expr-F.Not of) agree = ap (λ m. then_value m (perhaps_not true)) (of.1 agree)
  node_same (Expr-F.Minus of kind) agree = ap (λ m. value_step row (Expr-F.Minus m kind)) (of.1 agree)
  node_same (Expr-F.Every list) agree = ap (every_from (Ok (Truth true))) (list_same list agree)
  node_same (Expr-F.Either list) agree = ap (either_from (Ok (Truth false))) (list_same list agree)
  node_same (Expr-F.Chain first links) agree =
      ap₂ chain_from (first.1 (all-front (λ place. value_at place row ≡ value_at place other) (columns_of first.0) (together (map link_columns (map (λ l. l.0) links))) agree))
      (links_same links (all-back (λ place. value_at place row ≡ value_at place other) (columns_of first.0) (together (map link_columns (map (λ l. l.0) links))) agree))
  node_same (Expr-F.Compare sign left right) agree =
      ap₂ (comparison sign) (left.1 (all-front (λ place. value_at place row ≡ value_at place other) (columns_of left.0) (columns_of right.0) agree))
      (right.1 (all-back (λ place. value_at place row ≡ value_at place other) (columns_of left.0) (columns_of right.0) agree))
  node_same (Expr-F.IsNull of negated) agree = ap (λ m. then_value m (λ v. Ok (null_test negated v))) (of.1 agree)
  node_same (Expr-F.Like of pattern negated) agree = ap (λ m. then_value m (λ v. perhaps_not negated (liked pattern v))) (of.1 agree)
  node_same (Expr-F.OneOf of list negated) agree =
      ap (λ m. then_value m (perhaps_not negated))
      (ap₂ one_of (of.1 (all-front (λ place. value_at place row ≡ value_at place other) (columns_of of.0) (together (map columns_of (map (λ e. e.0) list))) agree))
      (list_same list (all-back (λ place. value_at place row ≡ value_at place other) (columns_of of.0) (together (map columns_of (map (λ e. e.0) list))) agree)))
  node_same (Expr-F.Between of low high negated) agree =
      let rest = all-back (λ place. value_at place row ≡ value_at place other) (columns_of of.0) (columns_of low.0 ++ columns_of high.0) agree in
      let a = of.1 (all-front (λ place. value_at place row ≡ value_at place other) (columns_of of.0) (columns_of low.0 ++ columns_of high.0) agree) in
      let b = low.1 (all-front (λ place. value_at place row ≡ value_at place other) (columns_of low.0) (columns_of high.0) rest) in
      let c = high.1 (all-back (λ place. value_at place row ≡ value_at place other) (columns_of low.0) (columns_of high.0) rest) in
      ap (λ m. then_value m (perhaps_not negated)) (λ i. between (a i) (b i) (c i))

  expr_same : (x : Expr-F Expr Link) (y : Expr-F ((e : Expr) × Same e) ((l : Link) × SameLink l))
      → map-Expr ((e : Expr) × Same e) ((l : Link) × SameLink l) Expr Link (λ e. e.0) (λ l. l.0) y ≡ x → Same (roll-Expr x)
  unfolding Same
  expr_same x y is agree =
      let here = columns_out (roll-Expr x) x (out-roll-Expr x) ∙ ap (λ z. columns_step (map-Expr Expr Link (List ℕ) (List ℕ) columns_of link_columns z)) (sym is) in
      value_out row (roll-Expr x) x (out-roll-Expr x)
      ∙ subst (λ z. value_step row (map-Expr Expr Link Meaning LinkMeaning (value_of row) (link_meaning row) z)
      ≡ value_step other (map-Expr Expr Link Meaning LinkMeaning (value_of other) (link_meaning other) z)) is (node_same y (subst Agree here agree))
      ∙ sym (value_out other (roll-Expr x) x (out-roll-Expr x))

  link_same : (l : Link) → Same l.right → SameLink l
  unfolding Same SameLink
  link_same l h agree =
      link_value row l ∙ (λ i. record { sign = l.sign; kind = l.kind; right = h (subst Agree (link_columns-is l) agree) i }) ∙ sym (link_value other l)

  pub value-agrees : (e : Expr) → Agree (columns_of e) → value_of row e ≡ value_of other e
  unfolding Same SameLink
  value-agrees = ind-Expr Same SameLink expr_same (λ x y is. link_same (roll-Link x) (subst Same (ap (λ (l : Link-F Expr Link). l.right) is) y.right.1))
