-- A typed expression names columns that are there, and has values where it is plain.
use Rattle.std.proofs.Common.{◌≡◌, ℕ, zero, suc, ◌<◌, ◌≤◌, List, [], ◌∷◌, ◌++◌, map, length, sym, ap, subst, arith, rules}
use Rattle.std.specs.Prelude.{IsTrue, Some, slice_get}
use Rattle.std.specs.List.{AllByRecursion}
use Rattle.ooc_types.specs.declared.schema.SqlType.{SqlType}
use Rattle.sql_expr.specs.declared.tree.Expr.{Expr}
use Rattle.sql_expr.specs.declared.tree.Link.{Link}
use Rattle.sql_expr.specs.declared.tree.Expr.TheOpen.{Expr-F, Link-F}
use Rattle.sql_expr.specs.declared.tree.Expr.TheFolds.{ind-Expr, map-Expr}
use Rattle.sql_expr.specs.declared.tree.Expr.TheViews.{out-Expr, roll-Expr, out-roll-Expr}
use Rattle.sql_expr.specs.Typing.{IsTyped}
use Rattle.sql_expr.proofs.Faultless.{plain_is_faultless}
use Rattle.sql_expr.proofs.Opened.{AllLinks, AllOf, Children, children_hold, opened_typed}
use Rattle.plan_tree.specs.Columns.{together, columns_of, columns_step, link_columns}
use Rattle.plan_tree.specs.Plannable.{IsSure}
use Rattle.plan_tree.specs.Split.{top, top_of}
use Rattle.plan_tree.proofs.ColumnLemmas.{columns_out, link_columns-is}

pub typed-sure : (columns : List SqlType) (e : Expr) → IsTyped columns e → IsSure e
typed-sure columns e typed plain = record {
  sure = λ row. plain_is_faultless columns e row typed (subst IsTrue (sym plain) (search rules));
  plain = plain;
}

there : (columns : List SqlType) (place : ℕ) (kind : SqlType) → slice_get columns place ≡ Some kind → place < length columns
there [] place kind is = cc
there (k ∷ columns) zero kind is = omega arith
there (k ∷ columns) (suc place) kind is = let h = there columns place kind is in omega arith

top-below : (places : List ℕ) (n : ℕ) → AllByRecursion (λ place. place < n) places → top_of places ≤ n
top-below [] n all = omega arith
top-below (place ∷ places) n all = let h = all.0 in let t = top-below places n all.1 in omega arith

module _ (columns : List SqlType) where
  abbrev Below : List ℕ → Type 0
  Below = AllByRecursion (λ place. place < length columns)

  Named : Expr → Type 0
  Named e = IsTyped columns e → Below (columns_of e)

  both : (xs ys : List ℕ) → Below xs → Below ys → Below (xs ++ ys)
  both [] ys a b = b
  both (x ∷ xs) ys a b = (a.0, both xs ys a.1 b)

  list-below : (list : List Expr) → AllOf Named list → AllOf (IsTyped columns) list → Below (together (map columns_of list))
  unfolding Named
  list-below [] have typed = tt
  list-below (e ∷ list) have typed = both (columns_of e) (together (map columns_of list)) (have.0 typed.0) (list-below list have.1 typed.1)

  links-below : (links : List Link) → AllLinks Named links → AllLinks (IsTyped columns) links → Below (together (map link_columns links))
  unfolding Named
  links-below [] have typed = tt
  links-below (l ∷ links) have typed = both (link_columns l) (together (map link_columns links)) (subst Below (sym (link_columns-is l)) (have.0 typed.0)) (links-below links have.1 typed.1)

  node-below : (e : Expr) (x : Expr-F Expr Link) → out-Expr e ≡ x → Children Named x → IsTyped columns e → Below (columns_step (map-Expr Expr Link (List ℕ) (List ℕ) columns_of link_columns x))
  unfolding Named
  node-below e (Expr-F.Constant value kind) is have typed = tt
  node-below e (Expr-F.Column place kind) is have typed = (there columns place kind (opened_typed columns e (Expr-F.Column place kind) typed is).node, tt)
  node-below e (Expr-F.Not of) is have typed = have (opened_typed columns e (Expr-F.Not of) typed is).children
  node-below e (Expr-F.Minus of kind) is have typed = have (opened_typed columns e (Expr-F.Minus of kind) typed is).children
  node-below e (Expr-F.Every list) is have typed = list-below list have (opened_typed columns e (Expr-F.Every list) typed is).children
  node-below e (Expr-F.Either list) is have typed = list-below list have (opened_typed columns e (Expr-F.Either list) typed is).children
  node-below e (Expr-F.Chain first links) is have typed =
      let n = (opened_typed columns e (Expr-F.Chain first links) typed is).children in
      both (columns_of first) (together (map link_columns links)) (have.0 n.0) (links-below links have.1 n.1)
  node-below e (Expr-F.Compare sign left right) is have typed =
      let n = (opened_typed columns e (Expr-F.Compare sign left right) typed is).children in both (columns_of left) (columns_of right) (have.0 n.0) (have.1 n.1)
  node-below e (Expr-F.IsNull of negated) is have typed = have (opened_typed columns e (Expr-F.IsNull of negated) typed is).children
  node-below e (Expr-F.Like of pattern negated) is have typed = have (opened_typed columns e (Expr-F.Like of pattern negated) typed is).children
  node-below e (Expr-F.OneOf of list negated) is have typed =
      let n = (opened_typed columns e (Expr-F.OneOf of list negated) typed is).children in
      both (columns_of of) (together (map columns_of list)) (have.0 n.0) (list-below list have.1 n.1)
  node-below e (Expr-F.Between of low high negated) is have typed =
      let n = (opened_typed columns e (Expr-F.Between of low high negated) typed is).children in
      both (columns_of of) (columns_of low ++ columns_of high) (have.0 n.0) (both (columns_of low) (columns_of high) (have.1 n.1) (have.2 n.2))

  node-named : (x : Expr-F Expr Link) → Children Named x → Named (roll-Expr x)
  unfolding Named
  node-named x have typed =
      subst Below (sym (columns_out (roll-Expr x) x (out-roll-Expr x))) (node-below (roll-Expr x) x (out-roll-Expr x) have typed)

  named : (e : Expr) → Named e
  named = ind-Expr Named (λ l. Named l.right)
      (λ x y is. node-named x (children_hold Named (λ l. Named l.right) Named (λ e p. p) (λ l p. p) x y is))
      (λ x y is. subst Named (ap (λ (l : Link-F Expr Link). l.right) is) y.right.1)

  pub typed-top : (e : Expr) → IsTyped columns e → top e ≤ length columns
  unfolding Named
  typed-top e typed = top-below (columns_of e) (length columns) (named e typed)
