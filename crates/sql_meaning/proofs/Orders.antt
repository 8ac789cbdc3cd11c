-- The order of rows is total, and rows that tie in it are equal.
use Rattle.std.proofs.Common.{◌≡◌, Bool, true, false, List, [], ◌∷◌, refl, ap, ap₂, ◌∙◌, Ordering, Less, Equal, Greater}
use Rattle.std.specs.Ordering.{ordering_then, ordering_reverse, on, is_gt}
use Rattle.std.specs.Cmp.{IsTotalOrder}
use Rattle.std.specs.Cmp.Lexicographic.{slice_cmp}
use Rattle.std.proofs.lemmas.Cmp.{on_total, then_total, back_total, lists_total, nat_cmp_total}
use Rattle.ooc_types.specs.Strict.{strict_cmp}
use Rattle.ooc_types.proofs.ValueOrder.{value_cmp_total}
use Rattle.ooc_types.proofs.Ties.{strict_total, strict_ties}
use Rattle.sql_meaning.specs.Ordered.{null_last, directed, value_at, row_cmp, SortKey}

-- what ties is equal
abbrev pub TiesAreEqual : {K : Type 0} → (K → K → Ordering) → Type 0
TiesAreEqual {K} R = (x y : K) → R x y ≡ Equal → x ≡ y

then-ties : (a b : Ordering) → ordering_then a b ≡ Equal → (a ≡ Equal) × (b ≡ Equal)
then-ties Less b e = cc
then-ties Equal b e = (refl, e)
then-ties Greater b e = cc

pub lists_tie : {K : Type 0} (R : K → K → Ordering) → TiesAreEqual R → TiesAreEqual (slice_cmp R)
lists_tie R ties [] [] e = refl
lists_tie R ties [] (y ∷ ys) e = cc
lists_tie R ties (x ∷ xs) [] e = cc
lists_tie R ties (x ∷ xs) (y ∷ ys) e =
    let parts = then-ties (R x y) (slice_cmp R xs ys) e in
    ap₂ ◌∷◌ (ties x y parts.0) (lists_tie R ties xs ys parts.1)

directed_total : (descending : Bool) → IsTotalOrder (directed descending)
directed_total false = value_cmp_total
directed_total true = then_total (on_total null_last nat_cmp_total) (back_total value_cmp_total)

pub rows_total : (keys : List SortKey) → IsTotalOrder (row_cmp keys)
rows_total [] = lists_total strict_total
rows_total (key ∷ keys) = then_total (on_total (value_at key.place) (directed_total key.descending)) (rows_total keys)

pub rows_tie : (keys : List SortKey) → TiesAreEqual (row_cmp keys)
rows_tie [] x y e = lists_tie strict_cmp strict_ties x y e
rows_tie (key ∷ keys) x y e =
    rows_tie keys x y (then-ties (on (value_at key.place) (directed key.descending) x y) (row_cmp keys x y) e).1

-- the tests of a total order whose ties are equal
module _ {K : Type 0} {R : K → K → Ordering} (o : IsTotalOrder R) where
  pub gt_back : (x y : K) → is_gt (R x y) ≡ true → R y x ≡ Less
  gt_back x y e = go (R x y) (R y x) (o.antisymm y x) e
    where
      go : (a b : Ordering) → b ≡ ordering_reverse a → is_gt a ≡ true → b ≡ Less
      go Less b e h = cc
      go Equal b e h = cc
      go Greater b e h = e

  pub gt_from : (x y : K) → R y x ≡ Less → is_gt (R x y) ≡ true
  gt_from x y e = ap is_gt (o.antisymm x y) ∙ ap (λ r. is_gt (ordering_reverse r)) e

  pub gt_trans : (x y z : K) → is_gt (R x y) ≡ true → is_gt (R y z) ≡ true → is_gt (R x z) ≡ true
  gt_trans x y z p q = gt_from x z (o.trans z y x (gt_back y z q) (gt_back x y p))
