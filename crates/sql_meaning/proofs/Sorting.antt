-- The sorted list of a total order whose ties are equal: rearranged lists have the same, and it is the list itself
-- where that is in order.
use Rattle.std.proofs.Common.{◌≡◌, suc, ◌+◌, Bool, true, false, cond, List, [], ◌∷◌, ◌++◌, get_or, refl, sym, ap, ◌∙◌, subst, arith, Ordering, Less, Equal, Greater}
use Rattle.std.specs.Ordering.{ordering_reverse, is_gt, is_lt}
use Rattle.std.specs.Cmp.{IsTotalOrder}
use Rattle.std.specs.List.Sorted.{IsSortedBy}
use Rattle.std.proofs.lemmas.Cmp.{upto, tied_itself}
use Rattle.sql_meaning.specs.Ordered.{placed, sorted}
use Rattle.sql_meaning.proofs.Orders.{TiesAreEqual, gt_back, gt_trans}
use Rattle.ooc_bags.specs.Rearranged.{IsRearranged}
use Rattle.ooc_bags.proofs.Rearranged.{same_of_rearranged}

module _ {K : Type 0} {R : K → K → Ordering} (o : IsTotalOrder R) (ties : TiesAreEqual R) where
  placed-past : (x y : K) (ys : List K) → is_gt (R x y) ≡ true → placed R x (y ∷ ys) ≡ y ∷ placed R x ys
  placed-past x y ys e = ap (λ b. cond b (y ∷ placed R x ys) (x ∷ y ∷ ys)) e

  placed-here : (x y : K) (ys : List K) → is_gt (R x y) ≡ false → placed R x (y ∷ ys) ≡ x ∷ y ∷ ys
  placed-here x y ys e = ap (λ b. cond b (y ∷ placed R x ys) (x ∷ y ∷ ys)) e

  -- one of two is past the other, or they are equal
  data IsRanked (x y : K) : Type 0 where
    before : is_gt (R x y) ≡ false → is_gt (R y x) ≡ true → IsRanked x y
    tied : x ≡ y → IsRanked x y
    behind : is_gt (R x y) ≡ true → is_gt (R y x) ≡ false → IsRanked x y

  ranked : (x y : K) → IsRanked x y
  ranked x y = go (R x y) (R y x) refl (o.antisymm y x)
    where
      go : (a b : Ordering) → R x y ≡ a → R y x ≡ ordering_reverse (R x y) → IsRanked x y
      go Less b e f = before (ap is_gt e) (ap is_gt (f ∙ ap ordering_reverse e))
      go Equal b e f = tied (ties x y e)
      go Greater b e f = behind (ap is_gt e) (ap is_gt (f ∙ ap ordering_reverse e))

  -- past what is past z, where the other isn't past z
  past_both : (x y z : K) → is_gt (R x z) ≡ true → is_gt (R y z) ≡ false → is_gt (R x y) ≡ true
  past_both x y z p q = elim (ranked x y) as (λ w. is_gt (R x y) ≡ true) [
    | before a b ↦ absurd (false_true (sym (upto o x y z a q) ∙ p))
    | tied e ↦ absurd (false_true (sym q ∙ ap (λ w. is_gt (R w z)) (sym e) ∙ p))
    | behind a b ↦ a
  ]
    where
      false_true : false ≡ true → ⊥
      false_true e = cc

  past_not : (x y z : K) → is_gt (R x z) ≡ true → is_gt (R y z) ≡ false → is_gt (R y x) ≡ false
  past_not x y z p q = elim (ranked y x) as (λ w. is_gt (R y x) ≡ false) [
    | before a b ↦ a
    | tied e ↦ absurd (false_true (sym q ∙ ap (λ w. is_gt (R w z)) e ∙ p))
    | behind a b ↦ absurd (false_true (sym q ∙ gt_trans o y x z a p))
  ]
    where
      false_true : false ≡ true → ⊥
      false_true e = cc

  placed-both : (x y : K) (zs : List K) → placed R x (y ∷ zs) ≡ cond (is_gt (R x y)) (y ∷ placed R x zs) (x ∷ y ∷ zs)
  placed-both x y zs = refl

  -- both stand before the list
  both_first : (x y : K) (zs : List K) → placed R x zs ≡ x ∷ zs → placed R y zs ≡ y ∷ zs → placed R x (y ∷ zs) ≡ placed R y (x ∷ zs)
  both_first x y zs p q = elim (ranked x y) as (λ w. placed R x (y ∷ zs) ≡ placed R y (x ∷ zs)) [
    | before a b ↦ placed-here x y zs a ∙ ap (λ l. x ∷ l) (sym q) ∙ sym (placed-past y x zs b)
    | tied e ↦ ap (λ w. placed R x (w ∷ zs)) (sym e) ∙ ap (λ w. placed R w (x ∷ zs)) e
    | behind a b ↦ placed-past x y zs a ∙ ap (λ l. y ∷ l) p ∙ sym (placed-here y x zs b)
  ]

  placed_twice : (x y : K) (zs : List K) → placed R x (placed R y zs) ≡ placed R y (placed R x zs)
  placed_twice x y [] = both_first x y [] refl refl
  placed_twice x y (z ∷ zs) = go (is_gt (R x z)) (is_gt (R y z)) refl refl (placed_twice x y zs)
    where
      go : (a b : Bool) → is_gt (R x z) ≡ a → is_gt (R y z) ≡ b → placed R x (placed R y zs) ≡ placed R y (placed R x zs)
          → placed R x (placed R y (z ∷ zs)) ≡ placed R y (placed R x (z ∷ zs))
      go true true p q rest =
          ap (placed R x) (placed-past y z zs q) ∙ placed-past x z (placed R y zs) p ∙ ap (λ l. z ∷ l) rest
          ∙ sym (placed-past y z (placed R x zs) q) ∙ ap (placed R y) (sym (placed-past x z zs p))
      go true false p q rest =
          ap (placed R x) (placed-here y z zs q) ∙ placed-past x y (z ∷ zs) (past_both x y z p q) ∙ ap (λ l. y ∷ l) (placed-past x z zs p)
          ∙ sym (placed-here y z (placed R x zs) q) ∙ ap (placed R y) (sym (placed-past x z zs p))
      go false true p q rest =
          ap (placed R x) (placed-past y z zs q) ∙ placed-here x z (placed R y zs) p
          ∙ ap (λ l. x ∷ l) (sym (placed-past y z zs q)) ∙ sym (placed-past y x (z ∷ zs) (past_both y x z q p)) ∙ ap (placed R y) (sym (placed-here x z zs p))
      go false false p q rest =
          ap (placed R x) (placed-here y z zs q) ∙ both_first x y (z ∷ zs) (placed-here x z zs p) (placed-here y z zs q)
          ∙ ap (placed R y) (sym (placed-here x z zs p))

  sorted-moved : (front : List K) (x : K) (back : List K) → sorted R (front ++ x ∷ back) ≡ placed R x (sorted R (front ++ back))
  sorted-moved [] x back = refl
  sorted-moved (y ∷ front) x back = ap (placed R y) (sorted-moved front x back) ∙ placed_twice y x (sorted R (front ++ back))

  pub sorted-rearranged : (xs ys : List K) → IsRearranged xs ys → sorted R xs ≡ sorted R ys
  sorted-rearranged = same_of_rearranged (sorted R) (placed R) sorted-moved

  not_past : (x y : K) → is_lt (R y x) ≡ false → is_gt (R x y) ≡ false
  not_past x y e = elim (ranked x y) as (λ w. is_gt (R x y) ≡ false) [
    | before a b ↦ a
    | tied s ↦ ap (λ w. is_gt (R x w)) (sym s) ∙ ap is_gt (tied_itself o x)
    | behind a b ↦ absurd (false_true (sym e ∙ ap is_lt (gt_back o x y a)))
  ]
    where
      false_true : false ≡ true → ⊥
      false_true e = cc

  -- a list that is in order is its own sorted list
  pub sorted_of_sorted : (xs : List K) → IsSortedBy (λ x y. is_lt (R x y)) xs → sorted R xs ≡ xs
  sorted_of_sorted [] up = refl
  sorted_of_sorted (x ∷ []) up = refl
  sorted_of_sorted (x ∷ y ∷ ys) up =
      ap (placed R x) (sorted_of_sorted (y ∷ ys) (λ k d low h.
      let next : suc k + 1 ≡ suc (k + 1) = omega arith in
      subst (λ n. is_lt (R (get_or (x ∷ y ∷ ys) n d) (get_or (y ∷ ys) k d)) ≡ false) next (up (suc k) d (omega arith) (omega arith))))
      ∙ placed-here x y ys (not_past x y (up 0 x (omega arith) (omega arith)))
