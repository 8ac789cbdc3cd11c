-- The items of a list, each once, where items can be compared.
use Rattle.std.proofs.Common.{◌≡◌, Bool, true, false, cond, not, List, [], ◌∷◌, ◌++◌, refl, sym, ap, ◌∙◌}
use Rattle.std.specs.Prelude.{filter}
use Rattle.std.specs.Bool.{Decides}
use Rattle.ooc_bags.specs.Bags.{SameBag}
use Rattle.ooc_bags.specs.Firsts.{firsts_by}
use Rattle.ooc_bags.proofs.Bags.{bag-refl, bag-trans, bag-filter, bag-from, bag-cons, bag-two}
use Rattle.ooc_bags.proofs.Lists.{filter-comm}
use Rattle.ooc_bags.proofs.Rearranged.{rearranged, related}

-- the items that aren't this one
abbrev pub others_by : {A : Type 0} → (A → A → Bool) → A → List A → List A
others_by eq item = filter (λ other. not (eq item other))

module _ {A : Type 0} (eq : A → A → Bool) (decides : (x y : A) → Decides (eq x y) (x ≡ y)) where
  row-itself : (x y : A) → eq x y ≡ false → eq y x ≡ false
  row-itself x y e = elim (eq y x) as (λ b. eq y x ≡ b → b ≡ false) [
    | true ↦ λ f. sym ((decides x y).1 (sym ((decides y x).0 f))) ∙ e
    | false ↦ λ f. refl
  ] refl

  firsts_by-moved : (front : List A) (x : A) (back : List A) → SameBag (x ∷ others_by eq x (firsts_by eq (front ++ back))) (firsts_by eq (front ++ x ∷ back))
  firsts_by-moved [] x back = bag-refl (x ∷ others_by eq x (firsts_by eq back))
  firsts_by-moved (y ∷ front) x back =
      let rest = firsts_by-moved front x back in
      let all = firsts_by eq (front ++ back) in
      bag-trans (x ∷ others_by eq x (y ∷ others_by eq y all)) (y ∷ others_by eq y (x ∷ others_by eq x all)) (y ∷ others_by eq y (firsts_by eq (front ++ x ∷ back)))
      (elim (eq x y) as (λ b. eq x y ≡ b → SameBag (x ∷ others_by eq x (y ∷ others_by eq y all)) (y ∷ others_by eq y (x ∷ others_by eq x all))) [
        | true ↦ λ e. bag-from (x ∷ others_by eq x (y ∷ others_by eq y all)) (y ∷ others_by eq y (x ∷ others_by eq x all))
            (ap (λ z. x ∷ others_by eq x (z ∷ others_by eq z all)) (sym ((decides x y).0 e)) ∙ ap (λ z. z ∷ others_by eq z (x ∷ others_by eq x all)) ((decides x y).0 e))
        | false ↦ λ e.
            let left : others_by eq x (y ∷ others_by eq y all) ≡ y ∷ others_by eq x (others_by eq y all) = ap (λ b. cond (not b) (y ∷ others_by eq x (others_by eq y all)) (others_by eq x (others_by eq y all))) e in
            let right : others_by eq y (x ∷ others_by eq x all) ≡ x ∷ others_by eq y (others_by eq x all) = ap (λ b. cond (not b) (x ∷ others_by eq y (others_by eq x all)) (others_by eq y (others_by eq x all))) (row-itself x y e) in
            bag-trans (x ∷ others_by eq x (y ∷ others_by eq y all)) (x ∷ y ∷ others_by eq x (others_by eq y all)) (y ∷ others_by eq y (x ∷ others_by eq x all))
            (bag-from (x ∷ others_by eq x (y ∷ others_by eq y all)) (x ∷ y ∷ others_by eq x (others_by eq y all)) (ap (λ l. x ∷ l) left))
            (bag-trans (x ∷ y ∷ others_by eq x (others_by eq y all)) (y ∷ x ∷ others_by eq x (others_by eq y all)) (y ∷ others_by eq y (x ∷ others_by eq x all))
            (bag-two x y (others_by eq x (others_by eq y all)))
            (bag-from (y ∷ x ∷ others_by eq x (others_by eq y all)) (y ∷ others_by eq y (x ∷ others_by eq x all))
            (ap (λ l. y ∷ x ∷ l) (filter-comm (λ other. not (eq x other)) (λ other. not (eq y other)) all) ∙ ap (λ l. y ∷ l) (sym right))))
      ] refl)
      (bag-cons y (others_by eq y (x ∷ others_by eq x all)) (others_by eq y (firsts_by eq (front ++ x ∷ back))) (bag-filter (λ other. not (eq y other)) (x ∷ others_by eq x all) (firsts_by eq (front ++ x ∷ back)) rest))

  pub firsts_by-SameBag : (xs ys : List A) → SameBag xs ys → SameBag (firsts_by eq xs) (firsts_by eq ys)
  firsts_by-SameBag xs ys same =
      related (λ xs ys. SameBag (firsts_by eq xs) (firsts_by eq ys)) (bag-refl [])
      (λ x xs front back rest. bag-trans (firsts_by eq (x ∷ xs)) (x ∷ others_by eq x (firsts_by eq (front ++ back))) (firsts_by eq (front ++ x ∷ back))
      (bag-cons x (others_by eq x (firsts_by eq xs)) (others_by eq x (firsts_by eq (front ++ back))) (bag-filter (λ other. not (eq x other)) (firsts_by eq xs) (firsts_by eq (front ++ back)) rest))
      (firsts_by-moved front x back))
      xs ys (rearranged eq decides xs ys same)
