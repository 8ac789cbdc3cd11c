-- The rows of a list, each once: lists that are the same bag have the same.
use Rattle.std.proofs.Common.{◌≡◌, ℕ, min, Bool, true, false, cond, not, List, [], ◌∷◌, ◌++◌, refl, sym, ap, ◌∙◌, arith}
use Rattle.std.specs.Prelude.{filter, count_by, sum_by}
use Rattle.ooc_bags.specs.Bags.{SameBag}
use Rattle.ooc_bags.specs.Rows.{row_eq}
use Rattle.ooc_bags.proofs.RowTests.{row_eq-Decides}
use Rattle.ooc_types.specs.declared.value.Value.{Value}
use Rattle.ooc_bags.specs.Firsts.{firsts}
use Rattle.ooc_bags.proofs.Counts.{count-cons}
use Rattle.ooc_bags.proofs.Sums.{sum-same, sum-zero, sum-filter}
use Rattle.ooc_bags.proofs.Lists.{filter-comm, filter-of}
use Rattle.ooc_bags.proofs.Bags.{bag-refl, bag-trans, bag-filter, bag-from, bag-cons, bag-two}
use Rattle.ooc_bags.proofs.Rearranged.{rearranged, related}

-- the rows that aren't this one
abbrev pub others : List Value → List (List Value) → List (List Value)
others row = filter (λ other. not (row_eq row other))

row-itself : (x y : List Value) → row_eq x y ≡ false → row_eq y x ≡ false
row-itself x y e = elim (row_eq y x) as (λ b. row_eq y x ≡ b → b ≡ false) [
  | true ↦ λ f. sym ((row_eq-Decides x y).1 (sym ((row_eq-Decides y x).0 f))) ∙ e
  | false ↦ λ f. refl
] refl

firsts-moved : (front : List (List Value)) (x : List Value) (back : List (List Value)) → SameBag (x ∷ others x (firsts (front ++ back))) (firsts (front ++ x ∷ back))
firsts-moved [] x back = bag-refl (x ∷ others x (firsts back))
firsts-moved (y ∷ front) x back =
    let rest = firsts-moved front x back in
    let all = firsts (front ++ back) in
    bag-trans (x ∷ others x (y ∷ others y all)) (y ∷ others y (x ∷ others x all)) (y ∷ others y (firsts (front ++ x ∷ back)))
    (elim (row_eq x y) as (λ b. row_eq x y ≡ b → SameBag (x ∷ others x (y ∷ others y all)) (y ∷ others y (x ∷ others x all))) [
      | true ↦ λ e. bag-from (x ∷ others x (y ∷ others y all)) (y ∷ others y (x ∷ others x all))
          (ap (λ z. x ∷ others x (z ∷ others z all)) (sym ((row_eq-Decides x y).0 e)) ∙ ap (λ z. z ∷ others z (x ∷ others x all)) ((row_eq-Decides x y).0 e))
      | false ↦ λ e.
          let left : others x (y ∷ others y all) ≡ y ∷ others x (others y all) = ap (λ b. cond (not b) (y ∷ others x (others y all)) (others x (others y all))) e in
          let right : others y (x ∷ others x all) ≡ x ∷ others y (others x all) = ap (λ b. cond (not b) (x ∷ others y (others x all)) (others y (others x all))) (row-itself x y e) in
          bag-trans (x ∷ others x (y ∷ others y all)) (x ∷ y ∷ others x (others y all)) (y ∷ others y (x ∷ others x all))
          (bag-from (x ∷ others x (y ∷ others y all)) (x ∷ y ∷ others x (others y all)) (ap (λ l. x ∷ l) left))
          (bag-trans (x ∷ y ∷ others x (others y all)) (y ∷ x ∷ others x (others y all)) (y ∷ others y (x ∷ others x all))
          (bag-two x y (others x (others y all)))
          (bag-from (y ∷ x ∷ others x (others y all)) (y ∷ others y (x ∷ others x all))
          (ap (λ l. y ∷ x ∷ l) (filter-comm (λ other. not (row_eq x other)) (λ other. not (row_eq y other)) all) ∙ ap (λ l. y ∷ l) (sym right))))
    ] refl)
    (bag-cons y (others y (x ∷ others x all)) (others y (firsts (front ++ x ∷ back))) (bag-filter (λ other. not (row_eq y other)) (x ∷ others x all) (firsts (front ++ x ∷ back)) rest))

pub firsts-SameBag : (xs ys : List (List Value)) → SameBag xs ys → SameBag (firsts xs) (firsts ys)
firsts-SameBag xs ys same =
    related (λ xs ys. SameBag (firsts xs) (firsts ys)) (bag-refl [])
    (λ x xs front back rest. bag-trans (firsts (x ∷ xs)) (x ∷ others x (firsts (front ++ back))) (firsts (front ++ x ∷ back))
    (bag-cons x (others x (firsts xs)) (others x (firsts (front ++ back))) (bag-filter (λ other. not (row_eq x other)) (firsts xs) (firsts (front ++ back)) rest))
    (firsts-moved front x back))
    xs ys (rearranged row_eq row_eq-Decides xs ys same)

-- a row that passes isn't one that doesn't
differ : (p : List Value → Bool) (x y : List Value) → p y ≡ true → p x ≡ false → not (row_eq x y) ≡ true
differ p x y h e = elim (row_eq x y) as (λ b. row_eq x y ≡ b → not b ≡ true) [
  | true ↦ λ same. sym e ∙ ap p ((row_eq-Decides x y).0 same) ∙ h
  | false ↦ λ same. refl
] refl

pub firsts-filter : (p : List Value → Bool) (xs : List (List Value)) → firsts (filter p xs) ≡ filter p (firsts xs)
firsts-filter p [] = refl
firsts-filter p (x ∷ xs) = elim (p x) as (λ b. p x ≡ b → firsts (cond b (x ∷ filter p xs) (filter p xs)) ≡ cond b (x ∷ filter p (filter (λ y. not (row_eq x y)) (firsts xs))) (filter p (filter (λ y. not (row_eq x y)) (firsts xs)))) [
  | true ↦ λ e. ap (λ l. x ∷ filter (λ y. not (row_eq x y)) l) (firsts-filter p xs) ∙ ap (λ l. x ∷ l) (filter-comm (λ y. not (row_eq x y)) p (firsts xs))
  | false ↦ λ e. firsts-filter p xs ∙ sym (filter-of p (λ y. not (row_eq x y)) (λ y h. differ p x y h e) (firsts xs))
] refl

-- among the others of a row, the row itself doesn't stand, and each other row does as often as before
others-count : (row x : List Value) (xs : List (List Value)) → count_by (row_eq row) (others x xs) ≡ cond (row_eq row x) 0 (count_by (row_eq row) xs)
others-count row x xs =
    sum-filter (λ y. cond {A = ℕ} (row_eq row y) 1 0) (λ y. not (row_eq x y)) xs
    ∙ elim (row_eq row x) as (λ b. row_eq row x ≡ b → sum_by (λ y. cond (not (row_eq x y)) (cond {A = ℕ} (row_eq row y) 1 0) 0) xs ≡ cond b 0 (count_by (row_eq row) xs)) [
      | true ↦ λ e. sum-zero (λ y. cond (not (row_eq x y)) (cond {A = ℕ} (row_eq row y) 1 0) 0) (λ y. none y ((row_eq-Decides row x).0 e)) xs
      | false ↦ λ e. sum-same (λ y. cond (not (row_eq x y)) (cond {A = ℕ} (row_eq row y) 1 0) 0) (λ y. cond {A = ℕ} (row_eq row y) 1 0) (λ y. one y e) xs
    ] refl
  where
    none : (y : List Value) → row ≡ x → cond (not (row_eq x y)) (cond {A = ℕ} (row_eq row y) 1 0) 0 ≡ 0
    none y e = elim (row_eq row y) as (λ b. row_eq row y ≡ b → cond (not (row_eq x y)) (cond {A = ℕ} b 1 0) 0 ≡ 0) [
      | true ↦ λ h. ap (λ b. cond {A = ℕ} (not b) 1 0) (ap (λ z. row_eq z y) (sym e) ∙ h)
      | false ↦ λ h. nothing (not (row_eq x y))
    ] refl
      where
        nothing : (b : Bool) → cond {A = ℕ} b 0 0 ≡ 0
        nothing true = refl
        nothing false = refl

    one : (y : List Value) → row_eq row x ≡ false → cond (not (row_eq x y)) (cond {A = ℕ} (row_eq row y) 1 0) 0 ≡ cond {A = ℕ} (row_eq row y) 1 0
    one y e = elim (row_eq x y) as (λ b. row_eq x y ≡ b → cond (not b) (cond {A = ℕ} (row_eq row y) 1 0) 0 ≡ cond {A = ℕ} (row_eq row y) 1 0) [
      | true ↦ λ h. sym (ap (λ b. cond {A = ℕ} b 1 0) (ap (row_eq row) (sym ((row_eq-Decides x y).0 h)) ∙ e))
      | false ↦ λ h. refl
    ] refl

pub firsts-once : (row : List Value) (rows : List (List Value)) → count_by (row_eq row) (firsts rows) ≡ min 1 (count_by (row_eq row) rows)
firsts-once row [] = refl
firsts-once row (x ∷ rows) =
    let here = count-cons (row_eq row) x (others x (firsts rows)) in
    let all = count-cons (row_eq row) x rows in
    let rest = firsts-once row rows in
    let left = others-count row x (firsts rows) in
    elim (row_eq row x) as (λ b. row_eq row x ≡ b → count_by (row_eq row) (x ∷ others x (firsts rows)) ≡ min 1 (count_by (row_eq row) (x ∷ rows))) [
      | true ↦ λ e.
          let a : cond {A = ℕ} (row_eq row x) 1 0 ≡ 1 = ap (λ b. cond b 1 0) e in
          let b : cond (row_eq row x) 0 (count_by (row_eq row) (firsts rows)) ≡ 0 = ap (λ b. cond b 0 (count_by (row_eq row) (firsts rows))) e in
          omega arith
      | false ↦ λ e.
          let a : cond {A = ℕ} (row_eq row x) 1 0 ≡ 0 = ap (λ b. cond b 1 0) e in
          let b : cond (row_eq row x) 0 (count_by (row_eq row) (firsts rows)) ≡ count_by (row_eq row) (firsts rows) = ap (λ b. cond b 0 (count_by (row_eq row) (firsts rows))) e in
          omega arith
    ] refl
