-- The algebra of "the same bag".
use Rattle.std.proofs.Common.{◌≡◌, ℕ, ◌+◌, Bool, cond, List, [], ◌∷◌, ◌++◌, map, refl, sym, ap, ap₂, ◌∙◌, arith}
use Rattle.std.specs.Prelude.{sum_by, count_by, filter, flat_map}
use Rattle.std.proofs.lemmas.List.Sums.{sum_by-cons, sum_by-append}
use Rattle.ooc_bags.specs.Bags.{SameBag}
use Rattle.ooc_bags.proofs.Sums.{sum-same, sum-swap, sum-map, sum-flat_map, sum-filter, sum-SameBag}

pub bag-refl : {A : Type 0} (xs : List A) → SameBag xs xs
bag-refl xs t = refl

pub bag-from : {A : Type 0} (xs ys : List A) → xs ≡ ys → SameBag xs ys
bag-from xs ys e t = ap (count_by t) e

pub bag-sym : {A : Type 0} (xs ys : List A) → SameBag xs ys → SameBag ys xs
bag-sym xs ys same t = sym (same t)

pub bag-trans : {A : Type 0} (xs ys zs : List A) → SameBag xs ys → SameBag ys zs → SameBag xs zs
bag-trans xs ys zs first second t = first t ∙ second t

pub bag-append : {A : Type 0} (xs ys us vs : List A) → SameBag xs ys → SameBag us vs → SameBag (xs ++ us) (ys ++ vs)
bag-append xs ys us vs first second t =
    sum_by-append (λ x. cond (t x) 1 0) xs us ∙ ap₂ ◌+◌ (first t) (second t) ∙ sym (sum_by-append (λ x. cond (t x) 1 0) ys vs)

pub bag-swap : {A : Type 0} (xs ys : List A) → SameBag (xs ++ ys) (ys ++ xs)
bag-swap xs ys t =
    let left = sum_by-append (λ x. cond (t x) 1 0) xs ys in
    let right = sum_by-append (λ x. cond (t x) 1 0) ys xs in
    omega arith

pub bag-map : {A B : Type 0} (f : A → B) (xs ys : List A) → SameBag xs ys → SameBag (map f xs) (map f ys)
bag-map f xs ys same t =
    sum-map (λ y. cond (t y) 1 0) f xs ∙ same (λ x. t (f x)) ∙ sym (sum-map (λ y. cond (t y) 1 0) f ys)

pub bag-filter : {A : Type 0} (p : A → Bool) (xs ys : List A) → SameBag xs ys → SameBag (filter p xs) (filter p ys)
bag-filter p xs ys same t =
    sum-filter (λ x. cond (t x) 1 0) p xs
    ∙ sum-SameBag (λ x. cond (p x) (cond (t x) 1 0) 0) xs ys same
    ∙ sym (sum-filter (λ x. cond (t x) 1 0) p ys)

-- each item gives a list, and the lists of equal items are the same bag
pub bag-flat_map : {A B : Type 0} (f g : A → List B) (xs ys : List A) → SameBag xs ys → ((x : A) → SameBag (f x) (g x)) → SameBag (flat_map f xs) (flat_map g ys)
bag-flat_map f g xs ys same each t =
    sum-flat_map (λ y. cond (t y) 1 0) f xs
    ∙ sum-SameBag (λ x. count_by t (f x)) xs ys same
    ∙ sum-same (λ x. count_by t (f x)) (λ x. count_by t (g x)) (λ x. each x t) ys
    ∙ sym (sum-flat_map (λ y. cond (t y) 1 0) g ys)

-- nested loops the other way round
pub bag-loops : {A B C : Type 0} (f : A → B → List C) (xs : List A) (ys : List B) → SameBag (flat_map (λ x. flat_map (f x) ys) xs) (flat_map (λ y. flat_map (λ x. f x y) xs) ys)
bag-loops {C} f xs ys t =
    let one : C → ℕ = λ c. cond (t c) 1 0 in
    sum-flat_map one (λ x. flat_map (f x) ys) xs
    ∙ sum-same (λ x. sum_by one (flat_map (f x) ys)) (λ x. sum_by (λ y. sum_by one (f x y)) ys) (λ x. sum-flat_map one (f x) ys) xs
    ∙ sum-swap (λ x y. sum_by one (f x y)) xs ys
    ∙ sum-same (λ y. sum_by (λ x. sum_by one (f x y)) xs) (λ y. sum_by one (flat_map (λ x. f x y) xs)) (λ y. sym (sum-flat_map one (λ x. f x y) xs)) ys
    ∙ sym (sum-flat_map one (λ y. flat_map (λ x. f x y) xs) ys)

-- two lists for each item
pub bag-flat_map_append : {A B : Type 0} (f g : A → List B) (xs : List A) → SameBag (flat_map (λ x. f x ++ g x) xs) (flat_map f xs ++ flat_map g xs)
bag-flat_map_append f g [] t = refl
bag-flat_map_append {B} f g (x ∷ xs) t =
    let one : B → ℕ = λ c. cond (t c) 1 0 in
    let rest = bag-flat_map_append f g xs t in
    let a = sum_by-append one (f x ++ g x) (flat_map (λ x. f x ++ g x) xs) in
    let b = sum_by-append one (f x) (g x) in
    let c = sum_by-append one (f x ++ flat_map f xs) (g x ++ flat_map g xs) in
    let d = sum_by-append one (f x) (flat_map f xs) in
    let e = sum_by-append one (g x) (flat_map g xs) in
    let h = sum_by-append one (flat_map f xs) (flat_map g xs) in
    omega arith

pub bag-cons : {A : Type 0} (x : A) (xs ys : List A) → SameBag xs ys → SameBag (x ∷ xs) (x ∷ ys)
bag-cons x xs ys same t =
    sum_by-cons (λ y. cond (t y) 1 0) x xs ∙ ap (λ n. cond (t x) 1 0 + n) (same t) ∙ sym (sum_by-cons (λ y. cond (t y) 1 0) x ys)

-- two items in the other order
pub bag-two : {A : Type 0} (x y : A) (zs : List A) → SameBag (x ∷ y ∷ zs) (y ∷ x ∷ zs)
bag-two {A} x y zs t =
    let one : A → ℕ = λ y. cond (t y) 1 0 in
    let a = sum_by-cons one x (y ∷ zs) in
    let b = sum_by-cons one y zs in
    let c = sum_by-cons one y (x ∷ zs) in
    let d = sum_by-cons one x zs in
    omega arith
