-- A list, part by part.
use Rattle.std.proofs.Common.{◌≡◌, ℕ, Bool, true, false, cond, ◌==◌, List, refl, sym, ◌∙◌}
use Rattle.std.specs.Prelude.{flat_map, sum_by}
use Rattle.std.proofs.lemmas.Bool.Decides.{Decides-eqb}
use Rattle.ooc_bags.specs.Bags.{SameBag}
use Rattle.ooc_bags.specs.Parts.{part, AreParts}
use Rattle.ooc_bags.proofs.Sums.{sum-same, sum-swap, sum-zero, sum-filter, sum-flat_map}
use Rattle.ooc_bags.proofs.Bags.{bag-refl, bag-from, bag-trans, bag-flat_map}
use Rattle.ooc_bags.proofs.Lists.{flat_map-same, flat_map-flat_map, flat_map-filtered}

-- the parts of a list, put together
pub bag-parts : {A : Type 0} (number : A → ℕ) (ks : List ℕ) → AreParts number ks → (xs : List A) → SameBag (flat_map (λ k. part number k xs) ks) xs
bag-parts {A} number ks parts xs t =
    let one : A → ℕ = λ x. cond (t x) 1 0 in
    let both : ℕ → A → ℕ = λ k x. cond (number x == k) (one x) 0 in
    sum-flat_map one (λ k. part number k xs) ks
    ∙ sum-same (λ k. sum_by one (part number k xs)) (λ k. sum_by (both k) xs) (λ k. sum-filter one (λ x. number x == k) xs) ks
    ∙ sum-swap both ks xs
    ∙ sum-same (λ x. sum_by (λ k. both k x) ks) one (λ x. once (t x) x) xs
  where
    once : (b : Bool) (x : A) → sum_by (λ k. cond (number x == k) (cond b 1 0) 0) ks ≡ cond b 1 0
    once true x = parts x
    once false x = sum-same (λ k. cond (number x == k) 0 0) (λ k. 0) (λ k. same (number x == k)) ks ∙ none ks
      where
        same : (b : Bool) → cond {A = ℕ} b 0 0 ≡ 0
        same true = refl
        same false = refl

        none : (ks : List ℕ) → sum_by (λ k. 0) ks ≡ 0
        none ks = sum-zero (λ k. 0) (λ k. refl) ks

-- each part by itself, where an item in its own part gives what it gives
pub bag-part_by_part : {A B : Type 0} (f : A → List B) (g : ℕ → A → List B) (number : A → ℕ) (ks : List ℕ) → AreParts number ks
    → ((k : ℕ) (x : A) → number x ≡ k → g k x ≡ f x) → (xs : List A) → SameBag (flat_map (λ k. flat_map (g k) (part number k xs)) ks) (flat_map f xs)
bag-part_by_part {A} {B} f g number ks parts own xs =
    let each : List B = flat_map (λ k. flat_map (g k) (part number k xs)) ks in
    let whole : List A = flat_map (λ k. part number k xs) ks in
    bag-trans each (flat_map f whole) (flat_map f xs)
    (bag-from each (flat_map f whole)
    (flat_map-same (λ k. flat_map (g k) (part number k xs)) (λ k. flat_map f (part number k xs))
    (λ k. flat_map-filtered (λ x. number x == k) (g k) f (λ x e. own k x ((Decides-eqb (number x) k).0 e)) xs) ks
    ∙ sym (flat_map-flat_map f (λ k. part number k xs) ks)))
    (bag-flat_map f f whole xs (bag-parts number ks parts xs) (λ x. bag-refl (f x)))
