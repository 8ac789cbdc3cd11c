-- Where each item was worked on once, what all workers have is what they had and what all items give.
use Rattle.std.proofs.Common.{◌≡◌, suc, ◌+◌, Bool, cond, List, [], ◌∷◌, ◌++◌, All, refl, ap, arith}
use Rattle.std.specs.Prelude.{count_by, flat_map}
use Rattle.std.proofs.lemmas.List.Sums.{sum_by-append}
use Rattle.ooc_bags.specs.Bags.{SameBag}
use Rattle.ooc_bags.proofs.Bags.{bag-refl, bag-flat_map}
use Rattle.ooc_bags.proofs.Lists.{flat_map-append}
use Rattle.worker_stage.specs.Desks.{together}
use Rattle.worker_stage.specs.Stage.{MadeAll, IsDone}

count_over : {A : Type 0} (test : A → Bool) (xs ys : List A) → count_by test (xs ++ ys) ≡ count_by test xs + count_by test ys
count_over test xs ys = sum_by-append (λ y. cond (test y) 1 0) xs ys

module _ {W I A : Type 0} (made : W → List I → W → Type 0) (rows : W → List A) (f : I → List A) (Good : W → Type 0)
    (says : (w : W) (xs : List I) (v : W) → Good w → made w xs v → rows v ≡ rows w ++ flat_map f xs) where
  gather : (test : A → Bool) (ws : List W) (lists : List (List I)) (vs : List W) → All Good ws → MadeAll made ws lists vs
      → count_by test (flat_map rows vs) ≡ count_by test (flat_map rows ws) + count_by test (flat_map f (together lists))
  gather test [] [] [] good each = refl
  gather test [] [] (v ∷ vs) good each = absurd each
  gather test [] (xs ∷ xss) vs good each = absurd each
  gather test (w ∷ ws) [] vs good each = absurd each
  gather test (w ∷ ws) (xs ∷ xss) [] good each = absurd each
  gather test (w ∷ ws) (xs ∷ xss) (v ∷ vs) good each =
      let rest = gather test ws xss vs (λ k d lt. good (suc k) d (omega (arith, lt))) each.1 in
      let own = ap (count_by test) (says w xs v (good 0 w (omega arith)) each.0) in
      let cut = count_over test (rows w) (flat_map f xs) in
      let a = count_over test (rows v) (flat_map rows vs) in
      let b = count_over test (rows w) (flat_map rows ws) in
      let c = ap (count_by test) (flat_map-append f xs (together xss)) in
      let d = count_over test (flat_map f xs) (flat_map f (together xss)) in
      omega (arith, rest, own, cut, a, b, c, d)

  pub stage_rows : (items : List I) (ws vs : List W) → All Good ws → IsDone made items ws vs → SameBag (flat_map rows vs) (flat_map rows ws ++ flat_map f items)
  stage_rows items ws vs good is test =
      let all = gather test ws is.lists vs good is.each in
      let whole = bag-flat_map f f (together is.lists) items is.whole (λ x. bag-refl (f x)) test in
      let j = count_over test (flat_map rows ws) (flat_map f items) in
      omega (arith, all, whole, j)
