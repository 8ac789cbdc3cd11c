-- How often a row stands in the result of a set operation.
use Rattle.std.proofs.Common.{◌≡◌, ℕ, zero, suc, ◌+◌, ◌*◌, Bool, true, false, cond, List, [], ◌∷◌, ◌++◌, refl, sym, ap, ap₂, ◌∙◌, arith}
use Rattle.std.specs.Prelude.{count_by, sum_by, replicate}
use Rattle.std.specs.Bool.{Decides}
use Rattle.std.proofs.lemmas.List.Sums.{sum_by-cons, sum_by-append}
use Rattle.ooc_bags.specs.Rows.{row_eq}
use Rattle.ooc_bags.proofs.RowTests.{row_eq-Decides}
use Rattle.sql_meaning.specs.Found.{Row}
use Rattle.ooc_bags.specs.Firsts.{firsts}
use Rattle.sql_meaning.specs.Sets.{Times, combined, once}
use Rattle.ooc_bags.proofs.Sums.{sum-same, sum-flat_map}
use Rattle.ooc_bags.proofs.Firsts.{firsts-once}

module _ {A : Type 0} (eq : A → A → Bool) (decides : (x y : A) → Decides (eq x y) (x ≡ y)) where
  replicate-count : (x y : A) (n : ℕ) → count_by (eq x) (replicate n y) ≡ cond (eq x y) n 0
  replicate-count x y zero = go (eq x y)
    where
      go : (b : Bool) → 0 ≡ cond {A = ℕ} b 0 0
      go true = refl
      go false = refl
  replicate-count x y (suc n) = sum_by-cons (λ z. cond (eq x z) 1 0) y (replicate n y) ∙ ap (λ m. cond (eq x y) 1 0 + m) (replicate-count x y n) ∙ go (eq x y)
    where
      go : (b : Bool) → cond {A = ℕ} b 1 0 + cond b n 0 ≡ cond b (suc n) 0
      go true = omega arith
      go false = refl

  each-times : (x : A) (n : ℕ) (xs : List A) → sum_by (λ y. cond (eq x y) n 0) xs ≡ n * count_by (eq x) xs
  each-times x n [] = omega arith
  each-times x n (y ∷ ys) =
      sum_by-cons (λ y. cond (eq x y) n 0) y ys ∙ ap (λ m. cond (eq x y) n 0 + m) (each-times x n ys)
      ∙ go (eq x y) (count_by (eq x) ys) ∙ ap (λ m. n * m) (sym (sum_by-cons (λ y. cond (eq x y) 1 0) y ys))
    where
      go : (b : Bool) (m : ℕ) → cond {A = ℕ} b n 0 + n * m ≡ n * (cond b 1 0 + m)
      go true m = omega arith
      go false m = omega arith

times-once : (n a b : ℕ) → (a + b ≡ 0 → n ≡ 0) → n * once (a + b) ≡ n
times-once n zero zero none = let e = none refl in omega arith
times-once n zero (suc b) none = let e : once (0 + suc b) ≡ 1 = omega arith in ap (λ m. n * m) e ∙ omega arith
times-once n (suc a) b none = let e : once (suc a + b) ≡ 1 = omega arith in ap (λ m. n * m) e ∙ omega arith

-- Where a row stands a times in the left list and b times in the right, it stands so often in the result.
pub combined-count : (times : Times) (left right : List Row) (row : Row) → times 0 0 ≡ 0
    → count_by (row_eq row) (combined times left right) ≡ times (count_by (row_eq row) left) (count_by (row_eq row) right)
combined-count times left right row none =
    let often : Row → ℕ = λ y. times (count_by (row_eq y) left) (count_by (row_eq y) right) in
    let a = count_by (row_eq row) left in
    let b = count_by (row_eq row) right in
    sum-flat_map (λ z. cond (row_eq row z) 1 0) (λ y. replicate (often y) y) (firsts (left ++ right))
    ∙ sum-same (λ y. count_by (row_eq row) (replicate (often y) y)) (λ y. cond (row_eq row y) (often row) 0) (λ y. replicate-count row_eq row_eq-Decides row y (often y) ∙ same y) (firsts (left ++ right))
    ∙ each-times row_eq row_eq-Decides row (often row) (firsts (left ++ right))
    ∙ ap (λ m. often row * m) (firsts-once row (left ++ right) ∙ ap once (sum_by-append (λ z. cond (row_eq row z) 1 0) left right))
    ∙ times-once (often row) a b (λ e. nowhere a b e refl refl)
  where
    same : (y : Row) → cond {A = ℕ} (row_eq row y) (times (count_by (row_eq y) left) (count_by (row_eq y) right)) 0
        ≡ cond (row_eq row y) (times (count_by (row_eq row) left) (count_by (row_eq row) right)) 0
    same y = elim (row_eq row y) as (λ b. row_eq row y ≡ b → cond {A = ℕ} b (times (count_by (row_eq y) left) (count_by (row_eq y) right)) 0 ≡ cond b (times (count_by (row_eq row) left) (count_by (row_eq row) right)) 0) [
      | true ↦ λ e. ap (λ z. times (count_by (row_eq z) left) (count_by (row_eq z) right)) (sym ((row_eq-Decides row y).0 e))
      | false ↦ λ e. refl
    ] refl

    nowhere : (a b : ℕ) → a + b ≡ 0 → count_by (row_eq row) left ≡ a → count_by (row_eq row) right ≡ b → times (count_by (row_eq row) left) (count_by (row_eq row) right) ≡ 0
    nowhere a b e p q =
        let x : count_by (row_eq row) left ≡ 0 = omega arith in
        let y : count_by (row_eq row) right ≡ 0 = omega arith in
        ap₂ times x y ∙ none
