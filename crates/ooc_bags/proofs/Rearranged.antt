-- Lists of items that can be compared: the same bag is a rearrangement, and a fold whose steps commute doesn't see it.
use Rattle.std.proofs.Common.{◌≡◌, ℕ, ◌+◌, ◌<◌, Bool, true, false, cond, List, [], ◌∷◌, ◌++◌, refl, sym, ap, ◌∙◌, subst, arith}
use Rattle.std.specs.Prelude.{count_by, fold}
use Rattle.std.specs.Bool.{Decides}
use Rattle.std.proofs.lemmas.List.Sums.{sum_by-append}
use Rattle.ooc_bags.specs.Bags.{SameBag}
use Rattle.ooc_bags.specs.Rearranged.{IsRearranged}
use Rattle.ooc_bags.proofs.Counts.{count-cons}

-- where a list is split at an item
pub record IsSplit {A : Type 0} (x : A) (ys : List A) : Type 0 where
  pub front : List A
  pub back : List A
  pub is : ys ≡ front ++ x ∷ back

count-split : {A : Type 0} (t : A → Bool) (front : List A) (x : A) (back : List A) → count_by t (front ++ x ∷ back) ≡ cond (t x) 1 0 + count_by t (front ++ back)
count-split t front x back =
    let a = sum_by-append (λ y. cond (t y) 1 0) front (x ∷ back) in
    let b = count-cons t x back in
    let c = sum_by-append (λ y. cond (t y) 1 0) front back in
    omega arith

module _ {A : Type 0} (eq : A → A → Bool) (decides : (a b : A) → Decides (eq a b) (a ≡ b)) where
  split_at : (x : A) (ys : List A) → 0 < count_by (eq x) ys → IsSplit x ys
  split_at x [] some = absurd (omega arith)
  split_at x (y ∷ ys) some = elim (eq x y) as (λ b. eq x y ≡ b → IsSplit x (y ∷ ys)) [
    | true ↦ λ e. record { front = []; back = ys; is = ap (λ z. z ∷ ys) (sym ((decides x y).0 e)) }
    | false ↦ λ e.
        let here = count-cons (eq x) y ys in
        let none : cond {A = ℕ} (eq x y) 1 0 ≡ 0 = ap (λ b. cond b 1 0) e in
        let rest = split_at x ys (omega arith) in
        record { front = y ∷ rest.front; back = rest.back; is = ap (λ zs. y ∷ zs) rest.is }
  ] refl

  pub rearranged : (xs ys : List A) → SameBag xs ys → IsRearranged xs ys
  rearranged [] [] same = refl
  rearranged [] (y ∷ ys) same =
      let all = same (λ z. true) in
      let here = count-cons (λ z. true) y ys in
      absurd (omega arith)
  rearranged (x ∷ xs) ys same =
      let here = count-cons (eq x) x xs in
      let itself : cond {A = ℕ} (eq x x) 1 0 ≡ 1 = ap (λ b. cond b 1 0) ((decides x x).1 refl) in
      let there = same (eq x) in
      let at = split_at x ys (omega arith) in (
        at.front,
        at.back,
        at.is,
        rearranged xs (at.front ++ at.back) (λ t.
            let whole = same t in
            let first = count-cons t x xs in
            let moved : count_by t ys ≡ cond (t x) 1 0 + count_by t (at.front ++ at.back) = ap (count_by t) at.is ∙ count-split t at.front x at.back in
            omega arith),
      )

pub rearranged-same : {A : Type 0} (xs ys : List A) → IsRearranged xs ys → SameBag xs ys
rearranged-same [] ys is t = ap (count_by t) (sym is)
rearranged-same (x ∷ xs) ys is t =
    count-cons t x xs ∙ ap (λ n. cond (t x) 1 0 + n) (rearranged-same xs (is.0 ++ is.1) is.3 t) ∙ sym (count-split t is.0 x is.1) ∙ ap (count_by t) (sym is.2)

-- a function of a list that doesn't see where its items stand
module _ {A B : Type 0} (f : List A → B) (add : A → B → B)
    (moved : (front : List A) (x : A) (back : List A) → f (front ++ x ∷ back) ≡ add x (f (front ++ back))) where
  pub same_of_rearranged : (xs ys : List A) → IsRearranged xs ys → f xs ≡ f ys
  same_of_rearranged [] ys is = ap f (sym is)
  same_of_rearranged (x ∷ xs) ys is =
      moved [] x xs ∙ ap (add x) (same_of_rearranged xs (is.0 ++ is.1) is.3) ∙ sym (moved is.0 x is.1) ∙ ap f (sym is.2)

-- the same with a relation in place of equality
module _ {A : Type 0} (R : List A → List A → Type 0)
    (none : R [] [])
    (moved : (x : A) (xs front back : List A) → R xs (front ++ back) → R (x ∷ xs) (front ++ x ∷ back)) where
  pub related : (xs ys : List A) → IsRearranged xs ys → R xs ys
  related [] ys is = subst (λ zs. R [] zs) (sym is) none
  related (x ∷ xs) ys is = subst (λ zs. R (x ∷ xs) zs) (sym is.2) (moved x xs is.0 is.1 (related xs (is.0 ++ is.1) is.3))

module _ {A B : Type 0} (f : B → A → B) (commutes : (b : B) (x y : A) → f (f b x) y ≡ f (f b y) x) where
  fold-moved : (b : B) (front : List A) (x : A) (back : List A) → fold f b (front ++ x ∷ back) ≡ fold f (f b x) (front ++ back)
  fold-moved b [] x back = refl
  fold-moved b (y ∷ front) x back = fold-moved (f b y) front x back ∙ ap (λ c. fold f c (front ++ back)) (commutes b y x)

  pub fold-rearranged : (b : B) (xs ys : List A) → IsRearranged xs ys → fold f b xs ≡ fold f b ys
  fold-rearranged b [] ys is = ap (fold f b) (sym is)
  fold-rearranged b (x ∷ xs) ys is =
      fold-rearranged (f b x) xs (is.0 ++ is.1) is.3 ∙ sym (fold-moved b is.0 x is.1) ∙ ap (fold f b) (sym is.2)
