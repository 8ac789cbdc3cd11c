-- The parts of a join's conjuncts say what the conjuncts say.
use Rattle.std.proofs.Common.{◌≡◌, ℕ, zero, suc, ◌+◌, ◌-◌, ◌<◌, ◌≤◌, Bool, true, false, cond, not, ◌&&◌, List, [], ◌∷◌, ◌++◌, length, get_or, refl, sym, ap, ◌∙◌, arith}
use Rattle.std.specs.Prelude.{filter, count_by, nat_lt, nat_le}
use Rattle.std.specs.List.{AllByRecursion, list_all, range_with_len}
use Rattle.std.proofs.lemmas.Bool.Decides.{nat_tests}
use Rattle.std.proofs.lemmas.List.Sums.{sum_by-cons}
use Rattle.ooc_bags.specs.Bags.{SameBag}
use Rattle.sql_expr.specs.declared.tree.Expr.{Expr}
use Rattle.sql_expr.specs.Meaning.{value_of}
use Rattle.sql_meaning.specs.Found.{Row}
use Rattle.sql_meaning.specs.Ordered.{value_at}
use Rattle.sql_meaning.specs.Plan.{put_back}
use Rattle.sql_meaning.specs.Moved.{moved}
use Rattle.sql_meaning.proofs.MovedLemmas.{moved-value}
use Rattle.plan_tree.specs.Columns.{columns_of}
use Rattle.plan_tree.specs.Split.{top_of, top, is_own, own_places}
use Rattle.plan_tree.proofs.ColumnLemmas.{value-agrees}

-- ---- a list in three

three : (a b t : Bool) → cond {A = ℕ} a (cond t 1 0) 0 + cond (not a && b) (cond t 1 0) 0 + cond (not a && not b) (cond t 1 0) 0 ≡ cond t 1 0
three true b true = refl
three true b false = refl
three false true true = refl
three false true false = refl
three false false true = refl
three false false false = refl

count-filter : {A : Type 0} (p t : A → Bool) (x : A) (xs : List A) → count_by t (filter p (x ∷ xs)) ≡ cond (p x) (cond (t x) 1 0) 0 + count_by t (filter p xs)
count-filter p t x xs = elim (p x) as (λ b. count_by t (cond b (x ∷ filter p xs) (filter p xs)) ≡ cond b (cond (t x) 1 0) 0 + count_by t (filter p xs)) [
  | true ↦ sum_by-cons (λ y. cond (t y) 1 0) x (filter p xs)
  | false ↦ sym (zero-left (count_by t (filter p xs)))
]
  where
    zero-left : (n : ℕ) → 0 + n ≡ n
    zero-left n = omega arith

module _ {A : Type 0} (a b : A → Bool) where
  counts-of-three : (t : A → Bool) (xs : List A) → count_by t (filter a xs) + count_by t (filter (λ x. not (a x) && b x) xs) + count_by t (filter (λ x. not (a x) && not (b x)) xs) ≡ count_by t xs
  counts-of-three t [] = refl
  counts-of-three t (x ∷ xs) =
      let p = count-filter a t x xs in
      let q = count-filter (λ x. not (a x) && b x) t x xs in
      let r = count-filter (λ x. not (a x) && not (b x)) t x xs in
      let s = sum_by-cons (λ y. cond (t y) 1 0) x xs in
      let here = three (a x) (b x) (t x) in
      let rest = counts-of-three t xs in
      omega arith

  pub bag-of-three : (xs : List A) → SameBag xs ((filter a xs ++ filter (λ x. not (a x) && b x) xs) ++ filter (λ x. not (a x) && not (b x)) xs)
  bag-of-three xs t =
      sym (count-over t (filter a xs ++ filter (λ x. not (a x) && b x) xs) (filter (λ x. not (a x) && not (b x)) xs)
      ∙ ap (λ n. n + count_by t (filter (λ x. not (a x) && not (b x)) xs)) (count-over t (filter a xs) (filter (λ x. not (a x) && b x) xs))
      ∙ counts-of-three t xs)
    where
      count-over : (t : A → Bool) (ys zs : List A) → count_by t (ys ++ zs) ≡ count_by t ys + count_by t zs
      count-over t [] zs = omega arith
      count-over t (y ∷ ys) zs =
          let p = sum_by-cons (λ y. cond (t y) 1 0) y (ys ++ zs) in
          let q = sum_by-cons (λ y. cond (t y) 1 0) y ys in
          let r = count-over t ys zs in
          omega arith

-- ---- places

pub value-front : (l r : Row) (place : ℕ) → place < length l → value_at place (l ++ r) ≡ value_at place l
value-front [] r place below = absurd (omega arith)
value-front (v ∷ l) r zero below = refl
value-front (v ∷ l) r (suc place) below = value-front l r place (omega arith)

pub value-back : (l r : Row) (place : ℕ) → length l ≤ place → value_at place (l ++ r) ≡ value_at (place - length l) r
value-back [] r place above = ap (λ n. value_at n r) (omega arith)
value-back (v ∷ l) r zero above = absurd (omega arith)
value-back (v ∷ l) r (suc place) above = value-back l r place (omega arith) ∙ ap (λ n. value_at n r) (omega arith)

-- the place of a column among the columns of the source
at-range : (from n place : ℕ) → place < n → get_or (range_with_len from n) place 0 ≡ from + place
at-range from zero place below = absurd (omega arith)
at-range from (suc n) zero below = omega arith
at-range from (suc n) (suc place) below = at-range (from + 1) n place (omega arith) ∙ omega arith

put-value : (places : List ℕ) (r : Row) (place : ℕ) → place < length places → value_at place (put_back places r) ≡ value_at (get_or places place 0) r
put-value [] r place below = absurd (omega arith)
put-value (p ∷ places) r zero below = refl
put-value (p ∷ places) r (suc place) below = put-value places r place (omega arith)

length-range : (from n : ℕ) → length (range_with_len from n) ≡ n
length-range from zero = refl
length-range from (suc n) = ap suc (length-range (from + 1) n)

-- behind as many zeros as there are columns before
behind-zeros : (at n place : ℕ) → at ≤ place → place < at + n → get_or (own_places at n) place 0 ≡ place - at
behind-zeros zero n place above below = at-range 0 n place (omega arith) ∙ omega arith
behind-zeros (suc at) n zero above below = absurd (omega arith)
behind-zeros (suc at) n (suc place) above below = behind-zeros at n place (omega arith) (omega arith) ∙ omega arith

length-own : (at n : ℕ) → length (own_places at n) ≡ at + n
length-own zero n = length-range 0 n ∙ omega arith
length-own (suc at) n = ap suc (length-own at n) ∙ omega arith

pub own-value : (l r : Row) (at n place : ℕ) → length l ≡ at → at ≤ place → place < at + n → value_at place (put_back (own_places at n) r) ≡ value_at place (l ++ r)
own-value l r at n place long above below =
    let whole = length-own at n in
    let within : place < length (own_places at n) = omega arith in
    let behind : length l ≤ place = omega arith in
    put-value (own_places at n) r place within
    ∙ ap (λ p. value_at p r) (behind-zeros at n place above below ∙ ap (λ k. place - k) (sym long))
    ∙ sym (value-back l r place behind)

-- ---- conjuncts of the source alone

test-le : (a b : ℕ) → nat_le a b ≡ true → a ≤ b
test-le a b e = grind (arith, nat_tests)

and-left : (a b : Bool) → (a && b) ≡ true → a ≡ true
and-left true b e = refl
and-left false b e = cc

and-right : (a b : Bool) → (a && b) ≡ true → b ≡ true
and-right true b e = e
and-right false b e = cc

all-own : (l r : Row) (at n : ℕ) → length l ≡ at → (places : List ℕ) → list_all (nat_le at) places ≡ true → top_of places ≤ at + n
    → AllByRecursion (λ place. value_at place (put_back (own_places at n) r) ≡ value_at place (l ++ r)) places
all-own l r at n long [] own within = tt
all-own l r at n long (place ∷ places) own within =
    let above : at ≤ place = test-le at place (and-left (nat_le at place) (list_all (nat_le at) places) own) in (
      own-value l r at n place long above (omega arith),
      all-own l r at n long places (and-right (nat_le at place) (list_all (nat_le at) places) own) (omega arith),
    )

-- A conjunct over the columns of the source says by itself what it says of the whole row.
pub own-says : (l r : Row) (at n : ℕ) → length l ≡ at → (e : Expr) → is_own at e ≡ true → top e ≤ at + n → value_of r (moved (own_places at n) e) ≡ value_of (l ++ r) e
own-says l r at n long e own within =
    moved-value (own_places at n) r e
    ∙ value-agrees (put_back (own_places at n) r) (l ++ r) e
    (all-own l r at n long (columns_of e) (and-right (nat_lt 0 (top e)) (list_all (nat_le at) (columns_of e)) own) within)
