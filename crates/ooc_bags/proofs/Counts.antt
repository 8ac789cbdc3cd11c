-- Where each item of a list stands equally often in another of its length, each test counts equally many in both.
use Rattle.std.proofs.Common.{◌≡◌, ◌+◌, ◌<◌, Bool, true, false, cond, List, [], ◌∷◌, length, refl, sym, ap, ◌∙◌, arith}
use Rattle.std.specs.Prelude.{count_by, ◌==◌}
use Rattle.std.specs.Bool.{Decides}
use Rattle.std.specs.List.{list_all}
use Rattle.std.proofs.lemmas.List.Sums.{sum_by-cons}
use Rattle.std.proofs.lemmas.Bool.{and_parts, and_from}
use Rattle.std.proofs.lemmas.Bool.Decides.{Decides-eqb}

pub count-cons : {A : Type 0} (p : A → Bool) (x : A) (xs : List A) → count_by p (x ∷ xs) ≡ cond (p x) 1 0 + count_by p xs
count-cons p x xs = sum_by-cons (λ y. cond (p y) 1 0) x xs

count-yes : {A : Type 0} (p : A → Bool) (x : A) (xs : List A) → p x ≡ true → count_by p (x ∷ xs) ≡ 1 + count_by p xs
count-yes p x xs e = count-cons p x xs ∙ ap (λ b. cond b 1 0 + count_by p xs) e

count-no : {A : Type 0} (p : A → Bool) (x : A) (xs : List A) → p x ≡ false → count_by p (x ∷ xs) ≡ count_by p xs
count-no p x xs e =
    let step : count_by p (x ∷ xs) ≡ 0 + count_by p xs = count-cons p x xs ∙ ap (λ b. cond b 1 0 + count_by p xs) e in
    omega arith

-- a list counts as long as it is
pub count-all : {A : Type 0} (xs : List A) → count_by (λ x. true) xs ≡ length xs
count-all [] = refl
count-all (x ∷ xs) =
    let step = count-yes (λ y. true) x xs refl in
    let rest = count-all xs in
    omega arith

module _ {A : Type 0} (eq : A → A → Bool) (decides : (a b : A) → Decides (eq a b) (a ≡ b)) where
  -- the list without the first item that equals x
  abbrev without : A → List A → List A
  without x [] = []
  without x (y ∷ ys) = cond (eq x y) ys (y ∷ without x ys)

  taken : (x : A) (ys : List A) (p : A → Bool) → 0 < count_by (eq x) ys → count_by p ys ≡ cond (p x) 1 0 + count_by p (without x ys)
  taken x [] p some = absurd (omega arith)
  taken x (y ∷ ys) p some = elim (eq x y) as (λ b. eq x y ≡ b → count_by p (y ∷ ys) ≡ cond (p x) 1 0 + count_by p (cond b ys (y ∷ without x ys))) [
    | true ↦ λ e. ap (λ z. count_by p (z ∷ ys)) (sym ((decides x y).0 e)) ∙ count-cons p x ys
    | false ↦ λ e.
        let later = count-no (eq x) y ys e in
        let rest = taken x ys p (omega arith) in
        let before = count-cons p y ys in
        let after = count-cons p y (without x ys) in
        omega arith
  ] refl

  pub same_counts : (xs ys : List A) (p : A → Bool) → length xs ≡ length ys → ((x : A) → 0 < count_by (eq x) xs → count_by (eq x) xs ≡ count_by (eq x) ys) → count_by p xs ≡ count_by p ys
  same_counts [] [] p long each = refl
  same_counts [] (y ∷ ys) p long each = absurd (omega arith)
  same_counts (x ∷ xs) ys p long each =
      let first = count-yes (eq x) x xs ((decides x x).1 refl) in
      let both = each x (omega arith) in
      let some : 0 < count_by (eq x) ys = omega arith in
      let left = taken x ys (λ y. true) some in
      let all = count-all ys in
      let rest = count-all (without x ys) in
      let shorter : length xs ≡ length (without x ys) = omega arith in
      let others : (z : A) → 0 < count_by (eq z) xs → count_by (eq z) xs ≡ count_by (eq z) (without x ys) = λ z h.
      let here = count-cons (eq z) x xs in
      let there = taken x ys (eq z) some in
      let equal = each z (omega arith) in
      omega arith in
      let deeper = same_counts xs (without x ys) p shorter others in
      let here = count-cons p x xs in
      let there = taken x ys p some in
      omega arith

  -- what a test says of each item it says of one that is counted
  found : (p : A → Bool) (xs : List A) (z : A) → list_all p xs ≡ true → 0 < count_by (eq z) xs → p z ≡ true
  found p [] z all some = absurd (omega arith)
  found p (x ∷ xs) z all some = elim (eq z x) as (λ b. eq z x ≡ b → p z ≡ true) [
    | true ↦ λ e. ap p ((decides z x).0 e) ∙ (and_parts (p x) (list_all p xs) all).0
    | false ↦ λ e.
        let later = count-no (eq z) x xs e in
        found p xs z (and_parts (p x) (list_all p xs) all).1 (omega arith)
  ] refl

  pub same_from_each : (xs ys : List A) → length xs ≡ length ys → list_all (λ x. count_by (eq x) xs == count_by (eq x) ys) xs ≡ true → (p : A → Bool) → count_by p xs ≡ count_by p ys
  same_from_each xs ys long all p =
      same_counts xs ys p long (λ x some. (Decides-eqb (count_by (eq x) xs) (count_by (eq x) ys)).0 (found (λ z. count_by (eq z) xs == count_by (eq z) ys) xs x all some))

  pub each_from_same : (zs xs ys : List A) → ((p : A → Bool) → count_by p xs ≡ count_by p ys) → list_all (λ x. count_by (eq x) xs == count_by (eq x) ys) zs ≡ true
  each_from_same [] xs ys same = refl
  each_from_same (z ∷ zs) xs ys same =
      and_from (count_by (eq z) xs == count_by (eq z) ys) (list_all (λ x. count_by (eq x) xs == count_by (eq x) ys) zs)
      ((Decides-eqb (count_by (eq z) xs) (count_by (eq z) ys)).1 (same (eq z))) (each_from_same zs xs ys same)

pub same_length : {A : Type 0} (xs ys : List A) → ((p : A → Bool) → count_by p xs ≡ count_by p ys) → length xs ≡ length ys
same_length xs ys same = sym (count-all xs) ∙ same (λ x. true) ∙ count-all ys
