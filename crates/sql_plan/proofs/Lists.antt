-- A list that is made item by item: what was made, and what the rest gives, is the whole.
use Rattle.std.proofs.Common.{◌≡◌, ℕ, Bool, true, false, zero, suc, ◌+◌, ◌<◌, ◌≤◌, List, [], ◌∷◌, ◌++◌, map, refl, sym, ap, ◌∙◌, get_or, take, drop, length, arith, append_assoc}
use Rattle.std.specs.List.{list_all, range_with_len}
use Rattle.std.specs.Prelude.{◌&&◌, min, Result, Ok, Err, IfOk}
use Rattle.std.proofs.lemmas.List.{drop_all}
use Rattle.sql_plan.specs.Steps.{GoesOnBoth}

pub drop_is : {A : Type 0} → (list : List A) (i : ℕ) (x : A) → i < length list → x ≡ get_or list i x → drop i list ≡ x ∷ drop (i + 1) list
drop_is [] i x h is = absurd (omega arith)
drop_is (y ∷ list) zero x h is = ap (λ z. z ∷ list) (sym is)
drop_is (y ∷ list) (suc i) x h is =
    let next : suc (i + 1) ≡ suc i + 1 = omega arith in
    drop_is list i x (omega arith) is ∙ ap (λ n. x ∷ drop n (y ∷ list)) next

pub append_nil : {A : Type 0} → (xs : List A) → xs ++ [] ≡ xs
append_nil [] = refl
append_nil (x ∷ xs) = ap (λ ys. x ∷ ys) (append_nil xs)

pub record SoFar {B E : Type 0} (whole : List B) (got : Result (List B) E) (rest : List B) : Type 0 where
  pub goes_on : IfOk got (λ made. made ++ rest ≡ whole)

pub begins : {B E : Type 0} → (whole : List B) (got : Result (List B) E) → IfOk got (λ made. made ≡ []) → SoFar whole got whole
begins whole (Ok made) is = record { goes_on = ap (λ xs. xs ++ whole) is }
begins whole (Err e) is = record { goes_on = tt }

pub goes_one_further : {B E : Type 0} → (whole before rest : List B) (got : Result (List B) E) (item : Result B E) (result : Result (List B) E) (y : B)
    → before ≡ y ∷ rest → SoFar whole got before → IfOk item (λ b. b ≡ y) → GoesOnBoth (λ made b. made ++ b ∷ []) got item result → SoFar whole result rest
goes_one_further whole before rest got item (Err e) y is far one on = record { goes_on = tt }
goes_one_further whole before rest (Err e) item (Ok made) y is far one on = absurd on
goes_one_further whole before rest (Ok so_far) (Err e) (Ok made) y is far one on = absurd on
goes_one_further whole before rest (Ok so_far) (Ok b) (Ok made) y is far one on = record {
  goes_on =
      ap (λ xs. xs ++ rest) on
      ∙ append_assoc so_far (b ∷ []) rest
      ∙ ap (λ z. so_far ++ z ∷ rest) one
      ∙ ap (λ xs. so_far ++ xs) (sym is)
      ∙ far.goes_on;
}

pub goes_further : {A B E : Type 0} → (f : A → B) (whole : List B) (got : Result (List B) E) (item : Result B E) (result : Result (List B) E) (list : List A) (i : ℕ) (x : A)
    → i < length list → x ≡ get_or list i x → SoFar whole got (map f (drop i list)) → IfOk item (λ b. b ≡ f x) → GoesOnBoth (λ made b. made ++ b ∷ []) got item result
    → SoFar whole result (map f (drop (i + 1) list))
goes_further f whole got item result list i x h is far one on =
    goes_one_further whole (map f (drop i list)) (map f (drop (i + 1) list)) got item result (f x) (ap (map f) (drop_is list i x h is)) far one on

pub ends : {A B E : Type 0} → (f : A → B) (whole : List B) (got : Result (List B) E) (list : List A) (i : ℕ) → length list ≤ i
    → SoFar whole got (map f (drop i list)) → IfOk got (λ made. made ≡ whole)
ends f whole (Err e) list i h far = tt
ends f whole (Ok made) list i h far =
    sym (append_nil made) ∙ ap (λ xs. made ++ map f xs) (sym (drop_all i list h)) ∙ far.goes_on

-- ---- the same where a list is pushed to

pub next_made : {A B : Type 0} → (F : List A → List B) (made new whole : List B) (list : List A) (i : ℕ) (x : A) (y : B) → i < length list → x ≡ get_or list i x
    → ((xs : List A) → F (x ∷ xs) ≡ y ∷ F xs) → new ≡ made ++ y ∷ [] → made ++ F (drop i list) ≡ whole → new ++ F (drop (i + 1) list) ≡ whole
next_made F made new whole list i x y h is gives pushed so_far =
    ap (λ xs. xs ++ F (drop (i + 1) list)) pushed
    ∙ append_assoc made (y ∷ []) (F (drop (i + 1) list))
    ∙ ap (λ xs. made ++ xs) (sym (gives (drop (i + 1) list)))
    ∙ ap (λ xs. made ++ F xs) (sym (drop_is list i x h is))
    ∙ so_far

pub next_skipped : {A B : Type 0} → (F : List A → List B) (made whole : List B) (list : List A) (i : ℕ) (x : A) → i < length list → x ≡ get_or list i x
    → ((xs : List A) → F (x ∷ xs) ≡ F xs) → made ++ F (drop i list) ≡ whole → made ++ F (drop (i + 1) list) ≡ whole
next_skipped F made whole list i x h is gives so_far =
    ap (λ xs. made ++ xs) (sym (gives (drop (i + 1) list))) ∙ ap (λ xs. made ++ F xs) (sym (drop_is list i x h is)) ∙ so_far

pub all_made : {A B : Type 0} → (F : List A → List B) (made whole : List B) (list : List A) (i : ℕ) → length list ≤ i → F [] ≡ [] → made ++ F (drop i list) ≡ whole → made ≡ whole
all_made F made whole list i h none so_far =
    sym (append_nil made) ∙ ap (λ xs. made ++ xs) (sym none) ∙ ap (λ xs. made ++ F xs) (sym (drop_all i list h)) ∙ so_far

-- ---- tests

pub all_next : {A : Type 0} → (p : A → Bool) (list : List A) (i : ℕ) (x : A) (whole : Bool) → i < length list → x ≡ get_or list i x → p x ≡ true → list_all p (drop i list) ≡ whole
    → list_all p (drop (i + 1) list) ≡ whole
all_next p list i x whole h is passes so_far = sym (ap (list_all p) (drop_is list i x h is) ∙ ap (λ b. b && list_all p (drop (i + 1) list)) passes) ∙ so_far

pub all_stops : {A : Type 0} → (p : A → Bool) (list : List A) (i : ℕ) (x : A) (whole : Bool) → i < length list → x ≡ get_or list i x → p x ≡ false → list_all p (drop i list) ≡ whole
    → false ≡ whole
all_stops p list i x whole h is fails so_far = sym (ap (list_all p) (drop_is list i x h is) ∙ ap (λ b. b && list_all p (drop (i + 1) list)) fails) ∙ so_far

pub all_done : {A : Type 0} → (p : A → Bool) (list : List A) (i : ℕ) (whole : Bool) → length list ≤ i → list_all p (drop i list) ≡ whole → true ≡ whole
all_done p list i whole h so_far = sym (ap (list_all p) (drop_all i list h)) ∙ so_far

-- ---- ranges and cuts

pub range_more : (a n m j : ℕ) → m ≡ n + 1 → j ≡ a + n → range_with_len a m ≡ range_with_len a n ++ j ∷ []
range_more a zero m j e f = let one : m ≡ suc zero = omega arith in let same : j ≡ a = omega arith in ap (range_with_len a) one ∙ ap (λ k. k ∷ []) (sym same)
range_more a (suc n) m j e f =
    let more : m ≡ suc (n + 1) = omega arith in
    ap (range_with_len a) more ∙ ap (λ l. a ∷ l) (range_more (a + 1) n (n + 1) j refl (omega arith))

take_none : (A : Type 0) (n : ℕ) → take {A = A} n [] ≡ []
take_none A zero = refl
take_none A (suc n) = refl

drop_none : (A : Type 0) (n : ℕ) → drop {A = A} n [] ≡ []
drop_none A zero = refl
drop_none A (suc n) = refl

pub take_least : {A : Type 0} → (xs : List A) (n : ℕ) → take (min (length xs) n) xs ≡ take n xs
take_least {A = A} [] n = take_none A (min 0 n) ∙ sym (take_none A n)
take_least (x ∷ xs) zero = let e : min (suc (length xs)) 0 ≡ 0 = omega arith in ap (λ n. take n (x ∷ xs)) e
take_least (x ∷ xs) (suc n) = let e : min (suc (length xs)) (suc n) ≡ suc (min (length xs) n) = omega arith in ap (λ n. take n (x ∷ xs)) e ∙ ap (λ l. x ∷ l) (take_least xs n)

pub drop_least : {A : Type 0} → (xs : List A) (n : ℕ) → drop (min (length xs) n) xs ≡ drop n xs
drop_least {A = A} [] n = drop_none A (min 0 n) ∙ sym (drop_none A n)
drop_least (x ∷ xs) zero = let e : min (suc (length xs)) 0 ≡ 0 = omega arith in ap (λ n. drop n (x ∷ xs)) e
drop_least (x ∷ xs) (suc n) = let e : min (suc (length xs)) (suc n) ≡ suc (min (length xs) n) = omega arith in ap (λ n. drop n (x ∷ xs)) e ∙ drop_least xs n
