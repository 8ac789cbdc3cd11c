-- Stages over a rearranged list.
use Rattle.std.proofs.Common.{◌≡◌, ◌+◌, Bool, true, false, cond, ◌&&◌, List, [], ◌∷◌, ◌++◌, refl, sym, ap₂, subst, arith}
use Rattle.std.specs.Prelude.{count_by}
use Rattle.std.proofs.lemmas.List.Sums.{sum_by-cons}
use Rattle.ooc_bags.specs.Bags.{SameBag}
use Rattle.sql_expr.specs.declared.fault.ValueFault.{ValueFault}
use Rattle.sql_meaning.specs.Found.{Found, Row, IsSame, clean, collected, and_then, unless_faulted, if_clean}
use Rattle.sql_meaning.specs.Judged.{kept, judged, verdict_found, plain_first, Condition}
use Rattle.sql_meaning.specs.From.{Source, is_empty, pairs, met, joined, from_behind, nulls}
use Rattle.sql_meaning.specs.Same.{IsSameSource, AreSameSources}
use Rattle.ooc_bags.proofs.Bags.{bag-refl, bag-sym, bag-append, bag-map, bag-flat_map}

pub same-refl : {A : Type 0} (f : Found A) → IsSame f f
same-refl f = record { rows = bag-refl f.rows; faults = bag-refl f.faults }

pub same-sym : {A : Type 0} (f g : Found A) → IsSame f g → IsSame g f
same-sym f g same = record { rows = bag-sym f.rows g.rows same.rows; faults = bag-sym f.faults g.faults same.faults }

pub same-clean : {A : Type 0} (xs ys : List A) → SameBag xs ys → IsSame (clean xs) (clean ys)
same-clean xs ys same = record { rows = same; faults = bag-refl [] }

-- outcomes that are the same, over lists that are the same bag
pub same-collected : {A B : Type 0} (f g : A → Found B) (xs ys : List A) → SameBag xs ys → ((x : A) → IsSame (f x) (g x)) → IsSame (collected f xs) (collected g ys)
same-collected f g xs ys same each = record {
  rows = bag-flat_map (λ x. (f x).rows) (λ x. (g x).rows) xs ys same (λ x. (each x).rows);
  faults = bag-flat_map (λ x. (f x).faults) (λ x. (g x).faults) xs ys same (λ x. (each x).faults);
}

pub same-and_then : {A B : Type 0} (f g : Found A) (m n : List A → Found B) → IsSame f g → ((xs ys : List A) → SameBag xs ys → IsSame (m xs) (n ys)) → IsSame (and_then f m) (and_then g n)
same-and_then f g m n same each = record {
  rows = (each f.rows g.rows same.rows).rows;
  faults = bag-append f.faults g.faults (m f.rows).faults (n g.rows).faults same.faults (each f.rows g.rows same.rows).faults;
}

count-cons : {A : Type 0} (p : A → Bool) (x : A) (xs : List A) → count_by p (x ∷ xs) ≡ cond (p x) 1 0 + count_by p xs
count-cons p x xs = sum_by-cons (λ y. cond (p y) 1 0) x xs

-- a list with an item isn't the same bag as one with none
pub some-none : {A : Type 0} (x : A) (xs : List A) → SameBag (x ∷ xs) [] → ⊥
some-none x xs same =
    let all = same (λ y. true) in
    let here = count-cons (λ y. true) x xs in
    omega arith

pub empty-same : {A : Type 0} (xs ys : List A) → SameBag xs ys → is_empty xs ≡ is_empty ys
empty-same [] [] same = refl
empty-same [] (y ∷ ys) same = absurd (some-none y ys (bag-sym [] (y ∷ ys) same))
empty-same (x ∷ xs) [] same = absurd (some-none x xs same)
empty-same (x ∷ xs) (y ∷ ys) same = refl

pub same-unless_faulted : {A : Type 0} (xs ys : List ValueFault) (f g : Found A) → SameBag xs ys → IsSame f g → IsSame (unless_faulted xs f) (unless_faulted ys g)
same-unless_faulted [] [] f g bag same = same
same-unless_faulted [] (y ∷ ys) f g bag same = absurd (some-none y ys (bag-sym [] (y ∷ ys) bag))
same-unless_faulted (x ∷ xs) [] f g bag same = absurd (some-none x xs bag)
same-unless_faulted (x ∷ xs) (y ∷ ys) f g bag same = record { rows = bag-refl []; faults = bag }

pub same-if_clean : {A B : Type 0} (f g : Found A) (m n : List A → Found B) → IsSame f g → ((xs ys : List A) → SameBag xs ys → IsSame (m xs) (n ys)) → IsSame (if_clean f m) (if_clean g n)
same-if_clean f g m n same each = same-unless_faulted f.faults g.faults (m f.rows) (n g.rows) same.faults (each f.rows g.rows same.rows)

pub same-kept : (conjuncts : List Condition) (xs ys : List Row) → SameBag xs ys → IsSame (kept conjuncts xs) (kept conjuncts ys)
same-kept conjuncts xs ys same =
    let f : Row → Found Row = λ row. verdict_found row (judged (plain_first conjuncts) row) in
    same-collected f f xs ys same (λ row. same-refl (f row))

same-padding : (b c : Bool) (left : Row) (f g : Found Row) → b ≡ c → IsSame f g → IsSame (cond b (clean (left ∷ [])) f) (cond c (clean (left ∷ [])) g)
same-padding true true left f g e same = same-refl (clean (left ∷ []))
same-padding false false left f g e same = same
same-padding true false left f g e same = cc
same-padding false true left f g e same = cc

same-kept-at : (c d : List Condition) (xs ys : List Row) → c ≡ d → SameBag xs ys → IsSame (kept c xs) (kept d ys)
same-kept-at c d xs ys e same = subst (λ z. IsSame (kept c xs) (kept z ys)) e (same-kept c xs ys same)

pub same-met : (s t : Source) → IsSameSource s t → (left : Row) → IsSame (met s left) (met t left)
same-met s t same left =
    let here = kept s.on (pairs left s.found.rows) in
    let there = kept t.on (pairs left t.found.rows) in
    let both : IsSame here there = same-kept-at s.on t.on (pairs left s.found.rows) (pairs left t.found.rows) same.on
    (bag-map (λ right. left ++ right) s.found.rows t.found.rows same.found.rows) in
    let none : (is_empty here.rows && is_empty here.faults) ≡ (is_empty there.rows && is_empty there.faults) =
    ap₂ ◌&&◌ (empty-same here.rows there.rows both.rows) (empty-same here.faults there.faults both.faults) in
    subst (λ w. IsSame (cond (s.pads && (is_empty here.rows && is_empty here.faults)) (clean ((left ++ nulls w) ∷ [])) here) (met t left)) (sym same.width)
    (same-padding (s.pads && (is_empty here.rows && is_empty here.faults)) (t.pads && (is_empty there.rows && is_empty there.faults))
    (left ++ nulls t.width) here there (ap₂ ◌&&◌ same.pads none) both)

pub same-joined : (s t : Source) → IsSameSource s t → (xs ys : List Row) → SameBag xs ys → IsSame (joined s xs) (joined t ys)
same-joined s t same xs ys bag = same-collected (met s) (met t) xs ys bag (same-met s t same)

pub same-from : (ss ts : List Source) → AreSameSources ss ts → (xs ys : List Row) → SameBag xs ys → IsSame (from_behind ss xs) (from_behind ts ys)
same-from [] [] same xs ys bag = same-clean xs ys bag
same-from [] (t ∷ ts) same xs ys bag = absurd same
same-from (s ∷ ss) [] same xs ys bag = absurd same
same-from (s ∷ ss) (t ∷ ts) same xs ys bag =
    same-and_then (joined s xs) (joined t ys) (from_behind ss) (from_behind ts) (same-joined s t same.0 xs ys bag) (same-from ss ts same.1)
