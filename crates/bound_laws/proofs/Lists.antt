-- Lists of which every item has a fact.
use Rattle.std.proofs.Common.{ℕ, zero, suc, Bool, true, false, cond, List, [], ◌∷◌, ◌++◌, map, take, drop}
use Rattle.std.specs.Prelude.{flat_map, not, replicate}
use Rattle.std.specs.Ordering.{is_gt}
use Rattle.std.specs.declared.cmp.Ordering.{Ordering}
use Rattle.std.specs.List.{AllByRecursion}
use Rattle.ooc_bags.specs.Firsts.{firsts_by}
use Rattle.sql_expr.specs.declared.fault.ValueFault.{ValueFault}
use Rattle.sql_meaning.specs.Found.{Found, unless_faulted}
use Rattle.sql_meaning.specs.Ordered.{placed, sorted}
use Rattle.plan_tree.proofs.JoinLemmas.{all-kept}

module _ {A : Type 0} (P : A → Type 0) where
  pub all-append : (xs ys : List A) → AllByRecursion P xs → AllByRecursion P ys → AllByRecursion P (xs ++ ys)
  all-append [] ys a b = b
  all-append (x ∷ xs) ys a b = (a.0, all-append xs ys a.1 b)

  pub all-flat : {B : Type 0} (f : B → List A) (xs : List B) → ((x : B) → AllByRecursion P (f x)) → AllByRecursion P (flat_map f xs)
  all-flat f [] all = tt
  all-flat f (x ∷ xs) all = all-append (f x) (flat_map f xs) (all x) (all-flat f xs all)

  pub all-firsts : (eq : A → A → Bool) (xs : List A) → AllByRecursion P xs → AllByRecursion P (firsts_by eq xs)
  all-firsts eq [] all = tt
  all-firsts eq (x ∷ xs) all = (all.0, all-kept P (λ other. not (eq x other)) (firsts_by eq xs) (all-firsts eq xs all.1))

  pub all-copies : (n : ℕ) (x : A) → P x → AllByRecursion P (replicate n x)
  all-copies zero x h = tt
  all-copies (suc n) x h = (h, all-copies n x h)

  pub all-times : (f : A → ℕ) (xs : List A) → AllByRecursion P xs → AllByRecursion P (flat_map (λ x. replicate (f x) x) xs)
  all-times f [] all = tt
  all-times f (x ∷ xs) all = all-append (replicate (f x) x) (flat_map (λ y. replicate (f y) y) xs) (all-copies (f x) x all.0) (all-times f xs all.1)

  pub all-placed : (cmp : A → A → Ordering) (x : A) (xs : List A) → P x → AllByRecursion P xs → AllByRecursion P (placed cmp x xs)
  all-placed cmp x [] h all = (h, tt)
  all-placed cmp x (y ∷ ys) h all = by (is_gt (cmp x y)) (all-placed cmp x ys h all.1)
    where
      by : (b : Bool) → AllByRecursion P (placed cmp x ys) → AllByRecursion P (cond b (y ∷ placed cmp x ys) (x ∷ y ∷ ys))
      by true later = (all.0, later)
      by false later = (h, all)

  pub all-sorted : (cmp : A → A → Ordering) (xs : List A) → AllByRecursion P xs → AllByRecursion P (sorted cmp xs)
  all-sorted cmp [] all = tt
  all-sorted cmp (x ∷ xs) all = all-placed cmp x (sorted cmp xs) all.0 (all-sorted cmp xs all.1)

  pub all-drop : (n : ℕ) (xs : List A) → AllByRecursion P xs → AllByRecursion P (drop n xs)
  all-drop zero xs all = all
  all-drop (suc n) [] all = tt
  all-drop (suc n) (x ∷ xs) all = all-drop n xs all.1

  pub all-take : (n : ℕ) (xs : List A) → AllByRecursion P xs → AllByRecursion P (take n xs)
  all-take zero xs all = tt
  all-take (suc n) [] all = tt
  all-take (suc n) (x ∷ xs) all = (all.0, all-take n xs all.1)

  pub all-unless : (faults : List ValueFault) (found : Found A) → AllByRecursion P found.rows → AllByRecursion P (unless_faulted faults found).rows
  all-unless [] found all = all
  all-unless (fault ∷ faults) found all = tt

-- a fact of the items brings one of what they give
pub all-given : {A B : Type 0} (P : A → Type 0) (Q : B → Type 0) (f : A → List B) → ((x : A) → P x → AllByRecursion Q (f x)) → (xs : List A) → AllByRecursion P xs → AllByRecursion Q (flat_map f xs)
all-given P Q f to [] all = tt
all-given P Q f to (x ∷ xs) all = all-append Q (f x) (flat_map f xs) (to x all.0) (all-given P Q f to xs all.1)

pub all-over : {A B : Type 0} (P : A → Type 0) (Q : B → Type 0) (f : A → B) → ((x : A) → P x → Q (f x)) → (xs : List A) → AllByRecursion P xs → AllByRecursion Q (map f xs)
all-over P Q f to [] all = tt
all-over P Q f to (x ∷ xs) all = (to x all.0, all-over P Q f to xs all.1)
