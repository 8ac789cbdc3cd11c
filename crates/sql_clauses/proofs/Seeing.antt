-- How many places are seen, item by item.
use Rattle.std.proofs.Common.{◌≡◌, ℕ, ◌+◌, ◌<◌, ◌≤◌, Bool, true, false, cond, List, [], ◌∷◌, refl, ap, ◌∙◌, get_or, drop, length}
use Rattle.sql_scope.proofs.Finding.{item_behind, nothing_behind}
use Rattle.sql_clauses.specs.declared.places.Seen.{Seen}
use Rattle.sql_clauses.specs.declared.places.Seen.TheVariants.{Nothing, Several}
use Rattle.sql_clauses.specs.Places.{places, seen, one_more, counted}

-- what is seen where these come after what was
abbrev pub after : Seen → List ℕ → Seen
after before [] = before
after before (place ∷ more) = after (one_more before place) more

several : (list : List ℕ) → after Several list ≡ Several
several [] = refl
several (place ∷ list) = several list

pub seen_is : (list : List ℕ) → after Nothing list ≡ seen list
seen_is [] = refl
seen_is (place ∷ []) = refl
seen_is (place ∷ other ∷ list) = several list

counted_after : (holds : Bool) (before : Seen) (place : ℕ) (list : List ℕ) → after before (cond holds (place ∷ list) list) ≡ after (counted holds before place) list
counted_after true before place list = refl
counted_after false before place list = refl

pub next_place : {A : Type 0} (test : A → Bool) (before : Seen) (i : ℕ) (items : List A) (item : A) → i < length items → item ≡ get_or items i item
    → after before (places test i (drop i items)) ≡ after (counted (test item) before i) (places test (i + 1) (drop (i + 1) items))
next_place test before i items item h is =
    ap (λ list. after before (places test i list)) (item_behind items i item h is)
    ∙ counted_after (test item) before i (places test (i + 1) (drop (i + 1) items))

pub last_place : {A : Type 0} (test : A → Bool) (before : Seen) (i : ℕ) (items : List A) → length items ≤ i → after before (places test i (drop i items)) ≡ before
last_place test before i items h = ap (λ list. after before (places test i list)) (nothing_behind items i h)
