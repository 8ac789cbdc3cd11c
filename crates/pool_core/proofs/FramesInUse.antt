-- Two pages never have one frame, so at most as many are in use as there are.
use Rattle.std.proofs.Common.{◌≡◌, ℕ, zero, suc, ◌<◌, ◌≤◌, true, false, eqb, List, [], ◌∷◌, length, Option, Some, None, refl, sym, ap, subst, inl, inr, arith}
use Rattle.std.specs.Prelude.{slice_get, IsSomeAnd}
use Rattle.std.specs.List.{filter_map, IsDistinct, AllByRecursion, list_any, cons_option}
use Rattle.std.specs.Option.{option_map}
use Rattle.std.proofs.lemmas.Bool.{or_cases, eqb-true, ne_eqb, false≢true}
use Rattle.std.proofs.lemmas.Option.{slice_get_within}
use Rattle.std.proofs.lemmas.Map.Steps.{length-le_from_distinct_below}
use Rattle.evict_ring.specs.declared.frame.Frame.{Frame}
use Rattle.page_body.specs.Bodies.{frame_of}
use Rattle.pool_core.specs.declared.state.CoreTurn.{CoreTurn}
use Rattle.pool_core.specs.declared.state.CorePage.{CorePage}
use Rattle.pool_core.specs.State.{OnTurn}
use Rattle.pool_core.specs.Sound.{HasFrame, PagesLie}
use Rattle.pool_core.specs.Laws.{FramesApart, frame_number, frames_in_use}
use Rattle.pool_core.proofs.Lists.{some_of, of_some}

-- no number of the list is this one
differs : {A : Type 0} (number : A → Option ℕ) (n : ℕ) (xs : List A) → ((j : ℕ) (x : A) → slice_get xs j ≡ Some x → number x ≡ Some n → ⊥) → AllByRecursion (λ y. eqb n y ≡ false) (filter_map number xs)
differs number n [] none = tt
differs number n (x ∷ xs) none = by_first (number x) (none zero x refl) (differs number n xs (λ j y there. none (suc j) y there))
  where
    by_first : (o : Option ℕ) → (o ≡ Some n → ⊥) → AllByRecursion (λ y. eqb n y ≡ false) (filter_map number xs) → AllByRecursion (λ y. eqb n y ≡ false) (cons_option o (filter_map number xs))
    by_first None first rest = rest
    by_first (Some m) first rest = (ne_eqb n m (λ e. first (ap Some (sym e))), rest)

distinct : {A : Type 0} (number : A → Option ℕ) (xs : List A) → ((i j : ℕ) (x y : A) (n : ℕ) → slice_get xs i ≡ Some x → slice_get xs j ≡ Some y → number x ≡ Some n → number y ≡ Some n → i ≡ j)
    → IsDistinct eqb (filter_map number xs)
unfolding IsDistinct
distinct number [] apart = tt
distinct number (x ∷ xs) apart =
    by_first (number x) refl (distinct number xs (λ i j a b n ai bj an bn. let e = apart (suc i) (suc j) a b n ai bj an bn in omega arith))
  where
    by_first : (o : Option ℕ) → number x ≡ o → IsDistinct eqb (filter_map number xs) → IsDistinct eqb (cons_option o (filter_map number xs))
    by_first None e rest = rest
    by_first (Some m) e rest = (differs number m xs (λ j y there is. let e = apart zero (suc j) x y m refl there e is in let h : ⊥ = omega arith in h), rest)

-- a number of the list is below
low : {A : Type 0} (number : A → Option ℕ) (xs : List A) (limit : ℕ) → ((j : ℕ) (x : A) (n : ℕ) → slice_get xs j ≡ Some x → number x ≡ Some n → n < limit) → (q : ℕ) → list_any (eqb q) (filter_map number xs) ≡ true → q < limit
low number [] limit below q e = absurd (false≢true e)
low number (x ∷ xs) limit below q e = by_first (number x) refl (low number xs limit (λ j y n there. below (suc j) y n there) q) e
  where
    by_first : (o : Option ℕ) → number x ≡ o → (list_any (eqb q) (filter_map number xs) ≡ true → q < limit) → list_any (eqb q) (cons_option o (filter_map number xs)) ≡ true → q < limit
    by_first None is rest e = rest e
    by_first (Some m) is rest e =
        elim (or_cases (eqb q m) (list_any (eqb q) (filter_map number xs)) e) [
          | inl here ↦ let same = eqb-true q m here in let small = below zero x m refl is in omega arith
          | inr later ↦ rest later
        ]

numbered : (o : Option Frame) (n : ℕ) → option_map (λ f. f.number) o ≡ Some n → IsSomeAnd o (λ f. f.number ≡ n)
numbered None n e = let h : ⊥ = cc in h
numbered (Some f) n e = let h : f.number ≡ n = cc in h

-- the turn of a page's frame is the page's
owner_is : (bytes : ℕ) (turns : List CoreTurn) (pages : List CorePage) (page n : ℕ) (p : CorePage) → PagesLie bytes turns pages → slice_get pages page ≡ Some p → HasFrame n p.body → OnTurn turns n (λ t. t.turn.owner ≡ Some page)
owner_is bytes turns pages page n p lie there has =
    let some = some_of (frame_of p.body) (λ f. f.number ≡ n) has in
    let P : ℕ → Type 0 = λ k. OnTurn turns k (λ t. t.turn.owner ≡ Some page) in
    subst P some.2 (lie page p there some.0 some.1).1

pub frames_apart : (bytes : ℕ) (turns : List CoreTurn) (pages : List CorePage) → PagesLie bytes turns pages → FramesApart pages
frames_apart bytes turns pages lie p q x y n xp yq xn yn =
    let first = some_of (slice_get turns n) (λ t. t.turn.owner ≡ Some p) (owner_is bytes turns pages p n x lie xp xn) in
    let second = of_some (slice_get turns n) (λ t. t.turn.owner ≡ Some q) first.0 first.1 (owner_is bytes turns pages q n y lie yq yn) in
    let owner = first.2 in
    cc

pub frames_few : (bytes : ℕ) (turns : List CoreTurn) (pages : List CorePage) → PagesLie bytes turns pages → length (frames_in_use pages) ≤ length turns
frames_few bytes turns pages lie =
    let number : CorePage → Option ℕ = λ p. frame_number p.body in
    length-le_from_distinct_below (frames_in_use pages) (length turns)
    (distinct number pages (λ i j x y n xi yj xn yn. frames_apart bytes turns pages lie i j x y n xi yj (numbered (frame_of x.body) n xn) (numbered (frame_of y.body) n yn)))
    (low number pages (length turns) (λ j x n there is.
    let some = some_of (slice_get turns n) (λ t. t.turn.owner ≡ Some j) (owner_is bytes turns pages j n x lie there (numbered (frame_of x.body) n is)) in
    slice_get_within turns n some.0 some.1))
