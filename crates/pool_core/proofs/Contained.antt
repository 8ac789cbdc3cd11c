-- What a list has, after one element less, a filter, or a push.
use Rattle.std.proofs.Common.{◌≡◌, ◌≢◌, ◌⊎◌, ℕ, zero, suc, ◌<◌, Bool, true, false, eqb, List, [], ◌∷◌, length, get_or, Option, Some, None, sym, ap, ◌∙◌, inl, inr, arith}
use Rattle.std.specs.Prelude.{filter}
use Rattle.std.specs.List.{Contains, list_any}
use Rattle.std.proofs.lemmas.Bool.{cases_Bool, or_cases, or_parts, eqb-true, eq-eqb, false≢true}
use Rattle.pool_core.specs.Readers.{without_one}
use Rattle.pool_core.specs.Effects.{names_page}

pub nothing_in : {A : Type 0} (x : A) → Contains [] x → ⊥
nothing_in x h = let low = h.1 in omega arith

by_place : {A : Type 0} (y x : A) (ys : List A) (k : ℕ) → k < length (y ∷ ys) → get_or (y ∷ ys) k x ≡ x → (y ≡ x) ⊎ Contains ys x
by_place y x ys zero low e = inl e
by_place y x ys (suc k) low e = inr (k, omega arith, e)

pub first_or_later : {A : Type 0} (y x : A) (ys : List A) → Contains (y ∷ ys) x → (y ≡ x) ⊎ Contains ys x
first_or_later y x ys h = by_place y x ys h.0 h.1 h.2

pub as_first : {A : Type 0} (y x : A) (ys : List A) → y ≡ x → Contains (y ∷ ys) x
as_first y x ys e = (zero, omega arith, e)

pub as_later : {A : Type 0} (y x : A) (ys : List A) → Contains ys x → Contains (y ∷ ys) x
as_later y x ys h = (suc h.0, let low = h.1 in omega arith, h.2)

-- one claim of an actor less takes no other actor's
pub others_stay : (actor other : ℕ) (xs : List ℕ) → other ≢ actor → Contains xs other → Contains (without_one actor xs) other
others_stay actor other [] ne h = h
others_stay actor other (x ∷ xs) ne h =
    let P : List ℕ → Type 0 = λ ys. Contains ys other in
    elim (cases_Bool (eqb x actor)) [
      | inl same ↦ rw same (elim (first_or_later x other xs h) [ inl e ↦ absurd (ne (sym e ∙ eqb-true x actor same)) | inr later ↦ later ])
      | inr differs ↦ rw differs (elim (first_or_later x other xs h) [
        | inl e ↦ as_first x other (without_one actor xs) e
        | inr later ↦ as_later x other (without_one actor xs) (others_stay actor other xs ne later)
      ])
    ]

pub found_in : (actor : ℕ) (xs : List ℕ) → list_any (λ x. eqb x actor) xs ≡ true → Contains xs actor
found_in actor [] e = absurd (false≢true e)
found_in actor (x ∷ xs) e =
    elim (or_cases (eqb x actor) (list_any (λ x. eqb x actor) xs) e) [
      | inl here ↦ as_first x actor xs (eqb-true x actor here)
      | inr later ↦ as_later x actor xs (found_in actor xs later)
    ]

-- what a filter leaves was there, and passes
pub passed : {A : Type 0} (test : A → Bool) (xs : List A) (x : A) → Contains (filter test xs) x → Contains xs x × (test x ≡ true)
passed test [] x h = absurd (nothing_in x h)
passed test (y ∷ ys) x h =
    elim (cases_Bool (test y)) [
      | inl pass ↦ elim (first_or_later y x (filter test ys) (rw pass at h)) [
        | inl e ↦ (as_first y x ys e, ap test (sym e) ∙ pass)
        | inr later ↦ let both = passed test ys x later in (as_later y x ys both.0, both.1)
      ]
      | inr no_one ↦ let both = passed test ys x (rw no_one at h) in (as_later y x ys both.0, both.1)
    ]

-- a page that no name names isn't named at any place
pub not_named : (heaps : List (Option ℕ)) (page part heap : ℕ) → list_any (λ h. names_page page h) heaps ≡ false → get_or heaps part None ≡ Some heap → heap ≢ page
not_named [] page part heap none e same = let h : ⊥ = cc in h
not_named (h ∷ hs) page zero heap none e same =
    let first = (or_parts (names_page page h) (list_any (λ h. names_page page h) hs) none).0 in
    let named : names_page page h ≡ true = ap (names_page page) e ∙ eq-eqb heap page same in
    false≢true (sym first ∙ named)
not_named (h ∷ hs) page (suc part) heap none e same =
    not_named hs page part heap (or_parts (names_page page h) (list_any (λ h. names_page page h) hs) none).1 e same
