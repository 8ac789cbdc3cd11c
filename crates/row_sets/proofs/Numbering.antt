-- The numbers of heap pages.
use Rattle.std.proofs.Common.{◌≡◌, ◌≢◌, ℕ, zero, suc, ◌+◌, ◌-◌, ◌<◌, ◌≤◌, List, [], get_or, refl, ap, inl, inr, ◌∙◌, arith, eq-eqb, ne_eqb}
use Rattle.std.specs.Prelude.{◌==◌, if◌then◌else◌}
use Rattle.std.proofs.lemmas.Bool.{lt-ltb, le-ltb, cases_lt}
use Rattle.row_image.specs.Image.{no_heap}
use Rattle.row_sets.specs.Writers.{number_of}

number_below : (first k : ℕ) → first + k < no_heap → number_of first k ≡ first + k
number_below first k low = ap (λ b. if b then first + k else first + k - no_heap) (lt-ltb (first + k) no_heap low)

number_above : (first k : ℕ) → no_heap ≤ first + k → number_of first k ≡ first + k - no_heap
number_above first k high = ap (λ b. if b then first + k else first + k - no_heap) (le-ltb (first + k) no_heap high)

pub number_low : (first k : ℕ) → first < no_heap → k ≤ 4 → number_of first k < no_heap
number_low first k low few = elim (cases_lt (first + k) no_heap) [
  | inl below ↦ let e = number_below first k below in omega (arith, e, below)
  | inr above ↦ let e = number_above first k above in omega (arith, e, above, low, few)
]

-- two heap pages of a row page have two numbers
pub number_apart : (first j k : ℕ) → first < no_heap → j ≤ 4 → k ≤ 4 → number_of first j ≡ number_of first k → j ≡ k
number_apart first j k low jf kf same = elim (cases_lt (first + j) no_heap) [
  | inl a ↦ elim (cases_lt (first + k) no_heap) [
    | inl b ↦ let e = number_below first j a in let f = number_below first k b in omega (arith, e, f, same)
    | inr b ↦ let e = number_below first j a in let f = number_above first k b in absurd (omega (arith, e, f, same, low, kf))
  ]
  | inr a ↦ elim (cases_lt (first + k) no_heap) [
    | inl b ↦ let e = number_above first j a in let f = number_below first k b in absurd (omega (arith, e, f, same, low, jf))
    | inr b ↦ let e = number_above first j a in let f = number_above first k b in omega (arith, e, f, same, a, b)
  ]
]

-- the heap pages of a row page by their numbers
abbrev pub by_number : ℕ → List (List ℕ) → ℕ → List ℕ
by_number first heaps n =
    if n == number_of first 0 then get_or heaps 0 []
    else (if n == number_of first 1 then get_or heaps 1 []
    else (if n == number_of first 2 then get_or heaps 2 []
    else (if n == number_of first 3 then get_or heaps 3 [] else [])))

module _ (first : ℕ) (heaps : List (List ℕ)) (n : ℕ) where
  at0 : n ≡ number_of first 0 → by_number first heaps n ≡ get_or heaps 0 []
  at0 e = ap (λ b. if b then get_or heaps 0 [] else (if n == number_of first 1 then get_or heaps 1 [] else (if n == number_of first 2 then get_or heaps 2 [] else (if n == number_of first 3 then get_or heaps 3 [] else [])))) (eq-eqb n (number_of first 0) e)

  not0 : n ≢ number_of first 0 → by_number first heaps n ≡ (if n == number_of first 1 then get_or heaps 1 [] else (if n == number_of first 2 then get_or heaps 2 [] else (if n == number_of first 3 then get_or heaps 3 [] else [])))
  not0 ne = ap (λ b. if b then get_or heaps 0 [] else (if n == number_of first 1 then get_or heaps 1 [] else (if n == number_of first 2 then get_or heaps 2 [] else (if n == number_of first 3 then get_or heaps 3 [] else [])))) (ne_eqb n (number_of first 0) ne)

  at1 : n ≢ number_of first 0 → n ≡ number_of first 1 → by_number first heaps n ≡ get_or heaps 1 []
  at1 a e = not0 a ∙ ap (λ b. if b then get_or heaps 1 [] else (if n == number_of first 2 then get_or heaps 2 [] else (if n == number_of first 3 then get_or heaps 3 [] else []))) (eq-eqb n (number_of first 1) e)

  not1 : n ≢ number_of first 0 → n ≢ number_of first 1 → by_number first heaps n ≡ (if n == number_of first 2 then get_or heaps 2 [] else (if n == number_of first 3 then get_or heaps 3 [] else []))
  not1 a ne = not0 a ∙ ap (λ b. if b then get_or heaps 1 [] else (if n == number_of first 2 then get_or heaps 2 [] else (if n == number_of first 3 then get_or heaps 3 [] else []))) (ne_eqb n (number_of first 1) ne)

  at2 : n ≢ number_of first 0 → n ≢ number_of first 1 → n ≡ number_of first 2 → by_number first heaps n ≡ get_or heaps 2 []
  at2 a b e = not1 a b ∙ ap (λ b. if b then get_or heaps 2 [] else (if n == number_of first 3 then get_or heaps 3 [] else [])) (eq-eqb n (number_of first 2) e)

  not2 : n ≢ number_of first 0 → n ≢ number_of first 1 → n ≢ number_of first 2 → by_number first heaps n ≡ (if n == number_of first 3 then get_or heaps 3 [] else [])
  not2 a b ne = not1 a b ∙ ap (λ b. if b then get_or heaps 2 [] else (if n == number_of first 3 then get_or heaps 3 [] else [])) (ne_eqb n (number_of first 2) ne)

  at3 : n ≢ number_of first 0 → n ≢ number_of first 1 → n ≢ number_of first 2 → n ≡ number_of first 3 → by_number first heaps n ≡ get_or heaps 3 []
  at3 a b c e = not2 a b c ∙ ap (λ b. if b then get_or heaps 3 [] else []) (eq-eqb n (number_of first 3) e)

  not3 : n ≢ number_of first 0 → n ≢ number_of first 1 → n ≢ number_of first 2 → n ≢ number_of first 3 → by_number first heaps n ≡ []
  not3 a b c ne = not2 a b c ∙ ap (λ b. if b then get_or heaps 3 [] else []) (ne_eqb n (number_of first 3) ne)

apart : (first j k : ℕ) → first < no_heap → j ≤ 4 → k ≤ 4 → j ≢ k → number_of first j ≢ number_of first k
apart first j k low jf kf ne = λ e. ne (number_apart first j k low jf kf e)

pub here_at : (first : ℕ) (heaps : List (List ℕ)) (k : ℕ) → first < no_heap → k < 4 → by_number first heaps (number_of first k) ≡ get_or heaps k []
here_at first heaps zero low few = at0 first heaps (number_of first 0) refl
here_at first heaps (suc zero) low few = at1 first heaps (number_of first 1) (apart first 1 0 low (omega arith) (omega arith) (omega arith)) refl
here_at first heaps (suc (suc zero)) low few = at2 first heaps (number_of first 2) (apart first 2 0 low (omega arith) (omega arith) (omega arith)) (apart first 2 1 low (omega arith) (omega arith) (omega arith)) refl
here_at first heaps (suc (suc (suc zero))) low few = at3 first heaps (number_of first 3) (apart first 3 0 low (omega arith) (omega arith) (omega arith)) (apart first 3 1 low (omega arith) (omega arith) (omega arith)) (apart first 3 2 low (omega arith) (omega arith) (omega arith)) refl
here_at first heaps (suc (suc (suc (suc k)))) low few = absurd (omega (arith, few))

pub here_none : (first : ℕ) (heaps : List (List ℕ)) → first < no_heap → by_number first heaps no_heap ≡ []
here_none first heaps low = not3 first heaps no_heap
    (λ e. let l = number_low first 0 low (omega arith) in absurd (omega (arith, e, l)))
    (λ e. let l = number_low first 1 low (omega arith) in absurd (omega (arith, e, l)))
    (λ e. let l = number_low first 2 low (omega arith) in absurd (omega (arith, e, l)))
    (λ e. let l = number_low first 3 low (omega arith) in absurd (omega (arith, e, l)))
