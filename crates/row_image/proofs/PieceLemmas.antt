-- A list made of pieces, one behind the other.
use Rattle.std.proofs.Common.{◌≡◌, ℕ, zero, suc, ◌+◌, ◌<◌, ◌≤◌, List, [], ◌∷◌, ◌++◌, length, get_or, sym, ap, ◌∙◌, arith, inl, inr, length-append}
use Rattle.std.specs.List.{range_with_len, flat_map}
use Rattle.std.proofs.lemmas.Bool.{cases_eq}
use Rattle.std.proofs.lemmas.Grind.{flat_map-append}
use Rattle.std.proofs.lemmas.List.{append-nil, get_or-append-add, get_or_append_left}

range_more : (a n : ℕ) → range_with_len a (n + 1) ≡ range_with_len a n ++ (a + n) ∷ []
range_more a zero = ap (λ k. k ∷ []) (let e : a ≡ a + 0 = omega arith in e)
range_more a (suc n) = ap (range_with_len a) (let e : suc n + 1 ≡ suc (n + 1) = omega arith in e) ∙ ap (λ ks. a ∷ ks) (range_more (a + 1) n ∙ ap (λ k. range_with_len (a + 1) n ++ k ∷ []) (let e : a + 1 + n ≡ a + suc n = omega arith in e))

pub flat_more : {X : Type 0} (F : ℕ → List X) (n : ℕ) → flat_map F (range_with_len 0 (n + 1)) ≡ flat_map F (range_with_len 0 n) ++ F n
flat_more F n =
    ap (flat_map F) (range_more 0 n ∙ ap (λ k. range_with_len 0 n ++ k ∷ []) (let e : 0 + n ≡ n = omega arith in e))
    ∙ flat_map-append F (range_with_len 0 n) (n ∷ []) ∙ ap (λ xs. flat_map F (range_with_len 0 n) ++ xs) (append-nil (F n))

-- where the pieces begin
pub record Laid {X : Type 0} (F : ℕ → List X) (at : ℕ → ℕ) (n : ℕ) : Type 0 where
  pub first : at 0 ≡ 0
  pub next : (k : ℕ) → k < n → at (k + 1) ≡ at k + length (F k)

laid_front : {X : Type 0} (F : ℕ → List X) (at : ℕ → ℕ) (n : ℕ) → Laid F at (suc n) → Laid F at n
laid_front F at n h = record { first = h.first; next = λ k inside. h.next k (omega arith) }

pub pieces_length : {X : Type 0} (F : ℕ → List X) (at : ℕ → ℕ) (n : ℕ) → Laid F at n → length (flat_map F (range_with_len 0 n)) ≡ at n
pieces_length F at zero h = sym h.first
pieces_length F at (suc n) h =
    let e : suc n ≡ n + 1 = omega arith in
    ap (λ m. length (flat_map F (range_with_len 0 m))) e ∙ ap length (flat_more F n) ∙ length-append (flat_map F (range_with_len 0 n)) (F n)
    ∙ omega (arith, pieces_length F at n (laid_front F at n h), h.next n (omega arith), ap at e)

laid_below : {X : Type 0} (F : ℕ → List X) (at : ℕ → ℕ) (n : ℕ) → Laid F at n → (k : ℕ) → k < n → at k + length (F k) ≤ at n
laid_below F at zero h k inside = absurd (omega arith)
laid_below F at (suc n) h k inside =
    let e : suc n ≡ n + 1 = omega arith in
    elim (cases_eq k n) [
      | inl same ↦ omega (arith, ap at same, ap (λ j. length (F j)) same, h.next n (omega arith), ap at e)
      | inr ne ↦ omega (arith, laid_below F at n (laid_front F at n h) k (omega arith), h.next n (omega arith), ap at e)
    ]

pub pieces_at : {X : Type 0} (F : ℕ → List X) (at : ℕ → ℕ) (n : ℕ) → Laid F at n → (k j : ℕ) (d : X) → k < n → j < length (F k) → get_or (flat_map F (range_with_len 0 n)) (at k + j) d ≡ get_or (F k) j d
pieces_at F at zero h k j d inside below = absurd (omega arith)
pieces_at F at (suc n) h k j d inside below =
    let front = flat_map F (range_with_len 0 n) in
    let long : length front ≡ at n = pieces_length F at n (laid_front F at n h) in
    let e : suc n ≡ n + 1 = omega arith in
    ap (λ m. get_or (flat_map F (range_with_len 0 m)) (at k + j) d) e ∙ ap (λ xs. get_or xs (at k + j) d) (flat_more F n) ∙
    elim (cases_eq k n) [
      | inl same ↦ ap (λ i. get_or (front ++ F n) i d) (let place : at k + j ≡ length front + j = omega (arith, long, ap at same) in place) ∙ get_or-append-add front (F n) j d ∙ ap (λ i. get_or (F i) j d) (sym same)
      | inr ne ↦ get_or_append_left front (F n) d (at k + j) (omega (arith, long, laid_below F at n (laid_front F at n h) k (omega arith))) ∙ pieces_at F at n (laid_front F at n h) k j d (omega arith) below
    ]
