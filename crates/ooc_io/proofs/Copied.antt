-- What a read leaves of the bytes.
use Rattle.std.proofs.Common.{◌≡◌, ℕ, ◌+◌, ◌-◌, ◌<◌, ◌≤◌, min, List, [], ◌++◌, length, take, drop, refl, sym, ap, ◌∙◌, arith, length-drop, inl, inr, ◌⊎◌, ⊎_elim}
use Rattle.std.proofs.lemmas.List.{drop_all, take_all, take-append-drop, drop-drop}
use Rattle.std.proofs.lemmas.Bool.{cases_lt}

-- from a place on, or from the end where the place is past it
drop-min : (at : ℕ) (bytes : List ℕ) → drop (min at (length bytes)) bytes ≡ drop at bytes
drop-min at bytes = ⊎_elim
    (λ (h : at < length bytes). ap (λ k. drop k bytes) (omega arith))
    (λ (h : length bytes ≤ at). drop_all (min at (length bytes)) bytes (omega arith) ∙ sym (drop_all at bytes (omega arith)))
    (cases_lt at (length bytes))

pub copied : (bytes piece : List ℕ) (at start n room : ℕ) → room ≡ length piece → start ≡ min at (length bytes)
    → n ≡ min (length (take (length bytes - start) (drop start bytes))) room → take n piece ≡ take n (take (length bytes - start) (drop start bytes))
    → (drop at bytes ≡ take n piece ++ drop (start + n) bytes) × (n ≡ 0 → 0 < length piece → drop (start + n) bytes ≡ [])
copied bytes piece at start n room long is count same =
    let all : take (length bytes - start) (drop start bytes) ≡ drop start bytes = take_all (length bytes - start) (drop start bytes) (omega (arith, length-drop start bytes)) in
    let most : n ≡ min (length bytes - start) room = count ∙ ap (λ (t : List ℕ). min (length t) room) all ∙ ap (λ k. min k room) (length-drop start bytes) in
    let front : take n piece ≡ take n (drop start bytes) = same ∙ ap (take n) all in (
      sym (drop-min at bytes) ∙ ap (λ k. drop k bytes) (sym is) ∙ sym (take-append-drop n (drop start bytes))
          ∙ ap (λ (t : List ℕ). take n (drop start bytes) ++ t) (drop-drop n start bytes) ∙ ap (λ (t : List ℕ). t ++ drop (start + n) bytes) (sym front),
      λ none some. drop_all (start + n) bytes (omega arith),
    )
