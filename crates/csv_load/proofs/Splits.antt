-- The parts of a record from a place on.
use Rattle.std.proofs.Common.{◌≡◌, ◌≤◌, ◌<◌, ℕ, ◌+◌, ◌-◌, ◌++◌, ◌||◌, ◌==◌, inl, inr, Bool, true, false, cond, List, [], ◌∷◌, drop, length, refl, sym, ap, ◌∙◌, arith, length-drop, take_all}
use Rattle.std.proofs.lemmas.Bool.{lt-ltb, le-ltb, eq-eqb}
use Rattle.std.proofs.lemmas.Bool.Decides.{leb_tells}
use Rattle.std.proofs.lemmas.List.Splits.{length-slice_split}
use Rattle.std.specs.Prelude.{slice_range, slice_index}
use Rattle.std.specs.List.{onto_first, list_any, slice_split}
use Rattle.csv_records.proofs.Ranges.{range-at}
use Rattle.csv_load.specs.Parts.{rest_fields}

split-lacks : (p : ℕ → Bool) (xs ys : List ℕ) (y : ℕ) → list_any p xs ≡ false → p y ≡ true → slice_split p (xs ++ y ∷ ys) ≡ xs ∷ slice_split p ys
split-lacks p [] ys y h e = rw e refl
split-lacks p (x ∷ xs) ys y h e = by (p x) h (split-lacks p xs ys y)
  where
    by : (b : Bool) → (b || list_any p xs) ≡ false → (list_any p xs ≡ false → p y ≡ true → slice_split p (xs ++ y ∷ ys) ≡ xs ∷ slice_split p ys)
        → cond b ([] ∷ slice_split p (xs ++ y ∷ ys)) (onto_first x (slice_split p (xs ++ y ∷ ys))) ≡ (x ∷ xs) ∷ slice_split p ys
    by true h more = cc h
    by false h more = ap (onto_first x) (more h e)

split-last : (p : ℕ → Bool) (xs : List ℕ) → list_any p xs ≡ false → slice_split p xs ≡ xs ∷ []
split-last p [] h = refl
split-last p (x ∷ xs) h = by (p x) h (split-last p xs)
  where
    by : (b : Bool) → (b || list_any p xs) ≡ false → (list_any p xs ≡ false → slice_split p xs ≡ xs ∷ [])
        → cond b ([] ∷ slice_split p xs) (onto_first x (slice_split p xs)) ≡ (x ∷ xs) ∷ []
    by true h more = cc h
    by false h more = ap (onto_first x) (more h)

range-all : (l : List ℕ) (a : ℕ) → slice_range l a (length l) ≡ drop a l
range-all l a = take_all (length l - a) (drop a l) (omega (arith, length-drop a l))

rest-here : (d : ℕ) (bytes : List ℕ) (from : ℕ) → from ≤ length bytes → rest_fields d bytes from ≡ slice_split (λ b. b == d) (drop from bytes)
unfolding rest_fields
rest-here d bytes from h = rw (le-ltb (length bytes) from h) refl

pub rest-start : (d : ℕ) (bytes : List ℕ) → rest_fields d bytes 0 ≡ slice_split (λ b. b == d) bytes
rest-start d bytes = rest-here d bytes 0 (omega arith)

pub rest-none : (d : ℕ) (bytes : List ℕ) (from : ℕ) → length bytes < from → rest_fields d bytes from ≡ []
unfolding rest_fields
rest-none d bytes from h = rw (lt-ltb (length bytes) from h) refl

-- the next field of the rest
pub rest-step : (d : ℕ) (bytes : List ℕ) (from end : ℕ) → from ≤ end → end ≤ length bytes → list_any (λ b. b == d) (slice_range bytes from end) ≡ false
    → (end < length bytes → slice_index bytes end ≡ d) → rest_fields d bytes from ≡ slice_range bytes from end ∷ rest_fields d bytes (end + 1)
rest-step d bytes from end low high lacks ends = elim (leb_tells (length bytes) end) [
  | inl more ↦
      let ge : length bytes ≤ end = more.1 in
      let same : length bytes ≡ end = omega arith in
      let text : drop from bytes ≡ slice_range bytes from end = sym (range-all bytes from) ∙ ap (λ n. slice_range bytes from n) same in
      rest-here d bytes from (omega arith) ∙ ap (slice_split (λ b. b == d)) text ∙ split-last (λ b. b == d) (slice_range bytes from end) lacks
      ∙ ap (λ r. slice_range bytes from end ∷ r) (sym (rest-none d bytes (end + 1) (omega arith)))
  | inr less ↦
      let lt : end < length bytes = less.1 in
      let text : drop from bytes ≡ slice_range bytes from end ++ slice_index bytes end ∷ drop (end + 1) bytes =
      sym (range-all bytes from) ∙ range-at bytes from end (length bytes) low lt (omega arith) ∙ ap (λ x. slice_range bytes from end ++ slice_index bytes end ∷ x) (range-all bytes (end + 1)) in
      rest-here d bytes from (omega arith) ∙ ap (slice_split (λ b. b == d)) text
      ∙ split-lacks (λ b. b == d) (slice_range bytes from end) (drop (end + 1) bytes) (slice_index bytes end) lacks (eq-eqb (slice_index bytes end) d (ends lt))
      ∙ ap (λ r. slice_range bytes from end ∷ r) (sym (rest-here d bytes (end + 1) (omega arith)))
]

pub rest-some : (d : ℕ) (bytes : List ℕ) (from : ℕ) → from ≤ length bytes → 0 < length (rest_fields d bytes from)
unfolding rest_fields
rest-some d bytes from h = rw (le-ltb (length bytes) from h, length-slice_split) (omega arith)
