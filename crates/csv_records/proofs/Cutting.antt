-- How a text is cut.
use Rattle.std.proofs.Common.{◌≡◌, ◌≢◌, ◌≤◌, ◌<◌, ℕ, ◌+◌, ◌-◌, ◌++◌, ◌||◌, ◌==◌, ◌⊎◌, inl, inr, Bool, true, false, Option, Some, None, List, [], ◌∷◌, take, drop, length, get_or, refl, sym, ap, subst, ◌∙◌, arith, length-drop, get_or-drop}
use Rattle.std.proofs.lemmas.List.{append-nil, take_more}
use Rattle.std.proofs.lemmas.Bool.{eqb-true, ne_eqb}
use Rattle.std.specs.Prelude.{slice_range, slice_index}
use Rattle.std.specs.List.{onto_first, list_any}
use Rattle.csv_records.specs.Table.{after, is_special, is_quoted, state_after}
use Rattle.csv_records.specs.Cut.{cut}
use Rattle.csv_records.specs.Stops.{IsStop}
use Rattle.csv_records.specs.declared.mark.Mark.{Mark}
use Rattle.csv_records.specs.declared.mark.Mark.TheVariants.{FieldStart, Plain}

-- these bytes in front of the first part
unfoldable pub onto_front : List ℕ → List (List ℕ) → List (List ℕ)
onto_front [] parts = parts
onto_front (c ∷ x) parts = onto_first c (onto_front x parts)

pub onto-empty : (x : List ℕ) (parts : List (List ℕ)) → onto_front x ([] ∷ parts) ≡ x ∷ parts
unfolding onto_front
onto-empty [] parts = refl
onto-empty (c ∷ x) parts = rw (onto-empty x parts) refl

-- bytes in which no record ends go on the front of the first part
pub cut-through : (d : ℕ) (s t : Mark) (xs ys : List ℕ) → state_after d s xs ≡ Some t → cut d s (xs ++ ys) ≡ onto_front xs (cut d t ys)
unfolding cut state_after onto_front
cut-through d s t [] ys e = let same : s ≡ t = cc e in rw same refl
cut-through d s t (c ∷ xs) ys e = by (after d s c) e (λ u h. cut-through d u t xs ys h)
  where
    by : (o : Option Mark) → (elim o [ None ↦ None | Some u ↦ state_after d u xs ]) ≡ Some t
        → ((u : Mark) → state_after d u xs ≡ Some t → cut d u (xs ++ ys) ≡ onto_front xs (cut d t ys))
        → (elim o [ None ↦ [] ∷ cut d FieldStart (xs ++ ys) | Some u ↦ onto_first c (cut d u (xs ++ ys)) ]) ≡ onto_first c (onto_front xs (cut d t ys))
    by None h more = cc h
    by (Some u) h more = ap (onto_first c) (more u h)

-- a record that ends before the end of the text
pub cut-at : (d : ℕ) (s t : Mark) (xs : List ℕ) (c : ℕ) (ys : List ℕ) → state_after d s xs ≡ Some t → after d t c ≡ None
    → cut d s (xs ++ c ∷ ys) ≡ xs ∷ cut d FieldStart ys
unfolding cut
cut-at d s t xs c ys e n =
    let here : cut d t (c ∷ ys) ≡ [] ∷ cut d FieldStart ys = rw (n, cut) refl in
    cut-through d s t xs (c ∷ ys) e ∙ ap (onto_front xs) here ∙ onto-empty xs (cut d FieldStart ys)

-- a record that ends with the text
pub cut-last : (d : ℕ) (s t : Mark) (xs : List ℕ) → state_after d s xs ≡ Some t → cut d s xs ≡ xs ∷ []
unfolding cut
cut-last d s t xs e = rw (append-nil xs) at (cut-through d s t xs [] e) ∙ onto-empty xs []

-- one more byte
pub state-more : (d : ℕ) (s t : Mark) (xs : List ℕ) (c : ℕ) → state_after d s xs ≡ Some t → state_after d s (xs ++ c ∷ []) ≡ after d t c
unfolding state_after
state-more d s t [] c e = let same : s ≡ t = cc e in rw same (one (after d t c))
  where
    one : (o : Option Mark) → (elim o [ None ↦ None | Some u ↦ Some u ]) ≡ o
    one None = refl
    one (Some u) = refl
state-more d s t (x ∷ xs) c e = by (after d s x) e (λ u h. state-more d u t xs c h)
  where
    by : (o : Option Mark) → (elim o [ None ↦ None | Some u ↦ state_after d u xs ]) ≡ Some t
        → ((u : Mark) → state_after d u xs ≡ Some t → state_after d u (xs ++ c ∷ []) ≡ after d t c)
        → (elim o [ None ↦ None | Some u ↦ state_after d u (xs ++ c ∷ []) ]) ≡ after d t c
    by None h more = cc h
    by (Some u) h more = more u h

-- a part of a list, one place longer
pub range-more : (l : List ℕ) (s i : ℕ) → s ≤ i → i < length l → slice_range l s (i + 1) ≡ slice_range l s i ++ slice_index l i ∷ []
range-more l s i low high =
    let one : i + 1 - s ≡ (i - s) + 1 = omega arith in
    let at : s + (i - s) ≡ i = omega arith in
    let lt : i - s < length (drop s l) = omega (arith, length-drop s l) in
    ap (λ n. take n (drop s l)) one ∙ take_more (drop s l) (i - s) 0 lt
    ∙ ap (λ v. take (i - s) (drop s l) ++ v ∷ []) (get_or-drop s l (i - s) 0 ∙ ap (λ k. get_or l k 0) at)

pub range-none : (l : List ℕ) (s : ℕ) → slice_range l s s ≡ []
range-none l s = let e : s - s ≡ 0 = omega arith in rw e refl

-- the state after one more byte of the text
pub state-next : (d : ℕ) (s : Mark) (text : List ℕ) (from i : ℕ) (t u : Mark) → from ≤ i → i < length text
    → state_after d s (slice_range text from i) ≡ Some t → after d t (slice_index text i) ≡ Some u
    → state_after d s (slice_range text from (i + 1)) ≡ Some u
state-next d s text from i t u low high h e = rw (range-more text from i low high) (state-more d s t (slice_range text from i) (slice_index text i) h ∙ e)

-- no byte so far is a mark, and nor is the next
pub lacks-more : (p : ℕ → Bool) (xs : List ℕ) (c : ℕ) → list_any p xs ≡ false → p c ≡ false → list_any p (xs ++ c ∷ []) ≡ false
lacks-more p [] c h e = rw e refl
lacks-more p (x ∷ xs) c h e = by (p x) h (lacks-more p xs c)
  where
    by : (b : Bool) → (b || list_any p xs) ≡ false → (list_any p xs ≡ false → p c ≡ false → list_any p (xs ++ c ∷ []) ≡ false) → (b || list_any p (xs ++ c ∷ [])) ≡ false
    by true h more = cc h
    by false h more = more h e

-- what is no mark
pub no-mark : (c : ℕ) → c ≢ 34 → c ≢ 10 → c ≢ 13 → is_special c ≡ false
no-mark c q n r = rw (ne_eqb c 34 q, ne_eqb c 10 n, ne_eqb c 13 r) refl

-- a state outside of quotes
abbrev pub IsOutside : Mark → Type 0
IsOutside t = (t ≡ FieldStart) ⊎ (t ≡ Plain)

after-no-mark : (d : ℕ) (s : Mark) (c : ℕ) → IsOutside s → is_special c ≡ false → (t : Mark) × (after d s c ≡ Some t) × IsOutside t
after-no-mark d s c out e = by (c == 34) (c == 10) (c == 13) (c == d) refl refl refl refl e
  where
    by : (q n r k : Bool) → (c == 34) ≡ q → (c == 10) ≡ n → (c == 13) ≡ r → (c == d) ≡ k → (q || (n || r)) ≡ false → (t : Mark) × (after d s c ≡ Some t) × IsOutside t
    by true n r k eq en er ek e = cc e
    by false true r k eq en er ek e = cc e
    by false false true k eq en er ek e = cc e
    by false false false true eq en er ek e = elim out [
      | inl first ↦ (FieldStart, rw (first, eq, ek) refl, inl refl)
      | inr plain ↦ (FieldStart, rw (plain, ek) refl, inl refl)
    ]
    by false false false false eq en er ek e = elim out [
      | inl first ↦ (Plain, rw (first, eq, ek, en, er) refl, inr refl)
      | inr plain ↦ (Plain, rw (plain, ek, en, er) refl, inr refl)
    ]

-- bytes without a mark end no record
pub plain-state : (d : ℕ) (s : Mark) (xs : List ℕ) → IsOutside s → list_any is_special xs ≡ false → (t : Mark) × (state_after d s xs ≡ Some t) × IsOutside t
unfolding state_after
plain-state d s [] out h = (s, refl, out)
plain-state d s (c ∷ xs) out h = by (is_special c) refl h (λ u o k. plain-state d u xs o k)
  where
    by : (b : Bool) → is_special c ≡ b → (b || list_any is_special xs) ≡ false
        → ((u : Mark) → IsOutside u → list_any is_special xs ≡ false → (t : Mark) × (state_after d u xs ≡ Some t) × IsOutside t)
        → (t : Mark) × (state_after d s (c ∷ xs) ≡ Some t) × IsOutside t
    by true e h more = cc h
    by false e h more =
        let one = after-no-mark d s c out e in
        let rest = more one.0 one.2 h in
        (rest.0, rw (one.1, state_after) rest.1, rest.2)

-- what ends a record outside of quotes
pub ends-outside : (d : ℕ) (t : Mark) (c : ℕ) → IsOutside t → d ≢ 10 → d ≢ 13 → is_special c ≡ true → c ≢ 34 → after d t c ≡ None
ends-outside d t c out n r e q = by (c == 10) (c == 13) refl refl (rw (ne_eqb c 34 q) at e)
  where
    by : (x y : Bool) → (c == 10) ≡ x → (c == 13) ≡ y → (x || y) ≡ true → after d t c ≡ None
    by true y ex ey e =
        let no : c ≢ d = λ s. n (sym s ∙ eqb-true c 10 ex) in
        elim out [ inl first ↦ rw (first, ne_eqb c 34 q, ne_eqb c d no, ex) refl | inr plain ↦ rw (plain, ne_eqb c d no, ex) refl ]
    by false true ex ey e =
        let no : c ≢ d = λ s. r (sym s ∙ eqb-true c 13 ey) in
        elim out [ inl first ↦ rw (first, ne_eqb c 34 q, ne_eqb c d no, ex, ey) refl | inr plain ↦ rw (plain, ne_eqb c d no, ex, ey) refl ]
    by false false ex ey e = cc e

pub outside-quoted : (t : Mark) → IsOutside t → false ≡ is_quoted t
outside-quoted t (inl e) = rw e refl
outside-quoted t (inr e) = rw e refl

-- the place of the first mark, where that is no quote, is where the cutter stops
pub plain-stop : (d : ℕ) (text : List ℕ) (from place : ℕ) → from ≤ place → place ≤ length text → list_any is_special (slice_range text from place) ≡ false
    → (place < length text → is_special (slice_index text place) ≡ true) → d ≢ 10 → d ≢ 13 → (place < length text → slice_index text place ≢ 34)
    → IsStop d text from place false
plain-stop d text from place low high lacks mark n r other =
    let run = plain-state d FieldStart (slice_range text from place) (inl refl) lacks in
    record {
      state = run.0;
      stops = record {
        low = low;
        high = high;
        ran = run.1;
        ends = λ lt. ends-outside d run.0 (slice_index text place) run.2 n r (mark lt) (other lt);
      };
      quoted = outside-quoted run.0 run.2;
    }

-- the state after two lists of bytes
pub state-append : (d : ℕ) (s t u : Mark) (xs ys : List ℕ) → state_after d s xs ≡ Some t → state_after d t ys ≡ Some u → state_after d s (xs ++ ys) ≡ Some u
unfolding state_after
state-append d s t u [] ys e f = let same : s ≡ t = cc e in rw same f
state-append d s t u (c ∷ xs) ys e f = by (after d s c) e (λ v h. state-append d v t u xs ys h f)
  where
    by : (o : Option Mark) → (elim o [ None ↦ None | Some v ↦ state_after d v xs ]) ≡ Some t
        → ((v : Mark) → state_after d v xs ≡ Some t → state_after d v (xs ++ ys) ≡ Some u)
        → (elim o [ None ↦ None | Some v ↦ state_after d v (xs ++ ys) ]) ≡ Some u
    by None h more = cc h
    by (Some v) h more = more v h

-- an end among the bytes
pub state-ended : (d : ℕ) (s t : Mark) (xs : List ℕ) (c : ℕ) (ys : List ℕ) → state_after d s xs ≡ Some t → after d t c ≡ None → state_after d s (xs ++ c ∷ ys) ≡ None
unfolding state_after
state-ended d s t [] c ys e n =
    let same : s ≡ t = cc e in
    by (after d s c) (subst (λ (m : Mark). after d m c ≡ None) (sym same) n)
  where
    by : (o : Option Mark) → o ≡ None → ◌≡◌ {A = Option Mark} (elim o [ None ↦ None | Some u ↦ state_after d u ys ]) None
    by None e = refl
    by (Some u) e = cc e
state-ended d s t (x ∷ xs) c ys e n = by (after d s x) e (λ v h. state-ended d v t xs c ys h n)
  where
    by : (o : Option Mark) → (elim o [ None ↦ None | Some v ↦ state_after d v xs ]) ≡ Some t
        → ((v : Mark) → state_after d v xs ≡ Some t → state_after d v (xs ++ c ∷ ys) ≡ None)
        → ◌≡◌ {A = Option Mark} (elim o [ None ↦ None | Some v ↦ state_after d v (xs ++ c ∷ ys) ]) None
    by None h more = cc h
    by (Some v) h more = more v h

pub state-none : (d : ℕ) (s : Mark) (xs : List ℕ) → xs ≡ [] → state_after d s xs ≡ Some s
unfolding state_after
state-none d s [] e = refl
state-none d s (x ∷ xs) e = cc e
