-- What becomes of the places in a lane's hand.
use Rattle.std.proofs.Common.{⊎_elim, ◌≡◌, ◌≢◌, ℕ, ◌+◌, ◌<◌, List, [], ◌∷◌, ◌++◌, length, refl, sym, ap, ◌∙◌, subst, arith, Option, Some, None, inl, inr}
use Rattle.std.specs.Prelude.{◌-◌, ◌^◌, Bool, true, false, min, slice_get, nat_lt, if◌then◌else◌}
use Rattle.std.specs.Option.{option_or}
use Rattle.std.proofs.lemmas.Bool.{ltb-true}
use Rattle.std.proofs.lemmas.List.{length-append}
use Rattle.std.proofs.lemmas.Option.{slice_get_within}
use Rattle.spill_file.specs.declared.place.Place.{Place}
use Rattle.spill_file.specs.Places.{PlaceBook, IsFree, IsBehind, InHand, IsSound, TakesPlace, GivesPlace, most_places, place_at, next_place}
use Rattle.spill_file.proofs.Snoc.{get_front, get_end, get_snoc}

abbrev book : ℕ → List Place → ℕ → PlaceBook
book lane free end = record { lane = lane; free = free; end = end }

not_within : {A : Type 0} (xs : List A) (x : A) → slice_get xs (length xs) ≡ Some x → ⊥
not_within xs x is = let a = slice_get_within xs (length xs) x is in omega (arith, a)

-- the place given back last is the next
last_free : (lane end : ℕ) (xs : List Place) (p : Place) → next_place (book lane (xs ++ p ∷ []) end) ≡ Some p
last_free lane end xs p =
    let long : length (xs ++ p ∷ []) - 1 ≡ length xs = omega (arith, length-append xs (p ∷ [])) in
    let there : slice_get (xs ++ p ∷ []) (length (xs ++ p ∷ []) - 1) ≡ Some p = ap (slice_get (xs ++ p ∷ [])) long ∙ get_end xs p in
    ap (λ o. option_or o (if nat_lt end most_places then Some (place_at (book lane (xs ++ p ∷ []) end)) else None)) there

-- the place given back last is taken
module _ (lane : ℕ) (xs : List Place) (p : Place) (end : ℕ) where
  abbrev more : PlaceBook
  more = book lane (xs ++ p ∷ []) end

  abbrev less : PlaceBook
  less = book lane xs end

  pub free_more : (q : Place) → IsFree less q → IsFree more q
  free_more q f = (f.0, get_front xs p f.0 q f.1)

  free_less : (q : Place) → q ≢ p → IsFree more q → IsFree less q
  free_less q other f = ⊎_elim (λ a. (f.0, a)) (λ b. absurd (other b.1)) (get_snoc xs p f.0 q f.1)

  hand_more : (q : Place) → InHand less q → InHand more q
  hand_more q h = ⊎_elim (λ f. inl (free_more q f)) (λ b. inr b) h

  hand_less : (q : Place) → q ≢ p → InHand more q → InHand less q
  hand_less q other h = ⊎_elim (λ f. inl (free_less q other f)) (λ b. inr b) h

  less_sound : IsSound more → IsSound less
  less_sound s = record {
    once = λ i j q a b. s.once i j q (get_front xs p i q a) (get_front xs p j q b);
    before = λ q f b. s.before q (free_more q f) b;
  }

  less_gone : IsSound more → InHand less p → ⊥
  less_gone s h = ⊎_elim
      (λ f. let same : f.0 ≡ length xs = s.once f.0 (length xs) p (get_front xs p f.0 p f.1) (get_end xs p) in not_within xs p (subst (λ i. slice_get xs i ≡ Some p) same f.1))
      (λ b. s.before p (length xs, get_end xs p) b) h

  pub takes_free : TakesPlace p more less
  takes_free = record {
    was = inl (length xs, get_end xs p);
    gone = less_gone;
    others = λ q other. (hand_more q, hand_less q other);
    sound = less_sound;
  }

  once_more : IsSound less → (InHand less p → ⊥) → (i j : ℕ) (q : Place) → slice_get (xs ++ p ∷ []) i ≡ Some q → slice_get (xs ++ p ∷ []) j ≡ Some q → i ≡ j
  once_more s out i j q a b = ⊎_elim
      (λ (k : slice_get xs i ≡ Some q). ⊎_elim
      (λ (m : slice_get xs j ≡ Some q). s.once i j q k m)
      (λ m. absurd (out (inl (i, k ∙ ap (λ z. Some z) m.1)))) (get_snoc xs p j q b))
      (λ k. ⊎_elim
      (λ (m : slice_get xs j ≡ Some q). absurd (out (inl (j, m ∙ ap (λ z. Some z) k.1))))
      (λ m. k.0 ∙ sym m.0) (get_snoc xs p j q b))
      (get_snoc xs p i q a)

  before_more : IsSound less → (InHand less p → ⊥) → (q : Place) → IsFree more q → IsBehind more q → ⊥
  before_more s out q f b = ⊎_elim
      (λ k. s.before q (f.0, k) b)
      (λ k. out (inr (subst (λ z. IsBehind less z) k.1 b))) (get_snoc xs p f.0 q f.1)

  pub gives : GivesPlace p less more
  gives = record {
    there = inl (length xs, get_end xs p);
    next = last_free lane end xs p;
    others = λ q other. (hand_less q other, hand_more q);
    sound = λ s out. record { once = once_more s out; before = before_more s out };
  }

-- the place at the end of the lane's file is taken
module _ (lane : ℕ) (end : ℕ) where
  abbrev last : Place
  last = record { lane = lane; number = end }

  none_free : (e : ℕ) (q : Place) → IsFree (book lane [] e) q → ⊥
  none_free e q f = cc (f.1)

  shorter : (q : Place) → InHand (book lane [] (end + 1)) q → InHand (book lane [] end) q
  shorter q h = ⊎_elim (λ f. absurd (none_free (end + 1) q f)) (λ b. let low = b.1 in inr (b.0, omega (arith, low))) h

  same_place : (q : Place) → q.lane ≡ lane → q.number ≡ end → q ≡ last
  same_place q a b = let c : q ≡ record { lane = lane; number = q.number } = subst (λ z. q ≡ record { lane = z; number = q.number }) a refl in subst (λ z. q ≡ record { lane = lane; number = z }) b c

  longer : (q : Place) → q ≢ last → InHand (book lane [] end) q → InHand (book lane [] (end + 1)) q
  longer q other h = ⊎_elim (λ f. absurd (none_free end q f))
      (λ b. let low = b.1 in let differs : q.number ≢ end = λ same. other (same_place q b.0 same) in inr (b.0, omega (arith, low, differs))) h

  pub takes_last : TakesPlace last (book lane [] end) (book lane [] (end + 1))
  takes_last = record {
    was = inr (refl, omega arith);
    gone = λ s h. ⊎_elim (λ f. none_free (end + 1) last f) (λ b. let low = b.1 in omega (arith, low)) h;
    others = λ q other. (shorter q, longer q other);
    sound = λ s. record { once = λ i j q a b. absurd (cc a); before = λ q f b. none_free (end + 1) q f };
  }

-- what a lane takes where a place was given back
pub took_free : (lane end : ℕ) (all xs : List Place) (x : Place) → all ≡ xs ++ x ∷ [] → (p : Place) → next_place (book lane all end) ≡ Some p → TakesPlace p (book lane all end) (book lane xs end)
took_free lane end all xs x is p next =
    let first = subst (λ z. next_place (book lane z end) ≡ Some p) is next in
    let same : x ≡ p = cc (first, last_free lane end xs x) in
    subst (λ z. TakesPlace p (book lane z end) (book lane xs end)) (sym is) (subst (λ z. TakesPlace z (book lane (xs ++ x ∷ []) end) (book lane xs end)) same (takes_free lane xs x end))

ends : (lane end : ℕ) (p : Place) (b : Bool) → (if b then Some (record { lane = lane; number = end }) else None) ≡ Some p → (b ≡ true) × (record { lane = lane; number = end } ≡ p)
ends lane end p true is = (refl, cc is)
ends lane end p false is = absurd (cc is)

-- what it takes where none was
pub took_last : (lane end now : ℕ) → now ≡ min (end + 1) (2 ^ 64 - 1) → (p : Place) → next_place (book lane [] end) ≡ Some p → TakesPlace p (book lane [] end) (book lane [] now)
took_last lane end now is p next =
    let both = ends lane end p (nat_lt end most_places) next in
    let low : end < most_places = ltb-true end most_places both.0 in
    let grown : end + 1 ≡ now = omega (arith, is, low) in
    subst (λ z. TakesPlace z (book lane [] end) (book lane [] now)) both.1 (subst (λ z. TakesPlace (last lane end) (book lane [] end) (book lane [] z)) grown (takes_last lane end))

at_end : (lane end : ℕ) (free : List Place) (p : Place) → record { lane = lane; number = end } ≡ p → InHand (book lane free end) p
at_end lane end free p is = subst (λ z. InHand (book lane free end) z) is (inr (refl, omega arith))

next_or : (lane end : ℕ) (free : List Place) (p : Place) (o : Option Place) → slice_get free (length free - 1) ≡ o → option_or o (if nat_lt end most_places then Some (record { lane = lane; number = end }) else None) ≡ Some p → InHand (book lane free end) p
next_or lane end free p None there is = at_end lane end free p (ends lane end p (nat_lt end most_places) is).1
next_or lane end free p (Some x) there is = inl (length free - 1, there ∙ is)

-- the next place is in the lane's hand
pub next_in_hand : (b : PlaceBook) (p : Place) → next_place b ≡ Some p → InHand b p
next_in_hand b p is = next_or b.lane b.end b.free p (slice_get b.free (length b.free - 1)) refl is
