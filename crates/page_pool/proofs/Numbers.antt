-- The frames of a seat's open pages, after one came and after one went.
use Rattle.std.proofs.Common.{◌≡◌, ◌≢◌, ℕ, drop, get_or, zero, suc, ◌<◌, List, [], ◌∷◌, ◌++◌, length, refl, ap, ◌∙◌, sym, arith}
use Rattle.std.specs.Prelude.{slice_index, slice_get, IsSomeAnd}
use Rattle.std.specs.List.{remove}
use Rattle.number_bags.specs.Bags.{times, without}
use Rattle.number_bags.proofs.Bags.{one_other, times_both, times_without}
use Rattle.evict_ring.proofs.Seated.{times_left}
use Rattle.page_pool.specs.Numbers.{numbers_of}
use Rattle.page_pool.specs.declared.pool.OpenTurn.{OpenTurn}

module _ {B : Type 0} where
  numbers_append : (xs ys : List (OpenTurn B)) → numbers_of (xs ++ ys) ≡ numbers_of xs ++ numbers_of ys
  numbers_append [] ys = refl
  numbers_append (x ∷ xs) ys = ap (λ (l : List ℕ). x.number ∷ l) (numbers_append xs ys)

  numbers_remove : (xs : List (OpenTurn B)) (k : ℕ) → numbers_of (remove xs k) ≡ remove (numbers_of xs) k
  numbers_remove [] zero = refl
  numbers_remove [] (suc k) = refl
  numbers_remove (x ∷ xs) zero = refl
  numbers_remove (x ∷ xs) (suc k) = ap (λ (l : List ℕ). x.number ∷ l) (numbers_remove xs k)

  pub length_numbers : (xs : List (OpenTurn B)) → length (numbers_of xs) ≡ length xs
  length_numbers [] = refl
  length_numbers (x ∷ xs) = ap suc (length_numbers xs)

  -- one open page more
  pub comes : (turns turns' : List (OpenTurn B)) (held held' : List ℕ) (t : OpenTurn B) → turns' ≡ turns ++ t ∷ [] → held' ≡ t.number ∷ held → ((x : ℕ) → times (numbers_of turns) x ≡ times held x) → (x : ℕ) → times (numbers_of turns') x ≡ times held' x
  comes turns turns' held held' t o h same x =
      let a = ap (λ (l : List (OpenTurn B)). times (numbers_of l) x) o ∙ ap (λ (l : List ℕ). times l x) (numbers_append turns (t ∷ [])) ∙ times_both (numbers_of turns) (t.number ∷ []) x in
      let b = ap (λ (l : List ℕ). times l x) h in let s = same x in omega (arith, a, b, s)

  there : (xs : List (OpenTurn B)) (k i : ℕ) → IsSomeAnd (slice_get xs k) (λ t. t.number ≡ i) → slice_index (numbers_of xs) k ≡ i
  there [] k i h = absurd h
  there (x ∷ xs) zero i h = h
  there (x ∷ xs) (suc k) i h = there xs k i h

  within : (xs : List (OpenTurn B)) (k i : ℕ) → IsSomeAnd (slice_get xs k) (λ t. t.number ≡ i) → k < length (numbers_of xs)
  within [] k i h = absurd h
  within (x ∷ xs) zero i h = omega arith
  within (x ∷ xs) (suc k) i h = let r = within xs k i h in omega (arith, r)

  -- one less
  pub goes : (turns turns' : List (OpenTurn B)) (held held' : List ℕ) (place i : ℕ) → turns' ≡ remove turns place → held' ≡ without i held → IsSomeAnd (slice_get turns place) (λ t. t.number ≡ i) → 0 < times held i
      → ((x : ℕ) → times (numbers_of turns) x ≡ times held x) → (x : ℕ) → times (numbers_of turns') x ≡ times held' x
  goes turns turns' held held' place i o h is some same x =
      ap (λ (l : List (OpenTurn B)). times (numbers_of l) x) o ∙ ap (λ (l : List ℕ). times l x) (numbers_remove turns place)
      ∙ times_left (numbers_of turns) held place i (within turns place i is) (there turns place i is) same some x ∙ ap (λ (l : List ℕ). times l x) (sym h)

  -- one that went comes back
  pub returns : (turns turns' turns'' : List (OpenTurn B)) (held held' : List ℕ) (place i : ℕ) (t : OpenTurn B) → turns' ≡ remove turns place → turns'' ≡ turns' ++ t ∷ [] → t.number ≡ i → held' ≡ held → IsSomeAnd (slice_get turns place) (λ t. t.number ≡ i) → 0 < times held i
      → ((x : ℕ) → times (numbers_of turns) x ≡ times held x) → (x : ℕ) → times (numbers_of turns'') x ≡ times held' x
  returns turns turns' turns'' held held' place i t o p n h is some same x =
      let a = comes turns' turns'' (without i held) (i ∷ without i held) t p (ap (λ (j : ℕ). j ∷ without i held) (sym n)) (goes turns turns' held (without i held) place i o refl is some same) x in
      let b = times_without i held some x in
      let c = ap (λ (l : List ℕ). times l x) h in
      omega (arith, a, b, c)

  -- a page that isn't here is further on
  pub further_on : (xs : List (OpenTurn B)) (place n : ℕ) (t : OpenTurn B) → place < length xs → t ≡ get_or xs place t → t.number ≢ n → 0 < times (numbers_of (drop place xs)) n → 0 < times (numbers_of (drop (suc place) xs)) n
  further_on [] place n t lt is ne h = absurd (omega (arith, lt))
  further_on (x ∷ xs) zero n t lt is ne h = omega (arith, h, one_other x.number n (λ e. ne (ap (λ (u : OpenTurn B). u.number) is ∙ sym e)))
  further_on (x ∷ xs) (suc place) n t lt is ne h = further_on xs place n t (omega (arith, lt)) is ne h
