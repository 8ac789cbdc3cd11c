-- The front of a list that was copied so far.
use Rattle.std.proofs.Common.{◌≡◌, ℕ, zero, suc, ◌+◌, ◌-◌, ◌<◌, ◌≤◌, List, [], ◌∷◌, ◌++◌, length, get_or, take, drop, refl, sym, ap, ◌∙◌, arith, append_assoc, length-append}
use Rattle.std.specs.Prelude.{slice_range}
use Rattle.std.proofs.lemmas.List.Edits.{between_more}
use Rattle.std.proofs.lemmas.List.{append-nil, drop_more, length-take-le, take_at, take-append-le}
use Rattle.row_sets.specs.Sets.{joined}

module _ {X : Type 0} where
  -- a stretch behind a front makes a longer front
  pub longer_front : (xs : List X) (i j : ℕ) → i ≤ j → take i xs ++ slice_range xs i j ≡ take j xs
  longer_front xs zero j low = ap (λ n. take n xs) (let e : j - 0 ≡ j = omega arith in e)
  longer_front [] (suc i) zero low = absurd (omega (arith, low))
  longer_front [] (suc i) (suc j) low = none (suc j - suc i)
    where
      none : (n : ℕ) → take {A = X} n [] ≡ []
      none zero = refl
      none (suc n) = refl
  longer_front (x ∷ xs) (suc i) zero low = absurd (omega (arith, low))
  longer_front (x ∷ xs) (suc i) (suc j) low =
      let e : suc j - suc i ≡ j - i = omega arith in
      ap (λ n. x ∷ (take i xs ++ take n (drop i xs))) e ∙ ap (λ l. x ∷ l) (longer_front xs i j (omega (arith, low)))

  pub stretched : (old mid new all : List X) (i j : ℕ) → mid ≡ old ++ take i all → new ≡ mid ++ slice_range all i j → i ≤ j → new ≡ old ++ take j all
  stretched old mid new all i j so_far more low =
      more ∙ ap (λ l. l ++ slice_range all i j) so_far ∙ append_assoc old (take i all) (slice_range all i j) ∙ ap (λ l. old ++ l) (longer_front all i j low)

  -- one row more behind a stretch
  pub one_more : (old mid new all : List X) (from k : ℕ) (row d : X) → from ≤ k → k < length all → mid ≡ old ++ slice_range all from k → new ≡ mid ++ row ∷ [] → row ≡ get_or all k d → new ≡ old ++ slice_range all from (k + 1)
  one_more old mid new all from k row d low inside so_far wrote is =
      wrote
      ∙ ap (λ l. l ++ row ∷ []) so_far
      ∙ append_assoc old (slice_range all from k) (row ∷ [])
      ∙ ap (λ x. old ++ (slice_range all from k ++ x ∷ [])) is
      ∙ ap (λ l. old ++ l) (sym (between_more all from k d low inside))

  -- how long the front is, by the counts of rows
  pub front_long : (old new all : List X) (n before now : ℕ) → new ≡ old ++ take n all → n ≤ length all → before ≡ length old → now ≡ length new → now ≡ before + n
  front_long old new all n before now is inside was counted =
      let long = ap length is ∙ length-append old (take n all) in let front = length-take-le n all inside in omega (arith, long, front, was, counted)

  pub as_front : (old new all : List X) (n before now : ℕ) → new ≡ old ++ take n all → n ≤ length all → before ≡ length old → now ≡ length new → new ≡ old ++ take (now - before) all
  as_front old new all n before now is inside was counted =
      let long = front_long old new all n before now is inside was counted in
      is ∙ ap (λ k. old ++ take k all) (let e : n ≡ now - before = omega (arith, long) in e)

  -- the pages before one, and that one
  pub joined_more : (xss : List (List X)) (n : ℕ) → n < length xss → joined (take (n + 1) xss) ≡ joined (take n xss) ++ get_or xss n []
  joined_more [] n inside = absurd (omega (arith, inside))
  joined_more (xs ∷ xss) zero inside = append-nil xs
  joined_more (xs ∷ xss) (suc n) inside =
      ap (λ k. joined (take k (xs ∷ xss))) (let e : suc n + 1 ≡ suc (n + 1) = omega arith in e)
      ∙ ap (λ l. xs ++ l) (joined_more xss n (omega (arith, inside))) ∙ sym (append_assoc xs (joined (take n xss)) (get_or xss n []))

  joined_split : (xss : List (List X)) (n : ℕ) → joined xss ≡ joined (take n xss) ++ joined (drop n xss)
  joined_split xss zero = refl
  joined_split [] (suc n) = refl
  joined_split (xs ∷ xss) (suc n) = ap (λ l. xs ++ l) (joined_split xss n) ∙ sym (append_assoc xs (joined (take n xss)) (joined (drop n xss)))

  take_past : (xs ys : List X) (n : ℕ) → take (length xs + n) (xs ++ ys) ≡ xs ++ take n ys
  take_past [] ys n = ap (λ k. take k ys) (let e : 0 + n ≡ n = omega arith in e)
  take_past (x ∷ xs) ys n = ap (λ k. take k (x ∷ xs ++ ys)) (let e : suc (length xs) + n ≡ suc (length xs + n) = omega arith in e) ∙ ap (λ l. x ∷ l) (take_past xs ys n)

  -- the front of all rows that ends in a page
  pub front_in_page : (xss : List (List X)) (n m : ℕ) → n < length xss → m ≤ length (get_or xss n []) → joined (take n xss) ++ take m (get_or xss n []) ≡ take (length (joined (take n xss)) + m) (joined xss)
  front_in_page xss n m inside within =
      let before = joined (take n xss) in
      let here = get_or xss n [] in
      let rest = joined (drop (n + 1) xss) in
      let split = joined_split xss n ∙ ap (λ l. before ++ joined l) (drop_more xss n [] inside) in
      sym (ap (take (length before + m)) split ∙ take_past before (here ++ rest) m ∙ ap (λ l. before ++ l) (take-append-le m here rest within))

  pub joined_long : (xss : List (List X)) (n m : ℕ) → n < length xss → m ≤ length (get_or xss n []) → length (joined (take n xss)) + m ≤ length (joined xss)
  joined_long xss n m inside within =
      let before = joined (take n xss) in
      let here = get_or xss n [] in
      let rest = joined (drop (n + 1) xss) in
      let long = ap length (joined_split xss n ∙ ap (λ l. before ++ joined l) (drop_more xss n [] inside)) ∙ length-append before (here ++ rest) in
      let more = length-append here rest in omega (arith, long, more, within)

  pub front_most : (xss : List (List X)) (n : ℕ) → length (joined (take n xss)) ≤ length (joined xss)
  front_most xss n = let long = ap length (joined_split xss n) ∙ length-append (joined (take n xss)) (joined (drop n xss)) in omega (arith, long)

  -- the pages before one are a front of all rows
  pub pages_front : (xss : List (List X)) (n : ℕ) → joined (take n xss) ≡ take (length (joined (take n xss))) (joined xss)
  pages_front xss n = let before = joined (take n xss) in sym (ap (take (length before)) (joined_split xss n) ∙ take_at before (joined (drop n xss)) (length before) refl)

  -- a front isn't longer than the whole
  take_within : (n : ℕ) (xs : List X) → length (take n xs) ≤ length xs
  take_within zero xs = omega arith
  take_within (suc n) [] = omega arith
  take_within (suc n) (x ∷ xs) = let r = take_within n xs in omega (arith, r)

  pub front_within : (old new all : List X) (before now : ℕ) → new ≡ old ++ take (now - before) all → before ≡ length old → now ≡ length new → now - before ≤ length all
  front_within old new all before now is was counted =
      let long = ap length is ∙ length-append old (take (now - before) all) in let most = take_within (now - before) all in omega (arith, long, most, was, counted)

  -- what was copied of a page, behind the pages before it
  pub page_front : (old mid new : List X) (xss : List (List X)) (n m : ℕ) → n < length xss → m ≤ length (get_or xss n []) → mid ≡ old ++ joined (take n xss) → new ≡ mid ++ take m (get_or xss n []) → new ≡ old ++ take (length (joined (take n xss)) + m) (joined xss)
  page_front old mid new xss n m inside within so_far more =
      more
      ∙ ap (λ l. l ++ take m (get_or xss n [])) so_far
      ∙ append_assoc old (joined (take n xss)) (take m (get_or xss n []))
      ∙ ap (λ l. old ++ l) (front_in_page xss n m inside within)

  pub page_more : (old mid new : List X) (xss : List (List X)) (n : ℕ) → n < length xss → mid ≡ old ++ joined (take n xss) → new ≡ mid ++ get_or xss n [] → new ≡ old ++ joined (take (n + 1) xss)
  page_more old mid new xss n inside so_far more =
      more
      ∙ ap (λ l. l ++ get_or xss n []) so_far
      ∙ append_assoc old (joined (take n xss)) (get_or xss n [])
      ∙ ap (λ l. old ++ l) (sym (joined_more xss n inside))

  pub pages_long : (xss : List (List X)) (n : ℕ) → n < length xss → length (joined (take (n + 1) xss)) ≡ length (joined (take n xss)) + length (get_or xss n [])
  pages_long xss n inside = ap length (joined_more xss n inside) ∙ length-append (joined (take n xss)) (get_or xss n [])
