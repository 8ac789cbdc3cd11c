-- The items of numbers, of which each below their count stands once, are all items as a bag.
use Rattle.std.proofs.Common.{◌≡◌, ◌≢◌, ℕ, zero, suc, ◌+◌, ◌<◌, ◌≤◌, Bool, cond, List, [], ◌∷◌, ◌++◌, take, length, refl, sym, ap, ◌∙◌, subst, arith, eq-eqb, ne_eqb}
use Rattle.std.specs.Prelude.{count_by, sum_by, slice_get, Option, Some, None}
use Rattle.std.proofs.lemmas.List.Sums.{sum_by-cons, sum_by-append}
use mathlib.Core.Logic.{dite}
use native.Mathlib.Decide.{ℕ_discrete}
use Rattle.ooc_bags.specs.Bags.{SameBag}
use Rattle.number_bags.specs.Bags.{one_of, times, without}
use Rattle.number_bags.proofs.Bags.{one_same, one_other, times_without}
use Rattle.claim_counter.specs.Once.{IsOnce, IsEachBelow}
use Rattle.worker_stage.specs.Source.{below}
use Rattle.worker_stage.specs.Work.{AreItems}

pub below_length : (n : ℕ) → length (below n) ≡ n
below_length zero = refl
below_length (suc n) = length_push (below n) n ∙ (let h = below_length n in omega (arith, h))
  where
    length_push : (xs : List ℕ) (x : ℕ) → length (xs ++ x ∷ []) ≡ length xs + 1
    length_push [] x = refl
    length_push (y ∷ xs) x = let h = length_push xs x in omega (arith, h)

get_front : {A : Type 0} (xs ys : List A) (n : ℕ) → n < length xs → slice_get (xs ++ ys) n ≡ slice_get xs n
get_front [] ys n lt = absurd (omega (arith, lt))
get_front (x ∷ xs) ys zero lt = refl
get_front (x ∷ xs) ys (suc n) lt = get_front xs ys n (omega (arith, lt))

get_last : {A : Type 0} (xs : List A) (x : A) (n : ℕ) → length xs ≡ n → slice_get (xs ++ x ∷ []) n ≡ Some x
get_last [] x zero e = refl
get_last [] x (suc n) e = absurd (omega (arith, e))
get_last (y ∷ xs) x zero e = absurd (omega (arith, e))
get_last (y ∷ xs) x (suc n) e = get_last xs x n (omega (arith, e))

-- the number n stands at its place
pub below_at : (count n : ℕ) → n < count → slice_get (below count) n ≡ Some n
below_at zero n lt = absurd (omega (arith, lt))
below_at (suc count) n lt = dite (ℕ_discrete n count)
    (λ e. subst (λ (m : ℕ). slice_get (below count ++ count ∷ []) m ≡ Some m) (sym e) (get_last (below count) count count (below_length count)))
    (λ ne. get_front (below count) (count ∷ []) n (let l = below_length count in grind (arith, lt, ne, l)) ∙ below_at count n (grind (arith, lt, ne)))

-- an item's place is below the count of the items
pub at_below : {A : Type 0} (xs : List A) (n : ℕ) (x : A) → slice_get xs n ≡ Some x → n < length xs
at_below [] n x e = absurd cc
at_below (y ∷ xs) zero x e = omega arith
at_below (y ∷ xs) (suc n) x e = let h = at_below xs n x e in omega (arith, h)

-- what is weighed, with the number n and without it
weighed : (h : ℕ → ℕ) (n : ℕ) (xs : List ℕ) → 0 < times xs n → sum_by h xs ≡ h n + sum_by h (without n xs)
weighed h n [] some = absurd (omega (arith, some))
weighed h n (x ∷ xs) some = dite (ℕ_discrete x n)
    (λ (e : x ≡ n). subst (λ (c : Bool). sum_by h (x ∷ xs) ≡ h n + sum_by h (cond c xs (x ∷ without n xs))) (sym (eq-eqb x n e)) (sum_by-cons h x xs ∙ ap (λ (m : ℕ). h m + sum_by h xs) e))
    (λ (ne : x ≢ n).
    let o = one_other x n (λ e. ne (sym e)) in
    let rest = weighed h n xs (omega (arith, some, o)) in
    let before = sum_by-cons h x xs in
    let after = sum_by-cons h x (without n xs) in
    subst (λ (c : Bool). sum_by h (x ∷ xs) ≡ h n + sum_by h (cond c xs (x ∷ without n xs))) (sym (ne_eqb x n ne)) (omega (arith, rest, before, after)))

-- numbers of which each below n stands once weigh as those below n
weigh_below : (h : ℕ → ℕ) (n : ℕ) (xs : List ℕ) → IsEachBelow n xs → sum_by h xs ≡ sum_by h (below n)
weigh_below h zero [] once = refl
weigh_below h zero (x ∷ xs) once = let z = (once x).1 (omega arith) in let o = one_same x in absurd (omega (arith, z, o))
weigh_below h (suc n) xs once =
    let some : times xs n ≡ 1 = (once n).0 (omega arith) in
    let has : 0 < times xs n = omega (arith, some) in
    let less = weigh_below h n (without n xs) (λ x. fewer x (times_without n xs has x)) in
    let here = weighed h n xs has in
    let there = sum_by-append h (below n) (n ∷ []) in
    let one = sum_by-cons h n [] in
    omega (arith, less, here, there, one)
  where
    fewer : (x : ℕ) → times xs x ≡ times (without n xs) x + one_of n x → IsOnce x n (times (without n xs) x)
    fewer x split = dite (ℕ_discrete n x)
        (λ (e : n ≡ x). let o : one_of n x ≡ 1 = ap (one_of n) (sym e) ∙ one_same n in let h = (once x).0 (omega (arith, e)) in ((λ lt. absurd (omega (arith, lt, e))), (λ le. omega (arith, h, o, split))))
        (λ (ne : n ≢ x). let o : one_of n x ≡ 0 = one_other n x (λ e. ne (sym e)) in
        ((λ lt. let h = (once x).0 (omega (arith, lt)) in omega (arith, h, o, split)), (λ le. let h = (once x).1 (grind (arith, le, ne)) in omega (arith, h, o, split))))

module _ {I : Type 0} where
  abbrev weight : (I → Bool) → Option I → ℕ
  weight test None = 0
  weight test (Some x) = cond (test x) 1 0

  count_items : (test : I → Bool) (items : List I) (ns : List ℕ) (xs : List I) → AreItems items ns xs → count_by test xs ≡ sum_by (λ n. weight test (slice_get items n)) ns
  count_items test items [] [] are = refl
  count_items test items [] (x ∷ xs) are = absurd are
  count_items test items (n ∷ ns) [] are = absurd are
  count_items test items (n ∷ ns) (x ∷ xs) are =
      let here : weight test (slice_get items n) ≡ cond (test x) 1 0 = ap (weight test) are.0 in
      let rest = count_items test items ns xs are.1 in
      let a = sum_by-cons (λ y. cond (test y) 1 0) x xs in
      let b = sum_by-cons (λ m. weight test (slice_get items m)) n ns in
      omega (arith, here, rest, a, b)

  taken : (items : List I) (n : ℕ) (x : I) → slice_get items n ≡ Some x → take (suc n) items ≡ take n items ++ x ∷ []
  taken [] n x e = absurd cc
  taken (y ∷ items) zero x e = ap (λ (z : I). z ∷ []) (some_is y x e)
    where
      some_is : (a b : I) → Some a ≡ Some b → a ≡ b
      some_is a b f = cc
  taken (y ∷ items) (suc n) x e = ap (λ (zs : List I). y ∷ zs) (taken items n x e)

  item_there : (items : List I) (n : ℕ) → n < length items → (x : I) × (slice_get items n ≡ Some x)
  item_there [] n lt = absurd (omega (arith, lt))
  item_there (x ∷ items) zero lt = (x, refl)
  item_there (x ∷ items) (suc n) lt = item_there items n (omega (arith, lt))

  count_below : (test : I → Bool) (items : List I) (n : ℕ) → n ≤ length items → sum_by (λ m. weight test (slice_get items m)) (below n) ≡ count_by test (take n items)
  count_below test items zero le = refl
  count_below test items (suc n) le =
      let there = item_there items n (omega (arith, le)) in
      let rest = count_below test items n (omega (arith, le)) in
      let a = sum_by-append (λ m. weight test (slice_get items m)) (below n) (n ∷ []) in
      let a1 = sum_by-cons (λ m. weight test (slice_get items m)) n [] in
      let h : weight test (slice_get items n) ≡ cond (test there.0) 1 0 = ap (weight test) there.1 in
      let b = sum_by-append (λ y. cond (test y) 1 0) (take n items) (there.0 ∷ []) in
      let b1 = sum_by-cons (λ y. cond (test y) 1 0) there.0 [] in
      let c : count_by test (take (suc n) items) ≡ count_by test (take n items ++ there.0 ∷ []) = ap (count_by test) (taken items n there.0 there.1) in
      omega (arith, rest, a, a1, h, b, b1, c)

  take_all : (items : List I) → take (length items) items ≡ items
  take_all [] = refl
  take_all (x ∷ items) = ap (λ (zs : List I). x ∷ zs) (take_all items)

  pub items_bag : (items : List I) (ns : List ℕ) (xs : List I) → AreItems items ns xs → IsEachBelow (length items) ns → SameBag xs items
  items_bag items ns xs are once test =
      count_items test items ns xs are
      ∙ weigh_below (λ n. weight test (slice_get items n)) (length items) ns once
      ∙ count_below test items (length items) (omega arith)
      ∙ ap (count_by test) (take_all items)

  pub items_over : (items : List I) (ns : List ℕ) (xs : List I) (ms : List ℕ) (ys : List I) → AreItems items ns xs → AreItems items ms ys → AreItems items (ns ++ ms) (xs ++ ys)
  items_over items [] [] ms ys are more = more
  items_over items [] (x ∷ xs) ms ys are more = absurd are
  items_over items (n ∷ ns) [] ms ys are more = absurd are
  items_over items (n ∷ ns) (x ∷ xs) ms ys are more = (are.0, items_over items ns xs ms ys are.1 more)

  -- a number past all items isn't one of theirs
  pub items_past : (items : List I) (ns : List ℕ) (xs : List I) (y : ℕ) → AreItems items ns xs → length items ≤ y → times ns y ≡ 0
  items_past items [] [] y are past = refl
  items_past items [] (x ∷ xs) y are past = absurd are
  items_past items (n ∷ ns) [] y are past = absurd are
  items_past items (n ∷ ns) (x ∷ xs) y are past =
      let lt = at_below items n x are.0 in
      let o = one_other n y (λ e. absurd (omega (arith, e, lt, past))) in
      let rest = items_past items ns xs y are.1 past in
      omega (arith, o, rest)
