-- The order of a plan has the tables of FROM, and puts their columns back.
use Rattle.std.proofs.Common.{◌≡◌, ℕ, zero, suc, ◌+◌, ◌≤◌, Bool, true, false, List, [], ◌∷◌, ◌++◌, map, take, drop, length, refl, sym, ap, ap₂, ◌∙◌, arith, length-append}
use Rattle.std.specs.List.{range_with_len}
use Rattle.ooc_bags.specs.Rearranged.{IsRearranged}
use Rattle.sql_meaning.specs.Free.{Table, width_of, reordered}
use Rattle.plan_tree.specs.declared.parts.Linked.{Linked}
use Rattle.plan_tree.specs.declared.parts.Entry.{Entry}
use Rattle.plan_tree.specs.Order.{Pick, kept_or, pick, comes_before, picks, columns_in, places_of_picks}
use Rattle.plan_tree.proofs.JoinLemmas.{map-over}

-- a pick is one of the items
pub pick-is : {A : Type 0} (before : A → A → Bool) (x : A) (xs : List A) → x ∷ xs ≡ (pick before x xs).front ++ (pick before x xs).item ∷ (pick before x xs).back
pick-is before x [] = refl
pick-is {A} before x (y ∷ ys) = go (before (pick before y ys).item x) (pick-is before y ys)
  where
    go : (b : Bool) → y ∷ ys ≡ (pick before y ys).front ++ (pick before y ys).item ∷ (pick before y ys).back
        → x ∷ y ∷ ys ≡ (kept_or b x (y ∷ ys) (pick before y ys)).front ++ (kept_or b x (y ∷ ys) (pick before y ys)).item ∷ (kept_or b x (y ∷ ys) (pick before y ys)).back
    go true rest = ap (λ l. x ∷ l) rest
    go false rest = refl

length-picked : {A : Type 0} (front : List A) (x : A) (back : List A) → length (front ++ x ∷ back) ≡ suc (length (front ++ back))
length-picked front x back = let a = length-append front (x ∷ back) in let b = length-append front back in omega arith

-- the same order, of a list that is written otherwise
pub moved-list : {A : Type 0} (xs ys zs : List A) → ys ≡ zs → IsRearranged xs ys → IsRearranged xs zs
moved-list [] ys zs e is = sym e ∙ is
moved-list (x ∷ xs) ys zs e is = (is.0, is.1, sym e ∙ is.2, is.3)

reordered-moved : {A : Type 0} (xs ys zs : List Table) (e : ys ≡ zs) (is : IsRearranged xs ys) (row : List A) → reordered xs zs (moved-list xs ys zs e is) row ≡ reordered xs ys is row
unfolding moved-list
reordered-moved [] ys zs e is row = refl
reordered-moved (x ∷ xs) ys zs e is row = refl

take-range : (w m at : ℕ) → take w (range_with_len at (w + m)) ≡ range_with_len at w
take-range zero m at = let e : 0 + m ≡ m = omega arith in ap (λ n. take 0 (range_with_len at n)) e
take-range (suc w) m at = ap (λ n. take (suc w) (range_with_len at n)) (suc-add w m) ∙ ap (λ l. at ∷ l) (take-range w m (at + 1))
  where
    suc-add : (w m : ℕ) → suc w + m ≡ suc (w + m)
    suc-add w m = omega arith

drop-range : (w m at : ℕ) → drop w (range_with_len at (w + m)) ≡ range_with_len (at + w) m
drop-range zero m at = let e : 0 + m ≡ m = omega arith in let f : at ≡ at + 0 = omega arith in ap (λ n. drop 0 (range_with_len at n)) e ∙ ap (λ n. range_with_len n m) f
drop-range (suc w) m at = ap (λ n. drop (suc w) (range_with_len at n)) (suc-add w m) ∙ drop-range w m (at + 1) ∙ (let f : (at + 1) + w ≡ at + suc w = omega arith in ap (λ n. range_with_len n m) f)
  where
    suc-add : (w m : ℕ) → suc w + m ≡ suc (w + m)
    suc-add w m = omega arith

abbrev pub items : List (Pick Entry) → List Entry
items = map (λ one. one.item)

module _ (table : Entry → Table) (pool : List Linked) where
  -- the tables of the picks are those of the entries, in another order
  pub rearranged-picks : (n : ℕ) (placed left : List Entry) → length left ≤ n → IsRearranged (map table (items (picks n pool placed left))) (map table left)
  rearranged-picks zero placed [] within = refl
  rearranged-picks zero placed (x ∷ xs) within = absurd (omega arith)
  rearranged-picks (suc n) placed [] within = refl
  rearranged-picks (suc n) placed (x ∷ xs) within =
      let one = pick (comes_before pool placed) x xs in
      let is = pick-is (comes_before pool placed) x xs in
      let long = length-picked one.front one.item one.back in
      let whole = ap length is in (
        map table one.front,
        map table one.back,
        ap (map table) is ∙ map-over table one.front (one.item ∷ one.back),
        moved-list (map table (items (picks n pool (placed ++ one.item ∷ []) (one.front ++ one.back)))) (map table (one.front ++ one.back)) (map table one.front ++ map table one.back) (map-over table one.front one.back)
            (rearranged-picks n (placed ++ one.item ∷ []) (one.front ++ one.back) (omega arith)),
      )

  module _ (wide : (entry : Entry) → (table entry).width ≡ entry.width) where
    pub width-columns : (entries : List Entry) → width_of (map table entries) ≡ columns_in entries
    width-columns [] = refl
    width-columns (entry ∷ entries) = ap₂ ◌+◌ (wide entry) (width-columns entries)

    pub reordered-picks : (n : ℕ) (placed left : List Entry) (within : length left ≤ n) (at : ℕ)
        → reordered (map table (items (picks n pool placed left))) (map table left) (rearranged-picks n placed left within) (range_with_len at (width_of (map table (items (picks n pool placed left)))))
        ≡ places_of_picks at (picks n pool placed left)
    unfolding rearranged-picks
    reordered-picks zero placed [] within at = refl
    reordered-picks zero placed (x ∷ xs) within at = absurd (omega arith)
    reordered-picks (suc n) placed [] within at = refl
    reordered-picks (suc n) placed (x ∷ xs) within at =
        let one = pick (comes_before pool placed) x xs in
        let is = pick-is (comes_before pool placed) x xs in
        let long = length-picked one.front one.item one.back in
        let whole = ap length is in
        let shorter : length (one.front ++ one.back) ≤ n = omega arith in
        let more = picks n pool (placed ++ one.item ∷ []) (one.front ++ one.back) in
        let w = (table one.item).width in
        let m = width_of (map table (items more)) in
        let row = range_with_len at (w + m) in
        let rest : drop w row ≡ range_with_len (at + w) m = drop-range w m at in
        let behind : reordered (map table (items more)) (map table one.front ++ map table one.back)
        (moved-list (map table (items more)) (map table (one.front ++ one.back)) (map table one.front ++ map table one.back) (map-over table one.front one.back) (rearranged-picks n (placed ++ one.item ∷ []) (one.front ++ one.back) shorter))
        (drop w row) ≡ places_of_picks (at + one.item.width) more =
        reordered-moved (map table (items more)) (map table (one.front ++ one.back)) (map table one.front ++ map table one.back) (map-over table one.front one.back) (rearranged-picks n (placed ++ one.item ∷ []) (one.front ++ one.back) shorter) (drop w row)
        ∙ ap (reordered (map table (items more)) (map table (one.front ++ one.back)) (rearranged-picks n (placed ++ one.item ∷ []) (one.front ++ one.back) shorter)) rest
        ∙ reordered-picks n (placed ++ one.item ∷ []) (one.front ++ one.back) shorter (at + w)
        ∙ ap (λ k. places_of_picks (at + k) more) (wide one.item) in
        let front = width-columns one.front in
        let own : take w row ≡ range_with_len at one.item.width = take-range w m at ∙ ap (range_with_len at) (wide one.item) in
        λ i. take (front i) (behind i) ++ (own i ++ drop (front i) (behind i))
