-- The tables in the plan's order, one by one.
use Rattle.std.proofs.Common.{◌≡◌, ℕ, zero, suc, ◌+◌, ◌-◌, ◌<◌, ◌≤◌, Bool, true, false, List, [], ◌∷◌, ◌++◌, map, take, drop, length, get_or, refl, sym, ap, ◌∙◌, arith, append_assoc, length-append, Some, None}
use Rattle.std.specs.Prelude.{remove}
use Rattle.std.specs.List.{range_with_len}
use Rattle.plan_tree.specs.declared.parts.Linked.{Linked}
use Rattle.plan_tree.specs.declared.parts.Entry.{Entry}
use Rattle.plan_tree.specs.Order.{Pick, kept_or, pick, comes_before, picks, columns_in, places_of_picks}
use Rattle.plan_tree.proofs.OrderLemmas.{pick-is}
use Rattle.sql_plan.specs.declared.order.Choice.{Choice}
use Rattle.sql_plan.specs.declared.order.Chosen.{Chosen}
use Rattle.sql_plan.specs.Chosen.{choice_of, choice_in, chosen_of, columns_chosen, places_of_chosen}
use Rattle.std.proofs.lemmas.List.{get_or_default}
use Rattle.sql_plan.proofs.Lists.{append_nil, drop_is}

pub columns_at : (entries : List Entry) (i : ℕ) (d : Entry) → i < length entries → columns_in (drop i entries) ≡ (get_or entries i d).width + columns_in (drop (i + 1) entries)
columns_at entries i d h = ap columns_in (drop_is entries i (get_or entries i d) h (get_or_default entries i d (get_or entries i d) h))

pub chosen_at : (list : List Chosen) (i : ℕ) (d : Chosen) → i < length list → drop i list ≡ get_or list i d ∷ drop (i + 1) list
chosen_at list i d h = drop_is list i (get_or list i d) h (get_or_default list i d (get_or list i d) h)

pub take-columns : (n : ℕ) (entries : List Entry) → columns_in (take n entries) ≤ columns_in entries
take-columns zero entries = omega arith
take-columns (suc n) [] = omega arith
take-columns (suc n) (x ∷ xs) = let e = take-columns n xs in omega arith

pub remove-shorter : {A : Type 0} (xs : List A) (n : ℕ) → n < length xs → length (remove xs n) < length xs
remove-shorter [] n h = absurd (omega arith)
remove-shorter (x ∷ xs) zero h = omega arith
remove-shorter (x ∷ xs) (suc n) h = let e = remove-shorter xs n (omega arith) in omega arith

pub columns-append : (xs ys : List Entry) → columns_in (xs ++ ys) ≡ columns_in xs + columns_in ys
columns-append [] ys = omega arith
columns-append (x ∷ xs) ys = let e = columns-append xs ys in omega arith

take-front : {A : Type 0} (front back : List A) → take (length front) (front ++ back) ≡ front
take-front [] back = refl
take-front (x ∷ front) back = ap (λ l. x ∷ l) (take-front front back)

remove-behind : {A : Type 0} (front : List A) (x : A) (back : List A) → remove (front ++ x ∷ back) (length front) ≡ front ++ back
remove-behind [] x back = refl
remove-behind (y ∷ front) x back = ap (λ l. y ∷ l) (remove-behind front x back)

length-behind : {A : Type 0} (front : List A) (x : A) (back : List A) → length (front ++ x ∷ back) ≡ suc (length (front ++ back))
length-behind front x back = let a = length-append front (x ∷ back) in let b = length-append front back in omega arith

module _ (pool : List Linked) where
  abbrev best : List Entry → Entry → List Entry → Pick Entry
  best placed first rest = pick (comes_before pool placed) first rest

  -- the best of one more table
  pub best-kept : (placed : List Entry) (x y : Entry) (ys : List Entry) (one : Choice) (b : Bool) → one ≡ choice_of (best placed y ys)
      → b ≡ comes_before pool placed one.entry x → choice_of (best placed x (y ∷ ys)) ≡ choice_of (kept_or b x (y ∷ ys) (best placed y ys))
  best-kept placed x y ys one b is before =
      ap (λ (c : Bool). choice_of (kept_or c x (y ∷ ys) (best placed y ys))) (ap (λ (o : Choice). comes_before pool placed o.entry x) (sym is) ∙ sym before)

  pub best-later : (placed : List Entry) (x y : Entry) (ys : List Entry) (one : Choice) (result : Choice) → one ≡ choice_of (best placed y ys)
      → comes_before pool placed one.entry x ≡ true → result ≡ record { place = one.place + 1; entry = one.entry } → result ≡ choice_of (best placed x (y ∷ ys))
  best-later placed x y ys one result is before made =
      let kept = best-kept placed x y ys one true is (sym before) in
      let more : length (x ∷ (best placed y ys).front) ≡ length (best placed y ys).front + 1 = omega arith in
      made ∙ ap (λ (o : Choice). record { place = o.place + 1; entry = o.entry }) is ∙ (λ i. record { place = sym more i; entry = (best placed y ys).item }) ∙ sym kept

  pub best-first : (placed : List Entry) (x y : Entry) (ys : List Entry) (one : Choice) (result : Choice) → one ≡ choice_of (best placed y ys)
      → comes_before pool placed one.entry x ≡ false → result ≡ record { place = 0; entry = x } → result ≡ choice_of (best placed x (y ∷ ys))
  best-first placed x y ys one result is before made = made ∙ sym (best-kept placed x y ys one false is (sym before))

  abbrev rest_of : Pick Entry → List Entry
  rest_of one = one.front ++ one.back

  pub columns-front : (placed : List Entry) (x : Entry) (xs : List Entry) → take (length (best placed x xs).front) (x ∷ xs) ≡ (best placed x xs).front
  columns-front placed x xs =
      ap (take (length (best placed x xs).front)) (pick-is (comes_before pool placed) x xs) ∙ take-front (best placed x xs).front ((best placed x xs).item ∷ (best placed x xs).back)

  pub left-over : (placed : List Entry) (x : Entry) (xs : List Entry) → remove (x ∷ xs) (length (best placed x xs).front) ≡ rest_of (best placed x xs)
  left-over placed x xs =
      ap (λ l. remove l (length (best placed x xs).front)) (pick-is (comes_before pool placed) x xs) ∙ remove-behind (best placed x xs).front (best placed x xs).item (best placed x xs).back

  pub fewer : (placed : List Entry) (x : Entry) (xs : List Entry) → length (rest_of (best placed x xs)) ≡ length xs
  fewer placed x xs =
      let whole = ap length (pick-is (comes_before pool placed) x xs) in
      let behind = length-behind (best placed x xs).front (best placed x xs).item (best placed x xs).back in
      omega arith

  pub place-within : (placed : List Entry) (x : Entry) (xs : List Entry) → length (best placed x xs).front < length (x ∷ xs)
  place-within placed x xs =
      let whole = ap length (pick-is (comes_before pool placed) x xs) in
      let behind = length-append (best placed x xs).front ((best placed x xs).item ∷ (best placed x xs).back) in
      omega arith

  pub fewer-columns : (placed : List Entry) (x : Entry) (xs : List Entry)
      → (columns_in (rest_of (best placed x xs)) + (best placed x xs).item.width ≡ columns_in (x ∷ xs)) × (columns_in (best placed x xs).front ≤ columns_in (x ∷ xs))
  fewer-columns placed x xs =
      let whole = ap columns_in (pick-is (comes_before pool placed) x xs) in
      let a = columns-append (best placed x xs).front ((best placed x xs).item ∷ (best placed x xs).back) in
      let b = columns-append (best placed x xs).front (best placed x xs).back in
      (omega arith, omega arith)

  -- what was chosen, and what is chosen of the rest, is the whole
  pub record IsChosen (whole : List Chosen) (columns : ℕ) (chosen : List Chosen) (placed left : List Entry) : Type 0 where
    pub goes_on : chosen ++ map chosen_of (picks (length left) pool placed left) ≡ whole
    pub within : columns_in left ≤ columns

  pub chosen-next : (whole : List Chosen) (columns : ℕ) (chosen : List Chosen) (placed left : List Entry) (x : Entry) (xs : List Entry) (one : Choice) (before : ℕ) (left' placed' : List Entry) (chosen' : List Chosen)
      → IsChosen whole columns chosen placed left → left ≡ x ∷ xs → one ≡ choice_of (best placed x xs) → before ≡ columns_in (take one.place left) → left' ≡ remove left one.place
      → placed' ≡ placed ++ one.entry ∷ [] → chosen' ≡ chosen ++ (record { entry = one.entry; before = before }) ∷ [] → IsChosen whole columns chosen' placed' left'
  chosen-next whole columns chosen placed left x xs one before left' placed' chosen' so_far is choice columns_before shorter longer more =
      let p = best placed x xs in
      let left_is : left' ≡ rest_of p = shorter ∙ (λ i. remove (is i) (choice i).place) ∙ left-over placed x xs in
      let before_is : before ≡ columns_in p.front = columns_before ∙ (λ i. columns_in (take (choice i).place (is i))) ∙ ap columns_in (columns-front placed x xs) in
      let chosen_is : chosen' ≡ chosen ++ chosen_of p ∷ [] = more ∙ (λ i. chosen ++ (record { entry = (choice i).entry; before = before_is i }) ∷ []) in
      let placed_is : placed' ≡ placed ++ p.item ∷ [] = longer ∙ ap (λ (o : Choice). placed ++ o.entry ∷ []) choice in
      let count : length (rest_of p) ≡ length xs = fewer placed x xs in
      let cols = fewer-columns placed x xs in
      record {
        goes_on =
            (λ i. chosen_is i ++ map chosen_of (picks (length (left_is i)) pool (placed_is i) (left_is i)))
            ∙ ap (λ n. (chosen ++ chosen_of p ∷ []) ++ map chosen_of (picks n pool (placed ++ p.item ∷ []) (rest_of p))) count
            ∙ append_assoc chosen (chosen_of p ∷ []) (map chosen_of (picks (length xs) pool (placed ++ p.item ∷ []) (rest_of p)))
            ∙ ap (λ l. chosen ++ map chosen_of (picks (length l) pool placed l)) (sym is)
            ∙ so_far.goes_on;
        within = let a = ap columns_in left_is in let b = ap columns_in is in let c = so_far.within in omega (arith, cols.0);
      }

  pub one-chosen : (whole : List Chosen) (columns : ℕ) (chosen : List Chosen) (placed left : List Entry) (one : Choice) (before : ℕ) (left' placed' : List Entry) (chosen' : List Chosen)
      → IsChosen whole columns chosen placed left → Some one ≡ choice_in pool placed left → before ≡ columns_in (take one.place left) → left' ≡ remove left one.place
      → placed' ≡ placed ++ one.entry ∷ [] → chosen' ≡ chosen ++ (record { entry = one.entry; before = before }) ∷ [] → IsChosen whole columns chosen' placed' left'
  one-chosen whole columns chosen placed [] one before left' placed' chosen' so_far choice columns_before shorter longer more = cc
  one-chosen whole columns chosen placed (x ∷ xs) one before left' placed' chosen' so_far choice columns_before shorter longer more =
      let same : one ≡ choice_of (best placed x xs) = cc in
      chosen-next whole columns chosen placed (x ∷ xs) x xs one before left' placed' chosen' so_far refl same columns_before shorter longer more

  pub none-left : (whole : List Chosen) (columns : ℕ) (chosen : List Chosen) (placed left : List Entry) → IsChosen whole columns chosen placed left → None ≡ choice_in pool placed left → chosen ≡ whole
  none-left whole columns chosen placed [] so_far none = sym (append_nil chosen) ∙ so_far.goes_on
  none-left whole columns chosen placed (x ∷ xs) so_far none = cc

  -- as many columns are chosen as there are
  pub columns-picked : (n : ℕ) (placed left : List Entry) → length left ≤ n → columns_chosen (map chosen_of (picks n pool placed left)) ≡ columns_in left
  columns-picked zero placed [] within = refl
  columns-picked zero placed (x ∷ xs) within = absurd (omega arith)
  columns-picked (suc n) placed [] within = refl
  columns-picked (suc n) placed (x ∷ xs) within =
      let p = best placed x xs in
      let count = fewer placed x xs in
      let cols = fewer-columns placed x xs in
      let rest = columns-picked n (placed ++ p.item ∷ []) (rest_of p) (omega arith) in
      omega (arith, cols.0)

-- the places of what was chosen are those of the picks
pub places-chosen : (at : ℕ) (list : List (Pick Entry)) → places_of_picks at list ≡ places_of_chosen at (map chosen_of list)
places-chosen at [] = refl
places-chosen at (one ∷ more) =
    ap (λ l. take (columns_in one.front) l ++ (range_with_len at one.item.width ++ drop (columns_in one.front) l)) (places-chosen (at + one.item.width) more)

-- the places of the first table and of the others
pub places_made : (at end : ℕ) (list : List Chosen) (d : Chosen) (later front ranged back all : List ℕ) → 0 < length list → end ≡ at + (get_or list 0 d).entry.width
    → later ≡ places_of_chosen end (drop 1 list) → front ≡ take (get_or list 0 d).before later → ranged ≡ front ++ range_with_len at (end - at) → back ≡ drop (get_or list 0 d).before later → all ≡ ranged ++ back
    → all ≡ places_of_chosen at list
places_made at end list d later front ranged back all h ends laters fronts ranges backs alls =
    let x = get_or list 0 d in
    let rest = drop 1 list in
    let wide : end - at ≡ x.entry.width = omega arith in
    let late : later ≡ places_of_chosen (at + x.entry.width) rest = laters ∙ ap (λ n. places_of_chosen n rest) ends in
    alls
    ∙ (λ i. ranges i ++ backs i)
    ∙ append_assoc front (range_with_len at (end - at)) (drop x.before later)
    ∙ (λ i. fronts i ++ (range_with_len at (wide i) ++ drop x.before later))
    ∙ (λ i. take x.before (late i) ++ (range_with_len at x.entry.width ++ drop x.before (late i)))
    ∙ ap (places_of_chosen at) (sym (chosen_at list 0 d h))
