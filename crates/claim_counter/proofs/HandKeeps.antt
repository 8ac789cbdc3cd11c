-- Each step keeps the rule.
use Rattle.std.proofs.Common.{◌≡◌, ◌≢◌, ℕ, zero, suc, ◌+◌, ◌-◌, ◌%◌, ◌^◌, ◌<◌, ◌≤◌, Bool, true, false, true≢false, ◌||◌, List, [], ◌∷◌, ◌++◌, length, set, refl, sym, ap, ◌∙◌, subst, ⊎_elim, arith, length-append, map, length-set, mod-eq_of_lt, Some, None, Option}
use Rattle.std.specs.Prelude.{slice_index, slice_set, slice_get, sum_by}
use Rattle.std.proofs.lemmas.List.{length-map}
use mathlib.Core.Option.{none, some, some-ne-none, some-injective}
use mathlib.Core.Logic.{dite}
use native.Mathlib.Decide.{dec_le, ℕ_discrete}
use lib.ListN.{get_elem?}
use Rattle.atomic_table.specs.Table.{State, Me, opening, Act, keeps, takes, gives, step, Allows, Splits, Joins, Valid, homes_after, carried_after, put_back}
use Rattle.atomic_table.proofs.Lists.{at_set, at_snoc, set_here, set_else}
use Rattle.number_bags.specs.Bags.{one_of, times}
use Rattle.number_bags.proofs.Bags.{one_same, one_other, times_both}
use Rattle.std.proofs.lemmas.List.Sums.{sum_by_push}
use Rattle.claim_counter.specs.Once.{IsOnce, IsEachBelow, over_if}
use Rattle.claim_counter.specs.Players.{left_from}
use Rattle.claim_counter.proofs.Sums.{sum_set, sum_spare, sum_has, sum_alone, one_at, once_next}
use Rattle.claim_counter.specs.HandRule.{view, opened, spent, over, outs, tail, Fits, Dealt, taken, past, back, DrewItem, GaveBack, fewer, one_part, together}
use Rattle.claim_counter.specs.declared.hand_rule.HandView.{HandView}
use Rattle.claim_counter.specs.declared.hand_rule.HandTerms.{HandTerms}

over_if_le : (b : Bool) (n : ℕ) → over_if b n ≤ n
over_if_le true n = omega arith
over_if_le false n = omega arith

-- what stands at a place that there is
at_place : {A : Type 0} (xs : List A) (n : ℕ) → n < length xs → (x : A) × (get_elem? xs n ≡ some x)
at_place [] n lt = absurd (omega (arith, lt))
at_place (x ∷ xs) zero lt = (x, refl)
at_place (x ∷ xs) (suc n) lt = at_place xs n (omega (arith, lt))

home_of : {A : Type 0} (xs : List A) (j : ℕ) (x : A) → get_elem? xs j ≡ some x → get_elem? (map some (map Some xs)) j ≡ some (some (Some x))
home_of [] j x e = absurd (some-ne-none x (sym e))
home_of (y ∷ ys) zero x e = ap (λ (z : _). some (some (Some z))) (some-injective y x e)
home_of (y ∷ ys) (suc j) x e = home_of ys j x e

-- the same item, as std's lists say it
pub item_at : {A : Type 0} (xs : List A) (j : ℕ) (x : A) → get_elem? xs j ≡ some x → slice_get xs j ≡ Some x
item_at [] j x e = absurd (some-ne-none x (sym e))
item_at (y ∷ ys) zero x e = ap (λ (z : _). Some z) (some-injective y x e)
item_at (y ∷ ys) (suc j) x e = item_at ys j x e

-- what is left, place by place, is what is left
pub left_is : {A : Type 0} (n : ℕ) (xs : List A) (ys : List (Option A)) → length ys ≡ length xs → ((j : ℕ) (x : A) → get_elem? xs j ≡ some x → n ≤ j → get_elem? ys j ≡ some (Some x))
    → ((j : ℕ) → j < length xs → j < n → get_elem? ys j ≡ some None) → ys ≡ left_from n xs
left_is n [] [] same full empty = refl
left_is n [] (y ∷ ys) same full empty = absurd (omega (arith, same))
left_is n (x ∷ xs) [] same full empty = absurd (omega (arith, same))
left_is zero (x ∷ xs) (y ∷ ys) same full empty =
    let rest = left_is zero xs ys (omega (arith, same)) (λ j x e le. full (suc j) x e (omega arith)) (λ j lt l. absurd (omega (arith, l))) in
    let here = some-injective y (Some x) (full 0 x refl (omega arith)) in
    ap (λ (z : Option _). z ∷ ys) here ∙ ap (λ (zs : List (Option _)). Some x ∷ zs) rest
left_is (suc n) (x ∷ xs) (y ∷ ys) same full empty =
    let rest = left_is n xs ys (omega (arith, same)) (λ j x e le. full (suc j) x e (omega (arith, le))) (λ j lt l. empty (suc j) (omega (arith, lt)) (omega (arith, l))) in
    let here = some-injective y None (empty 0 (omega arith) (omega arith)) in
    ap (λ (z : Option _). z ∷ ys) here ∙ ap (λ (zs : List (Option _)). None ∷ zs) rest

-- the last of a list stands in it
pub drawn_last : (n : ℕ) (ds es : List ℕ) → es ≡ ds ++ n ∷ [] → 0 < times es n
drawn_last n ds es e = let a = ap (λ (l : List ℕ). times l n) e in let b = times_both ds (n ∷ []) n in let o : one_of n n ≡ 1 = one_same n in omega (arith, a, b, o)

module _ {X : Type 0} where
  abbrev first_of : X → List (ℕ × X) → X
  first_of d [] = d
  first_of d (x ∷ xs) = x.1

  pub same_first : (m l l' : List (ℕ × X)) (n n' : ℕ) (x y : X) → m ≡ (n, x) ∷ l → m ≡ (n', y) ∷ l' → x ≡ y
  same_first m l l' n n' x y e f = sym (ap (first_of x) e) ∙ ap (first_of x) f

module _ {H : Type 0} where
  over_le : (v : HandView H) → over v ≤ v.parts
  over_le v = over_if_le v.ended v.parts

  fits_set : (count : ℕ) (items : List H) (vs : List (HandView H)) (i : ℕ) (w : HandView H) → ((j : ℕ) (u : HandView H) → get_elem? vs j ≡ some u → Fits count items u) → Fits count items w
      → (j : ℕ) (u : HandView H) → get_elem? (set vs i w) j ≡ some u → Fits count items u
  fits_set count items vs i w old mine j u e =
      ⊎_elim (λ (x : (j ≡ i) × (w ≡ u)). subst (Fits count items) x.1 mine) (λ (x : (j ≢ i) × (get_elem? vs j ≡ some u)). old j u x.1) (at_set vs i j w u e)

  -- what holds of words and views after a draw
  drew : (k : HandTerms H) (s : State (Option H) (HandView H)) (r : Dealt k s) (id : ℕ) (v : HandView H) → get_elem? s.views id ≡ some v → 0 < v.parts → v.ended ≡ false
      → (b : Bool) (out : List ℕ) (homes : List (mathlib.Core.Option.Option (Option H))) → (b ≡ false → r.next < k.count) → length homes ≡ k.count
      → ((j : ℕ) (x : H) → r.next + 1 ≤ j → get_elem? k.items.value.items j ≡ some x → get_elem? homes j ≡ some (some (Some x)))
      → ((j : ℕ) → j < r.next + 1 → j < k.count → outs j (set s.views id (view v.count v.parts b (v.draws ++ r.next ∷ []) out v.items)) ≡ 0 → get_elem? homes j ≡ some (some None))
      → Dealt k record { words = ((r.next + 1) % 2 ^ 64) ∷ []; homes = homes; views = set s.views id (view v.count v.parts b (v.draws ++ r.next ∷ []) out v.items) }
  drew k s r id v at some_part going b out homes below same_long fulls empties =
      let n = r.next in
      let w : HandView H = view v.count v.parts b (v.draws ++ n ∷ []) out v.items in
      let idle : over v ≡ 0 = ap (λ x. over_if x v.parts) going in
      let spare = sum_spare over (λ u. u.parts) over_le s.views id v at in
      let long = sum_set (λ (u : HandView H). length u.draws) s.views id v w at in
      let parts = sum_set (λ (u : HandView H). u.parts) s.views id v w at in
      let ends = sum_set over s.views id v w at in
      let small = r.small in let most = r.parts in let bound = r.bound in
      let fits : n + 1 < 2 ^ 64 = omega (arith, idle, spare, small, most, bound, some_part) in record {
        next = n + 1;
        word = ap (λ (y : ℕ). y ∷ []) (mod-eq_of_lt fits);
        once = λ x. once_next x n (sum_by (λ (u : HandView H). times u.draws x) s.views) (sum_by (λ (u : HandView H). times u.draws x) (set s.views id w)) (r.once x)
            (let h = sum_set (λ (u : HandView H). times u.draws x) s.views id v w at in omega (arith, h, times_both v.draws (n ∷ []) x));
        steps = let t = r.steps in omega (arith, long, t, length-append v.draws (n ∷ []));
        parts = omega (arith, parts, most);
        bound = bounded b below ends;
        seats = fits_set k.count k.items.value.items s.views id w r.seats ((λ p. (r.seats id v at).0 p), (λ z. absurd (omega (arith, z, some_part))));
        small = small;
        long = r.long;
        homes = same_long;
        full = fulls;
        empty = empties;
      }
    where
      bounded : (c : Bool) → (c ≡ false → r.next < k.count) → sum_by over (set s.views id (view v.count v.parts c (v.draws ++ r.next ∷ []) out v.items)) + over v ≡ sum_by over s.views + over_if c v.parts
          → r.next + 1 ≤ k.count + sum_by over (set s.views id (view v.count v.parts c (v.draws ++ r.next ∷ []) out v.items))
      bounded true lt ends = let idle : over v ≡ 0 = ap (λ x. over_if x v.parts) going in let bound = r.bound in omega (arith, idle, ends, some_part, bound)
      bounded false lt ends = let l = lt refl in omega (arith, l)

  -- a draw: past the count the seat ends, and below it it takes the slot
  pub draws : (k : HandTerms H) (slots id : ℕ) (m : Me (Option H) (HandView H)) → 0 < m.0.parts → m.0.ended ≡ false → Allows (Dealt k) slots id m 0 (λ n. (n + 1) % 2 ^ 64) (DrewItem (step slots 0 1 0 none) m)
  draws k slots id m some_part going s r len at small =
      let v = m.0 in
      let n = r.next in
      let fit = (r.seats id v at).0 some_part in
      let P : List ℕ → Type 0 = λ ws. (w : HandView H) × (a : Act (Option H)) × Valid s.homes m.1 a × Dealt k record { words = slice_set ws 0 ((slice_index ws 0 + 1) % 2 ^ 64); homes = homes_after s.homes m.1 a; views = slice_set s.views id w }
      × DrewItem (step slots 0 1 0 none) m (slice_index ws 0) (w, carried_after m.1 a) in
      subst P (sym r.word)
      (dite (dec_le k.count n)
      (λ over_it. (
        past v n,
        keeps,
        tt,
        drew k s r id v at some_part going true v.out s.homes (λ f. absurd (true≢false f)) r.homes
            (λ j x le e. r.full j x (omega (arith, le)) e)
            (λ j lt l z. r.empty j (omega (arith, l, over_it)) l (let h = sum_set (λ (u : HandView H). times u.out j) s.views id v (past v n) at in omega (arith, h, z))),
        ((λ l. absurd (omega (arith, l, over_it, fit.0))), (λ _. refl)),
      ))
      (λ under.
      let lt : n < k.count = grind (arith, under) in
      let item = at_place k.items.value.items n (omega (arith, lt, r.long)) in (
        taken v n,
        takes n (Some item.0),
        r.full n item.0 (omega arith) item.1,
        drew k s r id v at some_part going false (n ∷ v.out) (set s.homes n none) (λ _. lt) (length-set s.homes n none ∙ r.homes)
            (λ j x le e. set_else s.homes n j none (λ f. omega (arith, f, le)) ∙ r.full j x (omega (arith, le)) e)
            (λ j l small_j z.
            let h = sum_set (λ (u : HandView H). times u.out j) s.views id v (taken v n) at in
            let has = sum_has (λ (u : HandView H). times u.out j) s.views id v at in
            let ne : j ≢ n = λ f. let o : one_of n j ≡ 1 = one_at n j (sym f) in absurd (omega (arith, h, z, o, has)) in
            let o : one_of n j ≡ 0 = one_other n j ne in
            set_else s.homes n j none ne ∙ r.empty j (grind (arith, l, ne)) small_j (omega (arith, h, z, o))),
        ((λ _. (item.0, ap (λ (xs : List H). get_elem? xs n) fit.1 ∙ item.1, refl)), (λ l. absurd (grind (arith, l, under, fit.0)))),
      )))

  -- the slot that was taken goes back, empty
  pub gives_back : (k : HandTerms H) (slots id n : ℕ) (m : Me (Option H) (HandView H)) → 0 < m.0.parts → n < k.count → m.0.out ≡ n ∷ [] → m.1 ≡ (n, None) ∷ [] → 0 < times m.0.draws n
      → Allows (Dealt k) slots id m 0 (λ n. n) (GaveBack (step slots 0 0 0 none) m)
  gives_back k slots id n m some_part lt held carried drawn s r len at small =
      let v = m.0 in
      let w : HandView H = back v in
      let homes : List (mathlib.Core.Option.Option (Option H)) = set s.homes n (some None) in
      let emptied : w.out ≡ [] = ap tail held in
      let vs : List (HandView H) = set s.views id w in
      let kept : Dealt k record { words = s.words; homes = homes; views = vs } = record {
        next = r.next;
        word = r.word;
        once = λ x. subst (IsOnce x r.next) (let h = sum_set (λ (u : HandView H). times u.draws x) s.views id v w at in omega (arith, h)) (r.once x);
        steps = let h = sum_set (λ (u : HandView H). length u.draws) s.views id v w at in let t = r.steps in omega (arith, h, t);
        parts = let h = sum_set (λ (u : HandView H). u.parts) s.views id v w at in let t = r.parts in omega (arith, h, t);
        bound = let h = sum_set over s.views id v w at in let t = r.bound in omega (arith, h, t);
        seats = fits_set k.count k.items.value.items s.views id w r.seats ((λ p. (r.seats id v at).0 p), (λ z. absurd (omega (arith, z, some_part))));
        small = r.small;
        long = r.long;
        homes = length-set s.homes n (some None) ∙ r.homes;
        full = λ j x le e. dite (ℕ_discrete j n)
            (λ (f : j ≡ n). let has = sum_has (λ (u : HandView H). times u.draws n) s.views id v at in let z = (r.once n).1 (omega (arith, f, le)) in absurd (omega (arith, has, z, drawn)))
            (λ (ne : j ≢ n). set_else s.homes n j (some None) ne ∙ r.full j x le e);
        empty = λ j l small_j z. dite (ℕ_discrete j n)
            (λ (f : j ≡ n). ap (λ (y : ℕ). get_elem? homes y) f ∙ set_here s.homes n (some None) (let q = r.homes in omega (arith, q, lt)))
            (λ (ne : j ≢ n).
            let h = sum_set (λ (u : HandView H). times u.out j) s.views id v w at in
            let o : one_of n j ≡ 0 = one_other n j ne in
            let a : times v.out j ≡ one_of n j + 0 = ap (λ (l : List ℕ). times l j) held in
            let b : times w.out j ≡ 0 = ap (λ (l : List ℕ). times l j) emptied in
            set_else s.homes n j (some None) ne ∙ r.empty j l small_j (omega (arith, h, z, o, a, b)));
      } in (
        w,
        gives,
        tt,
        subst (λ (ws : List ℕ). Dealt k record { words = ws; homes = homes_after s.homes m.1 gives; views = vs }) (sym (words_same s r))
            (subst (λ (c : List (ℕ × Option H)). Dealt k record { words = s.words; homes = put_back s.homes c; views = vs }) (sym carried) kept),
        refl,
      )
    where
      words_same : (s : State (Option H) (HandView H)) (r : Dealt k s) → slice_set s.words 0 (slice_index s.words 0) ≡ s.words
      words_same s r = ap (λ (ws : List ℕ). slice_set ws 0 (slice_index ws 0)) r.word ∙ sym r.word

  pub splits : (k : HandTerms H) (id : ℕ) (v : HandView H) → 2 ≤ v.parts → Splits (Dealt k) id v (fewer v) (one_part v)
  splits k id v two s r at =
      let vs : List (HandView H) = set s.views id (fewer v) in
      let parts = sum_set (λ (u : HandView H). u.parts) s.views id v (fewer v) at in
      let ends = sum_set over s.views id v (fewer v) at in
      let most = r.parts in let bound = r.bound in let t = r.steps in
      let fit = (r.seats id v at).0 (omega (arith, two)) in record {
        next = r.next;
        word = r.word;
        once = λ x. subst (IsOnce x r.next) (let h = sum_set (λ (u : HandView H). times u.draws x) s.views id v (fewer v) at in sym (sum_by_push (λ (u : HandView H). times u.draws x) vs (one_part v) ∙ omega (arith, h))) (r.once x);
        steps = let h = sum_set (λ (u : HandView H). length u.draws) s.views id v (fewer v) at in omega (arith, h, t, sum_by_push (λ (u : HandView H). length u.draws) vs (one_part v));
        parts = omega (arith, parts, most, two, sum_by_push (λ (u : HandView H). u.parts) vs (one_part v));
        bound = cut v.ended v.parts two (sum_by over s.views) (sum_by over vs) (sum_by over (vs ++ one_part v ∷ [])) ends (sum_by_push over vs (one_part v)) bound;
        seats = λ j u e. ⊎_elim
            (λ was. fits_set k.count k.items.value.items s.views id (fewer v) r.seats ((λ p. fit), (λ z. absurd (omega (arith, z, two)))) j u was)
            (λ (is : one_part v ≡ u). subst (Fits k.count k.items.value.items) is ((λ p. fit), (λ z. (refl, refl)))) (at_snoc vs (one_part v) u j e);
        small = r.small;
        long = r.long;
        homes = r.homes;
        full = r.full;
        empty = λ j l small_j z. r.empty j l small_j (let h = sum_set (λ (u : HandView H). times u.out j) s.views id v (fewer v) at in let q = sum_by_push (λ (u : HandView H). times u.out j) vs (one_part v) in omega (arith, h, q, z));
      }
    where
      cut : (b : Bool) (p : ℕ) → 2 ≤ p → (a c d : ℕ) → c + over_if b p ≡ a + over_if b (p - 1) → d ≡ c + over_if b 1 → r.next ≤ k.count + a → r.next ≤ k.count + d
      cut true p two a c d e f g = omega (arith, two, e, f, g)
      cut false p two a c d e f g = omega (arith, e, f, g)

  pub joins : (k : HandTerms H) (id : ℕ) (v : HandView H) (other : ℕ) (w : HandView H) → 0 < v.parts → Joins (Dealt k) id v other w (together v w) spent
  joins k id v other w some_part s r at apart at' =
      let both = together v w in
      let vs : List (HandView H) = set s.views id both in
      let was : get_elem? s.views other ≡ some w = ⊎_elim (λ (x : (other ≡ id) × (both ≡ w)). absurd (apart x.0)) (λ (x : (other ≢ id) × (get_elem? s.views other ≡ some w)). x.1) (at_set s.views id other both w at') in
      let sums : (f : HandView H → ℕ) → f both ≡ f v + f w → f spent ≡ 0 → sum_by f (set vs other spent) ≡ sum_by f s.views = λ f e z.
      let h = sum_set f s.views id v both at in let i = sum_set f vs other w spent at' in omega (arith, e, z, h, i) in
      let ends = sum_set over s.views id v both at in
      let ends' = sum_set over vs other w spent at' in
      let bound = r.bound in record {
        next = r.next;
        word = r.word;
        once = λ x. subst (IsOnce x r.next) (sym (sums (λ u. times u.draws x) (times_both v.draws w.draws x) refl)) (r.once x);
        steps = sums (λ u. length u.draws) (length-append v.draws w.draws) refl ∙ r.steps;
        parts = let h = sums (λ u. u.parts) refl refl in let most = r.parts in omega (arith, h, most);
        bound = let p = more v.ended w.ended v.parts w.parts in omega (arith, p, ends, ends', bound);
        seats = fits_set k.count k.items.value.items vs other spent (fits_set k.count k.items.value.items s.views id both r.seats ((λ p. (r.seats id v at).0 some_part), (λ z. absurd (omega (arith, z, some_part)))))
            ((λ p. absurd (omega (arith, p))), (λ z. (refl, refl)));
        small = r.small;
        long = r.long;
        homes = r.homes;
        full = r.full;
        empty = λ j l small_j z. r.empty j l small_j (sym (sums (λ u. times u.out j) (times_both v.out w.out j) refl) ∙ z);
      }
    where
      more : (a b : Bool) (p q : ℕ) → over_if a p + over_if b q ≤ over_if (a || b) (p + q)
      more true true p q = omega arith
      more true false p q = omega arith
      more false true p q = omega arith
      more false false p q = omega arith

  pub opens : (k : HandTerms H) (places : List (Option H)) → places ≡ map Some k.items.value.items → length k.items.value.items ≡ k.count → k.count + k.parts < 2 ^ 64 → 0 < k.parts → Dealt k (opening (0 ∷ []) places (opened k))
  opens k places are long small some_part = record {
    next = 0;
    word = refl;
    once = λ x. ((λ lt. absurd (omega (arith, lt))), (λ _. refl));
    steps = refl;
    parts = omega arith;
    bound = omega arith;
    seats = alone;
    small = small;
    long = long;
    homes = length-map places some ∙ ap length are ∙ length-map k.items.value.items Some ∙ long;
    full = λ j x le e. ap (λ (ps : List (Option H)). get_elem? (map some ps) j) are ∙ home_of k.items.value.items j x e;
    empty = λ j lt l z. absurd (omega (arith, lt));
  }
    where
      alone : (j : ℕ) (v : HandView H) → get_elem? (opened k ∷ []) j ≡ some v → Fits k.count k.items.value.items v
      alone zero v e = subst (Fits k.count k.items.value.items) (some-injective (opened k) v e) ((λ p. (refl, refl)), (λ z. (refl, refl)))
      alone (suc j) v e = absurd (some-ne-none v (sym e))

  -- who has all parts has all draws, and each slot is at home: with its item where nobody drew it, else empty
  closes : (k : HandTerms H) (s : State (Option H) (HandView H)) (id : ℕ) (v : HandView H) (r : Dealt k s) → get_elem? s.views id ≡ some v → v.parts ≡ k.parts → v.out ≡ []
      → (r.next ≡ length v.draws) × IsEachBelow r.next v.draws × ((j : ℕ) → j < r.next → j < k.count → get_elem? s.homes j ≡ some (some None))
  closes k s id v r at all none_out =
      let most = r.parts in
      let alone : (f : HandView H → ℕ) → ((u : HandView H) → u.draws ≡ [] → u.out ≡ [] → f u ≡ 0) → sum_by f s.views ≡ f v = λ f z.
      sum_alone f (λ (u : HandView H). u.parts) s.views id v at (omega (arith, most, all)) (λ j u e p. let q = (r.seats j u e).1 p in z u q.0 q.1) in (
        sym r.steps ∙ alone (λ u. length u.draws) (λ u e o. ap length e),
        (λ x. subst (IsOnce x r.next) (alone (λ u. times u.draws x) (λ u e o. ap (λ (l : List ℕ). times l x) e)) (r.once x)),
        (λ j lt l. r.empty j lt l (alone (λ u. times u.out j) (λ u e o. ap (λ (l : List ℕ). times l j) o) ∙ ap (λ (l : List ℕ). times l j) none_out)),
      )

  pub closes_at : (k : HandTerms H) (s : State (Option H) (HandView H)) (id : ℕ) (v : HandView H) (r : Dealt k s) → get_elem? s.views id ≡ some v → v.parts ≡ k.parts → v.out ≡ []
      → (ws : List ℕ) → s.words ≡ ws → (n : ℕ) → get_elem? ws 0 ≡ some n → (xs : List (Option H)) → length s.homes ≡ length xs → ((j : ℕ) (y : Option H) → get_elem? s.homes j ≡ some (some y) → get_elem? xs j ≡ some y)
      → (n ≡ length v.draws) × IsEachBelow n v.draws × (xs ≡ left_from n k.items.value.items)
  closes_at k s id v r at all none_out ws same n found xs long are =
      let is : r.next ≡ n = some-injective r.next n (ap (λ (l : List ℕ). get_elem? l 0) (sym r.word ∙ same) ∙ found) in
      let c = closes k s id v r at all none_out in
      let count = r.long in (
        sym is ∙ c.0,
        (λ x. subst (λ (m : ℕ). IsOnce x m (times v.draws x)) is (c.1 x)),
        left_is n k.items.value.items xs (sym long ∙ r.homes ∙ sym r.long)
            (λ j x e le. are j (Some x) (r.full j x (omega (arith, is, le)) e))
            (λ j lt l. are j None (c.2 j (omega (arith, is, l)) (omega (arith, lt, count)))),
      )
