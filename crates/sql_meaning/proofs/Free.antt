-- Nested loops as a filter over the product, and the product in another order.
use Rattle.std.proofs.Common.{◌≡◌, ℕ, zero, suc, ◌+◌, Bool, true, false, cond, ◌&&◌, List, [], ◌∷◌, ◌++◌, map, length, take, drop, refl, sym, ap, ap₂, ◌∙◌, subst, arith, Ok, Err, append_assoc, append-nil, length-append}
use Rattle.std.specs.Prelude.{filter, flat_map}
use Rattle.std.specs.List.{AllByRecursion}
use Rattle.ooc_bags.specs.Bags.{SameBag}
use Rattle.sql_meaning.specs.Found.{Found, Row, clean, collected}
use Rattle.sql_meaning.specs.Judged.{Verdict, kept, judged, verdict_found, plain_first}
use Rattle.sql_meaning.specs.From.{Source, is_empty, nulls, padded, pairs, met, joined, from_behind}
use Rattle.ooc_bags.specs.Rearranged.{IsRearranged}
use Rattle.sql_meaning.specs.Free.{Table, Loop, looped, all_pass, product, tables_of, width_of, IsWide, reordered, IsSettled, is_kept, IsFree, loop_of, IsLoopOf, AreLoopsOf}
use Rattle.sql_meaning.specs.Stage.{Side, side_met, side_joined, joined_behind}
use Rattle.ooc_bags.proofs.Bags.{bag-refl, bag-from, bag-trans, bag-map, bag-filter, bag-flat_map, bag-loops}
use Rattle.ooc_bags.proofs.Lists.{map-same, flat_map-same, flat_map-flat_map, flat_map-map, map-flat_map, map-map, filter-map, filter-over, filter-flat_map}
use Rattle.ooc_bags.proofs.Lists.{filter-filter, filter-same}

-- what holds of each item of a list
abbrev pub Each : {A : Type 0} → (A → Type 0) → List A → Type 0
Each P xs = AllByRecursion P xs

pub each-over : {A : Type 0} (P : A → Type 0) (xs ys : List A) → Each P xs → Each P ys → Each P (xs ++ ys)
each-over P [] ys a b = b
each-over P (x ∷ xs) ys a b = (a.0, each-over P xs ys a.1 b)

pub each-flat_map : {A B : Type 0} (P : A → Type 0) (Q : B → Type 0) (f : A → List B) → ((x : A) → P x → Each Q (f x)) → (xs : List A) → Each P xs → Each Q (flat_map f xs)
each-flat_map P Q f h [] all = tt
each-flat_map P Q f h (x ∷ xs) all = each-over Q (f x) (flat_map f xs) (h x all.0) (each-flat_map P Q f h xs all.1)

pub each-map : {A B : Type 0} (P : A → Type 0) (Q : B → Type 0) (f : A → B) → ((x : A) → P x → Q (f x)) → (xs : List A) → Each P xs → Each Q (map f xs)
each-map P Q f h [] all = tt
each-map P Q f h (x ∷ xs) all = (h x all.0, each-map P Q f h xs all.1)

pub each-filter : {A : Type 0} (P : A → Type 0) (p : A → Bool) (xs : List A) → Each P xs → Each P (filter p xs)
each-filter P p [] all = tt
each-filter P p (x ∷ xs) all = elim (p x) as (λ b. Each P (cond b (x ∷ filter p xs) (filter p xs))) [
  | true ↦ (all.0, each-filter P p xs all.1)
  | false ↦ each-filter P p xs all.1
]

-- on the items of a list the two give the same
pub flat_map-each : {A B : Type 0} (P : A → Type 0) (f g : A → List B) → ((x : A) → P x → f x ≡ g x) → (xs : List A) → Each P xs → flat_map f xs ≡ flat_map g xs
flat_map-each P f g same [] all = refl
flat_map-each P f g same (x ∷ xs) all = ap₂ ◌++◌ (same x all.0) (flat_map-each P f g same xs all.1)

pub map-each : {A B : Type 0} (P : A → Type 0) (f g : A → B) → ((x : A) → P x → f x ≡ g x) → (xs : List A) → Each P xs → map f xs ≡ map g xs
map-each P f g same [] all = refl
map-each P f g same (x ∷ xs) all = ap₂ ◌∷◌ (same x all.0) (map-each P f g same xs all.1)

pub filter-each : {A : Type 0} (P : A → Type 0) (p q : A → Bool) → ((x : A) → P x → p x ≡ q x) → (xs : List A) → Each P xs → filter p xs ≡ filter q xs
filter-each P p q same [] all = refl
filter-each P p q same (x ∷ xs) all =
    ap (λ b. cond b (x ∷ filter p xs) (filter p xs)) (same x all.0) ∙ ap (λ l. cond (q x) (x ∷ l) l) (filter-each P p q same xs all.1)

filter-all : {A : Type 0} (xs : List A) → filter (λ x. true) xs ≡ xs
filter-all [] = refl
filter-all (x ∷ xs) = ap (λ l. x ∷ l) (filter-all xs)

-- the front of a row, and what is behind it
take-front : (l r : Row) (n : ℕ) → length l ≡ n → take n (l ++ r) ≡ l
take-front [] r n e = ap (λ k. take k r) (sym e)
take-front (v ∷ l) r zero e = absurd (omega arith)
take-front (v ∷ l) r (suc n) e = ap (λ t. v ∷ t) (take-front l r n (omega arith))

drop-front : (l r : Row) (n : ℕ) → length l ≡ n → drop n (l ++ r) ≡ r
drop-front [] r n e = ap (λ k. drop k r) (sym e)
drop-front (v ∷ l) r zero e = absurd (omega arith)
drop-front (v ∷ l) r (suc n) e = drop-front l r n (omega arith)

each-product : (ts : List Table) → Each IsWide ts → Each (λ row. length row ≡ width_of ts) (product ts)
each-product [] wide = (refl, tt)
each-product (t ∷ ts) wide =
    each-flat_map (λ row. length row ≡ t.width) (λ row. length row ≡ width_of (t ∷ ts)) (λ row. pairs row (product ts))
    (λ row e. each-map (λ rest. length rest ≡ width_of ts) (λ whole. length whole ≡ width_of (t ∷ ts)) (λ rest. row ++ rest)
    (λ rest f. let long = length-append row rest in omega arith) (product ts) (each-product ts wide.1)) t.rows wide.0

pub each-pairs : (n w : ℕ) (rights : List Row) → Each (λ r. length r ≡ w) rights → (l : Row) → length l ≡ n → Each (λ row. length row ≡ n + w) (pairs l rights)
each-pairs n w rights all l e =
    each-map (λ r. length r ≡ w) (λ row. length row ≡ n + w) (λ r. l ++ r) (λ r f. let long = length-append l r in omega arith) rights all

-- a test of the rows so far, taken before or behind a loop
filter-before : (n : ℕ) (t : Row → Bool) (rights ls : List Row) → Each (λ l. length l ≡ n) ls
    → flat_map (λ l. pairs l rights) (filter t ls) ≡ filter (λ row. t (take n row)) (flat_map (λ l. pairs l rights) ls)
filter-before n t rights [] all = refl
filter-before n t rights (l ∷ ls) all =
    elim (t l) as (λ b. t l ≡ b → flat_map (λ l. pairs l rights) (cond b (l ∷ filter t ls) (filter t ls)) ≡ filter (λ row. t (take n row)) (pairs l rights) ++ filter (λ row. t (take n row)) (flat_map (λ l. pairs l rights) ls)) [
      | true ↦ λ e. ap₂ ◌++◌ (sym (keeps e)) (filter-before n t rights ls all.1)
      | false ↦ λ e. filter-before n t rights ls all.1 ∙ ap (λ front. front ++ filter (λ row. t (take n row)) (flat_map (λ l. pairs l rights) ls)) (sym (drops e))
    ] refl
    ∙ sym (filter-over (λ row. t (take n row)) (pairs l rights) (flat_map (λ l. pairs l rights) ls))
  where
    at : (b : Bool) → t l ≡ b → filter (λ row. t (take n row)) (pairs l rights) ≡ map (λ r. l ++ r) (filter (λ r. b) rights)
    at b e = filter-map (λ row. t (take n row)) (λ r. l ++ r) rights ∙ ap (map (λ r. l ++ r)) (filter-same (λ r. t (take n (l ++ r))) (λ r. b) (λ r. ap t (take-front l r n all.0) ∙ e) rights)

    keeps : t l ≡ true → filter (λ row. t (take n row)) (pairs l rights) ≡ pairs l rights
    keeps e = at true e ∙ ap (map (λ r. l ++ r)) (filter-all rights)

    none : (rs : List Row) → filter (λ r. false) rs ≡ []
    none [] = refl
    none (r ∷ rs) = none rs

    drops : t l ≡ false → filter (λ row. t (take n row)) (pairs l rights) ≡ []
    drops e = at false e ∙ ap (map (λ r. l ++ r)) (none rights)

-- a test of the rows of a source, taken before or behind the loop
filter-own : (n : ℕ) (own : Row → Bool) (rights ls : List Row) → Each (λ l. length l ≡ n) ls
    → flat_map (λ l. pairs l (filter own rights)) ls ≡ filter (λ row. own (drop n row)) (flat_map (λ l. pairs l rights) ls)
filter-own n own rights ls all =
    flat_map-each (λ l. length l ≡ n) (λ l. pairs l (filter own rights)) (λ l. filter (λ row. own (drop n row)) (pairs l rights))
    (λ l e. sym (filter-map (λ row. own (drop n row)) (λ r. l ++ r) rights ∙ ap (map (λ r. l ++ r)) (filter-same (λ r. own (drop n (l ++ r))) own (λ r. ap own (drop-front l r n e)) rights))) ls all
    ∙ sym (filter-flat_map (λ row. own (drop n row)) (λ l. pairs l rights) ls)

loops-together : (ls rs qs : List Row) → flat_map (λ p. pairs p qs) (flat_map (λ l. pairs l rs) ls) ≡ flat_map (λ l. pairs l (flat_map (λ r. pairs r qs) rs)) ls
loops-together ls rs qs =
    flat_map-flat_map (λ p. pairs p qs) (λ l. pairs l rs) ls
    ∙ flat_map-same (λ l. flat_map (λ p. pairs p qs) (pairs l rs)) (λ l. pairs l (flat_map (λ r. pairs r qs) rs))
    (λ l. flat_map-map (λ p. pairs p qs) (λ r. l ++ r) rs
    ∙ flat_map-same (λ r. pairs (l ++ r) qs) (λ r. map (λ w. l ++ w) (pairs r qs))
    (λ r. map-same (λ q. (l ++ r) ++ q) (λ q. l ++ (r ++ q)) (λ q. append_assoc l r q) qs ∙ sym (map-map (λ w. l ++ w) (λ q. r ++ q) qs)) rs
    ∙ sym (map-flat_map (λ w. l ++ w) (λ r. pairs r qs) rs)) ls

and-turn : (a b c : Bool) → (a && (b && c)) ≡ (b && (c && a))
and-turn true true true = refl
and-turn true true false = refl
and-turn true false c = refl
and-turn false true true = refl
and-turn false true false = refl
and-turn false false c = refl

drop-take : (n w m : ℕ) (row : Row) → m ≡ n + w → drop n (take m row) ≡ take w (drop n row)
drop-take zero w m row e = let same : m ≡ w = omega arith in ap (λ k. take k row) same
drop-take (suc n) w zero row e = absurd (omega arith)
drop-take (suc n) zero (suc m) [] e = refl
drop-take (suc n) (suc w) (suc m) [] e = refl
drop-take (suc n) w (suc m) (v ∷ row) e = drop-take n w m row (omega arith)

-- Nested loops are one filter over the product.
pub looped-is : (n : ℕ) (loops : List Loop) (ls : List Row) → Each IsWide (tables_of loops) → Each (λ l. length l ≡ n) ls
    → looped loops ls ≡ filter (all_pass n loops) (flat_map (λ l. pairs l (product (tables_of loops))) ls)
looped-is n [] ls wide all = sym (filter-all (flat_map (λ l. pairs l ([] ∷ [])) ls) ∙ alone ls)
  where
    alone : (ls : List Row) → flat_map (λ l. pairs l ([] ∷ [])) ls ≡ ls
    alone [] = refl
    alone (l ∷ ls) = ap₂ ◌∷◌ (append-nil l) (alone ls)
looped-is n (loop ∷ loops) ls wide all =
    let w = loop.table.width in
    let S = loop.table.rows in
    let P : List Row = flat_map (λ l. pairs l S) ls in
    let Q : List Row = product (tables_of loops) in
    let own : Row → Bool = λ row. loop.own (drop n row) in
    let A : Row → Bool = all_pass (n + w) loops in
    let B : Row → Bool = λ row. loop.test (take (n + w) row) in
    let C : Row → Bool = λ row. own (take (n + w) row) in
    let wide_pairs : Each (λ row. length row ≡ n + w) P = each-flat_map (λ l. length l ≡ n) (λ row. length row ≡ n + w) (λ l. pairs l S) (each-pairs n w S wide.0) ls all in
    let owned : Each (λ row. length row ≡ n + w) (filter own P) = each-filter (λ row. length row ≡ n + w) own P wide_pairs in
    ap (λ rows. looped loops (filter loop.test rows)) (filter-own n loop.own S ls all)
    ∙ looped-is (n + w) loops (filter loop.test (filter own P)) wide.1 (each-filter (λ row. length row ≡ n + w) loop.test (filter own P) owned)
    ∙ ap (filter A) (filter-before (n + w) loop.test Q (filter own P) owned ∙ ap (filter B) (filter-before (n + w) own Q P wide_pairs ∙ ap (filter C) (loops-together ls S Q)))
    ∙ ap (filter A) (filter-filter B C (flat_map (λ l. pairs l (product (tables_of (loop ∷ loops)))) ls))
    ∙ filter-filter A (λ row. B row && C row) (flat_map (λ l. pairs l (product (tables_of (loop ∷ loops)))) ls)
    ∙ filter-same (λ row. A row && (B row && C row)) (all_pass n (loop ∷ loops))
    (λ row. and-turn (A row) (B row) (C row) ∙ ap (λ c. B row && (loop.own c && A row)) (drop-take n w (n + w) row refl)) (flat_map (λ l. pairs l (product (tables_of (loop ∷ loops)))) ls)

-- the columns of a table's row, put behind so many columns of another
put : ℕ → Row → Row → Row
put at row rest = take at rest ++ (row ++ drop at rest)

width-over : (ts us : List Table) → width_of (ts ++ us) ≡ width_of ts + width_of us
width-over [] us = omega arith
width-over (t ∷ ts) us = let rest = width-over ts us in omega arith

take-over : (l r : Row) (n k : ℕ) → length l ≡ n → take (n + k) (l ++ r) ≡ l ++ take k r
take-over [] r n k e = let same : n + k ≡ k = omega arith in ap (λ m. take m r) same
take-over (v ∷ l) r zero k e = absurd (omega arith)
take-over (v ∷ l) r (suc n) k e =
    let same : suc n + k ≡ suc (n + k) = omega arith in
    ap (λ m. take m (v ∷ (l ++ r))) same ∙ ap (λ t. v ∷ t) (take-over l r n k (omega arith))

drop-over : (l r : Row) (n k : ℕ) → length l ≡ n → drop (n + k) (l ++ r) ≡ drop k r
drop-over [] r n k e = let same : n + k ≡ k = omega arith in ap (λ m. drop m r) same
drop-over (v ∷ l) r zero k e = absurd (omega arith)
drop-over (v ∷ l) r (suc n) k e =
    let same : suc n + k ≡ suc (n + k) = omega arith in
    ap (λ m. drop m (v ∷ (l ++ r))) same ∙ drop-over l r n k (omega arith)

put-behind : (p row rest : Row) (n k : ℕ) → length p ≡ n → put (n + k) row (p ++ rest) ≡ p ++ put k row rest
unfolding put
put-behind p row rest n k e =
    ap₂ ◌++◌ (take-over p rest n k e) (ap (λ t. row ++ t) (drop-over p rest n k e)) ∙ append_assoc p (take k rest) (row ++ drop k rest)

-- a table that is taken out of a product, and its columns put back
product-moved : (x : Table) (front back : List Table) → Each IsWide front
    → SameBag (flat_map (λ row. map (put (width_of front) row) (product (front ++ back))) x.rows) (product (front ++ x ∷ back))
unfolding put
product-moved x [] back wide = bag-refl (product (x ∷ back))
product-moved x (y ∷ front) back wide =
    let PQ = product (front ++ back) in
    let f = width_of front in
    let whole = flat_map (λ row. map (put (width_of (y ∷ front)) row) (product (y ∷ front ++ back))) x.rows in
    let turned : List Row = flat_map (λ row. flat_map (λ p. map (λ rest. p ++ put f row rest) PQ) y.rows) x.rows in
    let loops : List Row = flat_map (λ p. flat_map (λ row. map (λ rest. p ++ put f row rest) PQ) x.rows) y.rows in
    let inner : List Row = flat_map (λ p. pairs p (flat_map (λ row. map (put f row) PQ) x.rows)) y.rows in
    bag-trans whole turned (product (y ∷ front ++ x ∷ back))
    (bag-from whole turned (flat_map-same (λ row. map (put (width_of (y ∷ front)) row) (product (y ∷ front ++ back))) (λ row. flat_map (λ p. map (λ rest. p ++ put f row rest) PQ) y.rows)
    (λ row. map-flat_map (put (y.width + f) row) (λ p. pairs p PQ) y.rows
    ∙ flat_map-each (λ p. length p ≡ y.width) (λ p. map (put (y.width + f) row) (pairs p PQ)) (λ p. map (λ rest. p ++ put f row rest) PQ)
    (λ p e. map-map (put (y.width + f) row) (λ rest. p ++ rest) PQ ∙ map-same (λ rest. put (y.width + f) row (p ++ rest)) (λ rest. p ++ put f row rest) (λ rest. put-behind p row rest y.width f e) PQ)
    y.rows wide.0) x.rows))
    (bag-trans turned loops (product (y ∷ front ++ x ∷ back))
    (bag-loops (λ row p. map (λ rest. p ++ put f row rest) PQ) x.rows y.rows)
    (bag-trans loops inner (product (y ∷ front ++ x ∷ back))
    (bag-from loops inner (flat_map-same (λ p. flat_map (λ row. map (λ rest. p ++ put f row rest) PQ) x.rows) (λ p. pairs p (flat_map (λ row. map (put f row) PQ) x.rows))
    (λ p. flat_map-same (λ row. map (λ rest. p ++ put f row rest) PQ) (λ row. map (λ w. p ++ w) (map (put f row) PQ)) (λ row. sym (map-map (λ w. p ++ w) (put f row) PQ)) x.rows
    ∙ sym (map-flat_map (λ w. p ++ w) (λ row. map (put f row) PQ) x.rows)) y.rows))
    (bag-flat_map (λ p. pairs p (flat_map (λ row. map (put f row) PQ) x.rows)) (λ p. pairs p (product (front ++ x ∷ back))) y.rows y.rows (bag-refl y.rows)
    (λ p. bag-map (λ w. p ++ w) (flat_map (λ row. map (put f row) PQ) x.rows) (product (front ++ x ∷ back)) (product-moved x front back wide.1)))))

each-split : (P : Table → Type 0) (front : List Table) (x : Table) (back : List Table) → Each P (front ++ x ∷ back) → Each P front × P x × Each P (front ++ back)
each-split P [] x back all = (tt, all.0, all.1)
each-split P (y ∷ front) x back all = let rest = each-split P front x back all.1 in ((all.0, rest.0), rest.1, (all.0, rest.2))

-- The product in any order of its tables, with its columns put back, is the same bag.
pub product-reordered : (xs ys : List Table) (is : IsRearranged xs ys) → Each IsWide ys → SameBag (map (reordered xs ys is) (product xs)) (product ys)
unfolding put
product-reordered [] ys is wide = subst (λ zs. SameBag ([] ∷ []) (product zs)) (sym is) (bag-refl ([] ∷ []))
product-reordered (x ∷ xs) ys is wide =
    let front = is.0 in
    let back = is.1 in
    let parts = each-split IsWide front x back (subst (Each IsWide) is.2 wide) in
    let rest = reordered xs (front ++ back) is.3 in
    let whole = map (reordered (x ∷ xs) ys is) (product (x ∷ xs)) in
    let turned : List Row = flat_map (λ row. map (put (width_of front) row) (map rest (product xs))) x.rows in
    let moved : List Row = flat_map (λ row. map (put (width_of front) row) (product (front ++ back))) x.rows in
    bag-trans whole turned (product ys)
    (bag-from whole turned
    (map-flat_map (reordered (x ∷ xs) ys is) (λ row. pairs row (product xs)) x.rows
    ∙ flat_map-each (λ row. length row ≡ x.width) (λ row. map (reordered (x ∷ xs) ys is) (pairs row (product xs))) (λ row. map (put (width_of front) row) (map rest (product xs)))
    (λ row e. map-map (reordered (x ∷ xs) ys is) (λ r. row ++ r) (product xs)
    ∙ map-same (λ r. reordered (x ∷ xs) ys is (row ++ r)) (λ r. put (width_of front) row (rest r)) (λ r. at row r e) (product xs)
    ∙ sym (map-map (put (width_of front) row) rest (product xs))) x.rows parts.1))
    (bag-trans turned moved (product ys)
    (bag-flat_map (λ row. map (put (width_of front) row) (map rest (product xs))) (λ row. map (put (width_of front) row) (product (front ++ back))) x.rows x.rows (bag-refl x.rows)
    (λ row. bag-map (put (width_of front) row) (map rest (product xs)) (product (front ++ back)) (product-reordered xs (front ++ back) is.3 parts.2)))
    (subst (λ zs. SameBag moved (product zs)) (sym is.2) (product-moved x front back parts.0)))
  where
    at : (row r : Row) → length row ≡ x.width
        → take (width_of is.0) (reordered xs (is.0 ++ is.1) is.3 (drop x.width (row ++ r))) ++ (take x.width (row ++ r) ++ drop (width_of is.0) (reordered xs (is.0 ++ is.1) is.3 (drop x.width (row ++ r))))
        ≡ put (width_of is.0) row (reordered xs (is.0 ++ is.1) is.3 r)
    at row r e =
        ap₂ (λ front_columns behind. take (width_of is.0) (reordered xs (is.0 ++ is.1) is.3 behind) ++ (front_columns ++ drop (width_of is.0) (reordered xs (is.0 ++ is.1) is.3 behind)))
        (take-front row r x.width e) (drop-front row r x.width e)

-- from one row without columns
looped-all : (loops : List Loop) → Each IsWide (tables_of loops) → looped loops ([] ∷ []) ≡ filter (all_pass 0 loops) (product (tables_of loops))
looped-all loops wide =
    looped-is 0 loops ([] ∷ []) wide (refl, tt)
    ∙ ap (filter (all_pass 0 loops)) (append-nil (pairs [] (product (tables_of loops))) ∙ same (product (tables_of loops)))
  where
    same : (rows : List Row) → pairs [] rows ≡ rows
    same [] = refl
    same (row ∷ rows) = ap (λ l. row ∷ l) (same rows)

-- The second of the two facts: a free FROM, in any order of its tables and with its tests anywhere, gives the same bag,
-- once the columns are put back. `extra` is tested above the loops of the plan, and `rest` above the written ones.
pub loops-reordered : (plan written : List Loop) (is : IsRearranged (tables_of plan) (tables_of written)) (extra rest : Row → Bool)
    → Each IsWide (tables_of plan) → Each IsWide (tables_of written)
    → ((row : Row) → length row ≡ width_of (tables_of plan)
    → (extra row && all_pass 0 plan row) ≡ (rest (reordered (tables_of plan) (tables_of written) is row) && all_pass 0 written (reordered (tables_of plan) (tables_of written) is row)))
    → SameBag (map (reordered (tables_of plan) (tables_of written) is) (filter extra (looped plan ([] ∷ [])))) (filter rest (looped written ([] ∷ [])))
loops-reordered plan written is extra rest wide_plan wide_written same =
    let xs = tables_of plan in
    let ys = tables_of written in
    let W = reordered xs ys is in
    let tested : Row → Bool = λ row. rest row && all_pass 0 written row in
    let left = map W (filter extra (looped plan ([] ∷ []))) in
    let middle = filter tested (map W (product xs)) in
    let right = filter rest (looped written ([] ∷ [])) in
    bag-trans left middle right
    (bag-from left middle
    (ap (map W) (ap (filter extra) (looped-all plan wide_plan) ∙ filter-filter extra (all_pass 0 plan) (product xs)
    ∙ filter-each (λ row. length row ≡ width_of xs) (λ row. extra row && all_pass 0 plan row) (λ row. tested (W row)) same (product xs) (each-product xs wide_plan))
    ∙ sym (filter-map tested W (product xs))))
    (bag-trans middle (filter tested (product ys)) right
    (bag-filter tested (map W (product xs)) (product ys) (product-reordered xs ys is wide_written))
    (bag-from (filter tested (product ys)) right
    (sym (ap (filter rest) (looped-all written wide_written) ∙ filter-filter rest (all_pass 0 written) (product ys)))))

-- a FROM of inner joins that can't fault is nested loops with tests
settled-found : (row : Row) (verdict : Verdict) → IsSettled verdict → verdict_found row verdict ≡ clean (cond (is_kept verdict) (row ∷ []) [])
settled-found row (Err fault) settled = absurd settled
settled-found row (Ok true) settled = refl
settled-found row (Ok false) settled = refl

kept-settled : (source : Source) → IsFree source → (rows : List Row) → kept source.on rows ≡ clean (filter (loop_of source).test rows)
kept-settled source free rows = λ i. record { rows = kept_rows rows i; faults = kept_faults rows i }
  where
    kept_rows : (rows : List Row) → (kept source.on rows).rows ≡ filter (loop_of source).test rows
    kept_rows [] = refl
    kept_rows (row ∷ rows) =
        ap₂ ◌++◌ (ap (λ (f : Found Row). f.rows) (settled-found row (judged (plain_first source.on) row) (free.settled row))) (kept_rows rows)
        ∙ one (is_kept (judged (plain_first source.on) row)) row (filter (loop_of source).test rows)
      where
        one : (b : Bool) (row : Row) (rows : List Row) → cond b (row ∷ []) [] ++ rows ≡ cond b (row ∷ rows) rows
        one true row rows = refl
        one false row rows = refl

    kept_faults : (rows : List Row) → (kept source.on rows).faults ≡ []
    kept_faults [] = refl
    kept_faults (row ∷ rows) = ap₂ ◌++◌ (ap (λ (f : Found Row). f.faults) (settled-found row (judged (plain_first source.on) row) (free.settled row))) (kept_faults rows)

unpadded : (source : Source) → source.pads ≡ false → (left : Row) (found : Found Row) → padded source left found ≡ found
unpadded source inner left found = ap (λ b. cond (b && (is_empty found.rows && is_empty found.faults)) (clean ((left ++ nulls source.width) ∷ [])) found) inner

met-free : (source : Source) → IsFree source → (left : Row) → met source left ≡ clean (filter (loop_of source).test (pairs left source.found.rows))
met-free source free left =
    unpadded source free.inner left (kept source.on (pairs left source.found.rows)) ∙ kept-settled source free (pairs left source.found.rows)

joined-free : (source : Source) → IsFree source → (rows : List Row) → joined source rows ≡ clean (filter (loop_of source).test (flat_map (λ left. pairs left (filter (loop_of source).own source.found.rows)) rows))
joined-free source free rows = λ i. record { rows = joined_rows i; faults = joined_faults rows i }
  where
    joined_rows : (joined source rows).rows ≡ filter (loop_of source).test (flat_map (λ left. pairs left (filter (λ row. true) source.found.rows)) rows)
    joined_rows =
        flat_map-same (λ left. (met source left).rows) (λ left. filter (loop_of source).test (pairs left source.found.rows)) (λ left. ap (λ (f : Found Row). f.rows) (met-free source free left)) rows
        ∙ sym (filter-flat_map (loop_of source).test (λ left. pairs left source.found.rows) rows)
        ∙ ap (λ all. filter (loop_of source).test (flat_map (λ left. pairs left all) rows)) (sym (filter-all source.found.rows))

    joined_faults : (rows : List Row) → (joined source rows).faults ≡ []
    joined_faults [] = refl
    joined_faults (left ∷ rows) = ap₂ ◌++◌ (ap (λ (f : Found Row). f.faults) (met-free source free left)) (joined_faults rows)

pub from-free : (sources : List Source) → Each IsFree sources → (rows : List Row) → from_behind sources rows ≡ clean (looped (map loop_of sources) rows)
from-free [] free rows = refl
from-free (source ∷ sources) free rows =
    ap (λ (found : Found Row). (record { rows = (from_behind sources found.rows).rows; faults = found.faults ++ (from_behind sources found.rows).faults })) (joined-free source free.0 rows)
    ∙ from-free sources free.1 _

-- join stages whose verdicts can't fault are nested loops
side-loop : (at : ℕ) (side : Side) (loop : Loop) → IsLoopOf at side loop → (left : Row) → length left ≡ at
    → side_met side left ≡ clean (filter loop.test (pairs left (filter loop.own loop.table.rows)))
side-loop at side loop is left long =
    ap (λ b. cond (b && (is_empty found.rows && is_empty found.faults)) (clean ((left ++ nulls side.width) ∷ [])) found) is.inner
    ∙ (λ i. record { rows = found_rows side.rows i; faults = found_faults side.rows i })
    ∙ ap (λ rows. clean (filter loop.test (pairs left rows))) is.rows
  where
    found : Found Row
    found = collected (λ right. verdict_found (left ++ right) (side.verdict left right)) side.rows

    one : (b : Bool) (row : Row) (rows : List Row) → (verdict_found row (Ok b)).rows ++ rows ≡ cond b (row ∷ rows) rows
    one true row rows = refl
    one false row rows = refl

    none : (b : Bool) (row : Row) → (verdict_found row (Ok b)).faults ≡ []
    none true row = refl
    none false row = refl

    found_rows : (rights : List Row) → flat_map (λ right. (verdict_found (left ++ right) (side.verdict left right)).rows) rights ≡ filter loop.test (pairs left rights)
    found_rows [] = refl
    found_rows (right ∷ rights) =
        ap₂ ◌++◌ (ap (λ verdict. (verdict_found (left ++ right) verdict).rows) (is.verdict left right long)) (found_rows rights)
        ∙ one (loop.test (left ++ right)) (left ++ right) (filter loop.test (pairs left rights))

    found_faults : (rights : List Row) → flat_map (λ right. (verdict_found (left ++ right) (side.verdict left right)).faults) rights ≡ []
    found_faults [] = refl
    found_faults (right ∷ rights) =
        ap₂ ◌++◌ (ap (λ verdict. (verdict_found (left ++ right) verdict).faults) (is.verdict left right long) ∙ none (loop.test (left ++ right)) (left ++ right)) (found_faults rights)

wide-loop : (at : ℕ) (loop : Loop) → IsWide loop.table → (rows : List Row) → Each (λ l. length l ≡ at) rows
    → Each (λ l. length l ≡ at + loop.table.width) (filter loop.test (flat_map (λ left. pairs left (filter loop.own loop.table.rows)) rows))
wide-loop at loop wide rows all =
    each-filter (λ l. length l ≡ at + loop.table.width) loop.test (flat_map (λ left. pairs left (filter loop.own loop.table.rows)) rows)
    (each-flat_map (λ l. length l ≡ at) (λ row. length row ≡ at + loop.table.width) (λ l. pairs l (filter loop.own loop.table.rows))
    (each-pairs at loop.table.width (filter loop.own loop.table.rows) (each-filter (λ r. length r ≡ loop.table.width) loop.own loop.table.rows wide)) rows all)

pub sides-loop : (at : ℕ) (sides : List Side) (loops : List Loop) → AreLoopsOf at sides loops → Each IsWide (tables_of loops) → (rows : List Row) → Each (λ l. length l ≡ at) rows
    → joined_behind sides rows ≡ clean (looped loops rows)
sides-loop at [] [] is wide rows all = refl
sides-loop at [] (loop ∷ loops) is wide rows all = absurd is
sides-loop at (side ∷ sides) [] is wide rows all = absurd is
sides-loop at (side ∷ sides) (loop ∷ loops) is wide rows all =
    ap (λ (found : Found Row). (record { rows = (joined_behind sides found.rows).rows; faults = found.faults ++ (joined_behind sides found.rows).faults })) first
    ∙ sides-loop (at + loop.table.width) sides loops is.1 wide.1 (filter loop.test (flat_map (λ left. pairs left (filter loop.own loop.table.rows)) rows)) (wide-loop at loop wide.0 rows all)
  where
    faults : (rows : List Row) → Each (λ l. length l ≡ at) rows → (side_joined side rows).faults ≡ []
    faults [] all = refl
    faults (left ∷ rows) all = ap₂ ◌++◌ (ap (λ (f : Found Row). f.faults) (side-loop at side loop is.0 left all.0)) (faults rows all.1)

    first : side_joined side rows ≡ clean (filter loop.test (flat_map (λ left. pairs left (filter loop.own loop.table.rows)) rows))
    first = λ i. record {
      rows = (flat_map-each (λ l. length l ≡ at) (λ left. (side_met side left).rows) (λ left. filter loop.test (pairs left (filter loop.own loop.table.rows)))
          (λ left long. ap (λ (f : Found Row). f.rows) (side-loop at side loop is.0 left long)) rows all
          ∙ sym (filter-flat_map loop.test (λ left. pairs left (filter loop.own loop.table.rows)) rows)) i;
      faults = faults rows all i;
    }

-- the rows of nested loops have the columns of all tables
pub looped-wide : (at : ℕ) (loops : List Loop) → Each IsWide (tables_of loops) → (rows : List Row) → Each (λ l. length l ≡ at) rows → Each (λ l. length l ≡ at + width_of (tables_of loops)) (looped loops rows)
looped-wide at [] wide rows all = subst (λ n. Each (λ (l : Row). length l ≡ n) rows) same all
  where
    same : at ≡ at + 0
    same = omega arith
looped-wide at (loop ∷ loops) wide rows all =
    let same : (at + loop.table.width) + width_of (tables_of loops) ≡ at + (loop.table.width + width_of (tables_of loops)) = omega arith in
    subst (λ n. Each (λ (l : Row). length l ≡ n) (looped (loop ∷ loops) rows)) same
    (looped-wide (at + loop.table.width) loops wide.1 (filter loop.test (flat_map (λ left. pairs left (filter loop.own loop.table.rows)) rows)) (wide-loop at loop wide.0 rows all))
