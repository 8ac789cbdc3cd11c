-- Partial groups, in any pieces and merged in any grouping.
use Rattle.std.proofs.Common.{◌≡◌, ℕ, Bool, true, false, cond, not, ◌&&◌, ◌==◌, nat_eq, List, [], ◌∷◌, ◌++◌, map, refl, sym, ap, ap₂, ◌∙◌, Option, Some, None}
use Rattle.std.specs.Prelude.{filter, flat_map, fold}
use Rattle.std.specs.Bool.{Decides}
use Rattle.std.specs.Ordering.{int_eq}
use Rattle.std.proofs.lemmas.Bool.Decides.{Decides-eqb, Decides-int_eq, Decides-and, Decides-like}
use Rattle.std.proofs.lemmas.List.Sums.{fold-append}
use Rattle.ooc_bags.specs.Bags.{SameBag}
use Rattle.ooc_bags.specs.Rows.{row_eq, value_eq}
use Rattle.ooc_bags.proofs.RowTests.{row_eq-Decides, value_eq-Decides}
use Rattle.ooc_types.specs.declared.value.Value.{Value}
use Rattle.sql_meaning.specs.Found.{Row}
use Rattle.sql_meaning.specs.Judged.{RowValue}
use Rattle.ooc_bags.specs.Firsts.{firsts}
use Rattle.sql_meaning.specs.Aggregates.{State, nothing_taken, together, state_of, finished}
use Rattle.sql_meaning.specs.Groups.{Keyed, rows_of, arguments, aggregated, perhaps_once, group_row, groups, keys_of, Grouping, Aggregation}
use Rattle.ooc_bags.specs.Parts.{part}
use Rattle.sql_meaning.specs.Pieces.{Partial, StandFor, key_state, merged, one_row}
use Rattle.ooc_bags.proofs.Bags.{bag-refl, bag-sym, bag-from, bag-trans, bag-append, bag-map, bag-filter}
use Rattle.ooc_bags.proofs.Lists.{map-same, filter-over, filter-map, flat_map-append, filter-of}
use Rattle.ooc_bags.proofs.Rearranged.{rearranged, fold-rearranged}
use Rattle.sql_meaning.proofs.States.{state_is, together-comm, together-assoc, together-none, state_of-append, state_of-SameBag}
use Rattle.ooc_bags.proofs.Firsts.{others, firsts-SameBag}
use Rattle.sql_meaning.proofs.GroupLemmas.{same-rows_of, same-arguments}
use Rattle.ooc_bags.proofs.Firsts.{firsts-filter}

map-over : {B C : Type 0} (f : B → C) (xs ys : List B) → map f (xs ++ ys) ≡ map f xs ++ map f ys
map-over f [] ys = refl
map-over f (x ∷ xs) ys = ap (λ l. f x ∷ l) (map-over f xs ys)

others-twice : (x : Row) (xs : List Row) → others x (others x xs) ≡ others x xs
others-twice x xs = filter-of (λ y. not (row_eq x y)) (λ y. not (row_eq x y)) (λ y h. h) xs

others-firsts : (x : Row) (xs : List Row) → others x (firsts xs) ≡ firsts (others x xs)
others-firsts x xs = sym (firsts-filter (λ y. not (row_eq x y)) xs)

others-over : (x : Row) (xs ys : List Row) → others x (xs ++ ys) ≡ others x xs ++ others x ys
others-over x xs ys = filter-over (λ y. not (row_eq x y)) xs ys

others-before : (x : Row) (xs ys : List Row) → others x (firsts (others x xs ++ ys)) ≡ others x (firsts (xs ++ ys))
others-before x xs ys =
    others-firsts x (others x xs ++ ys)
    ∙ ap firsts (others-over x (others x xs) ys ∙ ap (λ l. l ++ others x ys) (others-twice x xs) ∙ sym (others-over x xs ys))
    ∙ sym (others-firsts x (xs ++ ys))

firsts-front : (xs ys : List Row) → firsts (firsts xs ++ ys) ≡ firsts (xs ++ ys)
firsts-front [] ys = refl
firsts-front (x ∷ xs) ys = ap (λ l. x ∷ l) (others-before x (firsts xs) ys ∙ ap (others x) (firsts-front xs ys))

append-none : (xs : List Row) → xs ++ [] ≡ xs
append-none [] = refl
append-none (x ∷ xs) = ap (λ l. x ∷ l) (append-none xs)

firsts-firsts : (xs : List Row) → firsts (firsts xs) ≡ firsts xs
firsts-firsts xs = ap firsts (sym (append-none (firsts xs))) ∙ firsts-front xs [] ∙ ap firsts (append-none xs)

firsts-back : (xs ys : List Row) → firsts (xs ++ firsts ys) ≡ firsts (xs ++ ys)
firsts-back [] ys = firsts-firsts ys
firsts-back (x ∷ xs) ys = ap (λ l. x ∷ others x l) (firsts-back xs ys)

firsts-both : (xs ys us vs : List Row) → SameBag (firsts xs) (firsts ys) → SameBag (firsts us) (firsts vs) → SameBag (firsts (xs ++ us)) (firsts (ys ++ vs))
firsts-both xs ys us vs first second =
    let whole : (ks ls : List Row) → firsts (firsts ks ++ firsts ls) ≡ firsts (ks ++ ls) = λ ks ls. firsts-front ks (firsts ls) ∙ firsts-back ks ls in
    bag-trans (firsts (xs ++ us)) (firsts (firsts xs ++ firsts us)) (firsts (ys ++ vs))
    (bag-from (firsts (xs ++ us)) (firsts (firsts xs ++ firsts us)) (sym (whole xs us)))
    (bag-trans (firsts (firsts xs ++ firsts us)) (firsts (firsts ys ++ firsts vs)) (firsts (ys ++ vs))
    (firsts-SameBag (firsts xs ++ firsts us) (firsts ys ++ firsts vs) (bag-append (firsts xs) (firsts ys) (firsts us) (firsts vs) first second))
    (bag-from (firsts (firsts ys ++ firsts vs)) (firsts (ys ++ vs)) (whole ys vs)))

-- merging states
merge : State → Partial → State
merge state partial = together state partial.state

merge-from : (s : State) (ps : List Partial) → fold merge s ps ≡ together s (fold merge nothing_taken ps)
unfolding merge
merge-from s [] = sym (together-none s)
merge-from s (p ∷ ps) =
    merge-from (together s p.state) ps ∙ together-assoc s p.state (fold merge nothing_taken ps)
    ∙ ap (together s) (sym (merge-from (together nothing_taken p.state) ps ∙ ap (λ t. together t (fold merge nothing_taken ps)) (together-comm nothing_taken p.state ∙ together-none p.state)))

merged-over : (key : Row) (ps qs : List Partial) → merged key (ps ++ qs) ≡ together (merged key ps) (merged key qs)
unfolding merge
merged-over key ps qs =
    ap (fold merge nothing_taken) (filter-over (λ p. row_eq key p.key) ps qs)
    ∙ fold-append merge nothing_taken (filter (λ p. row_eq key p.key) ps) (filter (λ p. row_eq key p.key) qs)
    ∙ merge-from (merged key ps) (filter (λ p. row_eq key p.key) qs)

key_state-over : (of : Option RowValue) (key : Row) (xs ys : List Keyed) → key_state of key (xs ++ ys) ≡ together (key_state of key xs) (key_state of key ys)
key_state-over of key xs ys =
    ap (λ rows. state_of (arguments of rows).rows) (ap (map (λ one. one.row)) (filter-over (λ one. row_eq key one.key) xs ys) ∙ map-over (λ (one : Keyed). one.row) (filter (λ one. row_eq key one.key) xs) (filter (λ one. row_eq key one.key) ys))
    ∙ ap state_of (flat_map-append (λ row. _) (rows_of key xs) (rows_of key ys))
    ∙ state_of-append (arguments of (rows_of key xs)).rows (arguments of (rows_of key ys)).rows

-- no partial group stands for no row
pub stand-none : (of : Option RowValue) → StandFor of [] []
stand-none of = record { states = λ key. refl; keys = bag-refl [] }

-- one row
pub stand-one : (of : Option RowValue) (one : Keyed) → StandFor of (one_row of one ∷ []) (one ∷ [])
stand-one of one = record {
  states = λ key. at key (row_eq key one.key);
  keys = bag-refl (one.key ∷ []);
}
  where
    at : (key : Row) (b : Bool) → fold (λ state partial. together state partial.state) nothing_taken (cond b (one_row of one ∷ []) [])
        ≡ state_of (arguments of (map (λ one. one.row) (cond b (one ∷ []) []))).rows
    at key true = together-comm nothing_taken (one_row of one).state ∙ together-none (one_row of one).state
    at key false = refl

-- two lists of partial groups, put together
pub stand-both : (of : Option RowValue) (ps qs : List Partial) (xs ys : List Keyed) → StandFor of ps xs → StandFor of qs ys → StandFor of (ps ++ qs) (xs ++ ys)
stand-both of ps qs xs ys first second = record {
  states = λ key. merged-over key ps qs ∙ ap₂ together (first.states key) (second.states key) ∙ sym (key_state-over of key xs ys);
  keys = bag-trans (firsts (map (λ p. p.key) (ps ++ qs))) (firsts (map (λ p. p.key) ps ++ map (λ p. p.key) qs)) (firsts (map (λ one. one.key) (xs ++ ys)))
      (bag-from (firsts (map (λ p. p.key) (ps ++ qs))) (firsts (map (λ p. p.key) ps ++ map (λ p. p.key) qs)) (ap firsts (map-over (λ (p : Partial). p.key) ps qs)))
      (bag-trans (firsts (map (λ p. p.key) ps ++ map (λ p. p.key) qs)) (firsts (map (λ one. one.key) xs ++ map (λ one. one.key) ys)) (firsts (map (λ one. one.key) (xs ++ ys)))
      (firsts-both (map (λ p. p.key) ps) (map (λ one. one.key) xs) (map (λ p. p.key) qs) (map (λ one. one.key) ys) first.keys second.keys)
      (bag-from (firsts (map (λ one. one.key) xs ++ map (λ one. one.key) ys)) (firsts (map (λ one. one.key) (xs ++ ys))) (ap firsts (sym (map-over (λ (one : Keyed). one.key) xs ys)))));
}

-- two partial groups of one key, merged
pub stand-merged : (of : Option RowValue) (p q : Partial) (ps : List Partial) (rows : List Keyed) → p.key ≡ q.key → StandFor of (p ∷ q ∷ ps) rows
    → StandFor of (record { key = p.key; state = together p.state q.state } ∷ ps) rows
unfolding merge
stand-merged of p q ps rows same stand = record {
  states = λ key. at key (row_eq key p.key) (row_eq key q.key) (ap (row_eq key) same) ∙ stand.states key;
  keys = bag-trans (firsts (p.key ∷ map (λ p. p.key) ps)) (firsts (p.key ∷ q.key ∷ map (λ p. p.key) ps)) (firsts (map (λ one. one.key) rows))
      (bag-from (firsts (p.key ∷ map (λ p. p.key) ps)) (firsts (p.key ∷ q.key ∷ map (λ p. p.key) ps)) (sym (twice (map (λ p. p.key) ps)))) stand.keys;
}
  where
    both : Partial
    both = record { key = p.key; state = together p.state q.state }

    at : (key : Row) (b c : Bool) → b ≡ c → fold merge nothing_taken (cond b (both ∷ filter (λ r. row_eq key r.key) ps) (filter (λ r. row_eq key r.key) ps))
        ≡ fold merge nothing_taken (cond b (p ∷ cond c (q ∷ filter (λ r. row_eq key r.key) ps) (filter (λ r. row_eq key r.key) ps)) (cond c (q ∷ filter (λ r. row_eq key r.key) ps) (filter (λ r. row_eq key r.key) ps)))
    at key true true e = ap (λ s. fold merge s (filter (λ r. row_eq key r.key) ps)) (sym (together-assoc nothing_taken p.state q.state))
    at key false false e = refl
    at key true false e = cc
    at key false true e = cc

    twice : (keys : List Row) → firsts (p.key ∷ q.key ∷ keys) ≡ firsts (p.key ∷ keys)
    twice keys =
        ap (λ k. firsts (p.key ∷ k ∷ keys)) (sym same)
        ∙ ap (λ b. p.key ∷ cond (not b) (p.key ∷ others p.key (others p.key (firsts keys))) (others p.key (others p.key (firsts keys)))) ((row_eq-Decides p.key p.key).1 refl)
        ∙ ap (λ l. p.key ∷ l) (others-twice p.key (firsts keys))

-- the partial groups of a part stand for the rows of the part
pub stand-part : (of : Option RowValue) (ps : List Partial) (rows : List Keyed) (number : Row → ℕ) (k : ℕ) → StandFor of ps rows
    → StandFor of (part (λ p. number p.key) k ps) (part (λ one. number one.key) k rows)
stand-part of ps rows number k stand = record {
  states = λ key. at key (number key == k) refl;
  keys = bag-trans (firsts (map (λ p. p.key) (part (λ p. number p.key) k ps))) (filter (λ key. number key == k) (firsts (map (λ p. p.key) ps))) (firsts (map (λ one. one.key) (part (λ one. number one.key) k rows)))
      (bag-from (firsts (map (λ p. p.key) (part (λ p. number p.key) k ps))) (filter (λ key. number key == k) (firsts (map (λ p. p.key) ps)))
      (ap firsts (sym (filter-map (λ key. number key == k) (λ (p : Partial). p.key) ps)) ∙ firsts-filter (λ key. number key == k) (map (λ p. p.key) ps)))
      (bag-trans (filter (λ key. number key == k) (firsts (map (λ p. p.key) ps))) (filter (λ key. number key == k) (firsts (map (λ one. one.key) rows))) (firsts (map (λ one. one.key) (part (λ one. number one.key) k rows)))
      (bag-filter (λ key. number key == k) (firsts (map (λ p. p.key) ps)) (firsts (map (λ one. one.key) rows)) stand.keys)
      (bag-from (filter (λ key. number key == k) (firsts (map (λ one. one.key) rows))) (firsts (map (λ one. one.key) (part (λ one. number one.key) k rows)))
      (sym (ap firsts (sym (filter-map (λ key. number key == k) (λ (one : Keyed). one.key) rows)) ∙ firsts-filter (λ key. number key == k) (map (λ one. one.key) rows)))));
}
  where
    at : (key : Row) (b : Bool) → (number key == k) ≡ b → merged key (part (λ p. number p.key) k ps) ≡ key_state of key (part (λ one. number one.key) k rows)
    at key true own =
        ap (fold (λ state partial. together state partial.state) nothing_taken)
        (filter-of (λ (p : Partial). row_eq key p.key) (λ p. number p.key == k) (λ p h. ap (λ z. number z == k) (sym ((row_eq-Decides key p.key).0 h)) ∙ own) ps)
        ∙ stand.states key
        ∙ ap (λ l. state_of (arguments of (map (λ one. one.row) l)).rows)
        (sym (filter-of (λ (one : Keyed). row_eq key one.key) (λ one. number one.key == k) (λ one h. ap (λ z. number z == k) (sym ((row_eq-Decides key one.key).0 h)) ∙ own) rows))
    at key false own =
        ap (fold (λ state partial. together state partial.state) nothing_taken) (none (λ (p : Partial). p.key) ps)
        ∙ ap (λ l. state_of (arguments of (map (λ one. one.row) l)).rows) (sym (none (λ (one : Keyed). one.key) rows))
      where
        none : {A : Type 0} (of_key : A → Row) (xs : List A) → filter (λ x. row_eq key (of_key x)) (filter (λ x. number (of_key x) == k) xs) ≡ []
        none of_key [] = refl
        none of_key (x ∷ xs) = elim (number (of_key x) == k) as (λ b. (number (of_key x) == k) ≡ b → filter (λ x. row_eq key (of_key x)) (cond b (x ∷ filter (λ x. number (of_key x) == k) xs) (filter (λ x. number (of_key x) == k) xs)) ≡ []) [
          | true ↦ λ e. elim (row_eq key (of_key x)) as (λ c. row_eq key (of_key x) ≡ c → cond c (x ∷ filter (λ x. row_eq key (of_key x)) (filter (λ x. number (of_key x) == k) xs)) (filter (λ x. row_eq key (of_key x)) (filter (λ x. number (of_key x) == k) xs)) ≡ []) [
            | true ↦ λ f. let no : true ≡ false = sym e ∙ ap (λ z. number z == k) (sym ((row_eq-Decides key (of_key x)).0 f)) ∙ own in cc
            | false ↦ λ f. none of_key xs
          ] refl
          | false ↦ λ e. none of_key xs
        ] refl

-- partial groups as items that can be compared
option_eq : {A : Type 0} → (A → A → Bool) → Option A → Option A → Bool
option_eq eq None None = true
option_eq eq None (Some b) = false
option_eq eq (Some a) None = false
option_eq eq (Some a) (Some b) = eq a b

option_eq-Decides : {A : Type 0} (eq : A → A → Bool) → ((a b : A) → Decides (eq a b) (a ≡ b)) → (a b : Option A) → Decides (option_eq eq a b) (a ≡ b)
unfolding option_eq
option_eq-Decides eq decides None None = (λ e. refl, λ e. refl)
option_eq-Decides eq decides None (Some b) = (λ e. cc, λ e. cc)
option_eq-Decides eq decides (Some a) None = (λ e. cc, λ e. cc)
option_eq-Decides eq decides (Some a) (Some b) = (λ e. ap Some ((decides a b).0 e), λ e. (decides a b).1 (cc))

state_eq : State → State → Bool
state_eq s t = nat_eq s.taken t.taken && (nat_eq s.present t.present && (option_eq int_eq s.total t.total && (option_eq value_eq s.least t.least && option_eq value_eq s.most t.most)))

state_eq-Decides : (s t : State) → Decides (state_eq s t) (s ≡ t)
unfolding state_eq
state_eq-Decides s t =
    Decides-like _
    (λ h. state_is s t h.0 h.1.0 h.1.1.0 h.1.1.1.0 h.1.1.1.1)
    (λ e. (ap (λ (x : State). x.taken) e, (ap (λ (x : State). x.present) e, (ap (λ (x : State). x.total) e, (ap (λ (x : State). x.least) e, ap (λ (x : State). x.most) e)))))
    (Decides-and (nat_eq s.taken t.taken) (nat_eq s.present t.present && (option_eq int_eq s.total t.total && (option_eq value_eq s.least t.least && option_eq value_eq s.most t.most))) (Decides-eqb s.taken t.taken)
    (Decides-and (nat_eq s.present t.present) (option_eq int_eq s.total t.total && (option_eq value_eq s.least t.least && option_eq value_eq s.most t.most)) (Decides-eqb s.present t.present)
    (Decides-and (option_eq int_eq s.total t.total) (option_eq value_eq s.least t.least && option_eq value_eq s.most t.most) (option_eq-Decides int_eq Decides-int_eq s.total t.total)
    (Decides-and (option_eq value_eq s.least t.least) (option_eq value_eq s.most t.most) (option_eq-Decides value_eq value_eq-Decides s.least t.least) (option_eq-Decides value_eq value_eq-Decides s.most t.most)))))

partial_eq : Partial → Partial → Bool
partial_eq p q = row_eq p.key q.key && state_eq p.state q.state

partial_eq-Decides : (p q : Partial) → Decides (partial_eq p q) (p ≡ q)
unfolding partial_eq
partial_eq-Decides p q =
    Decides-like _ (λ h i. record { key = h.0 i; state = h.1 i }) (λ e. (ap (λ (x : Partial). x.key) e, ap (λ (x : Partial). x.state) e))
    (Decides-and (row_eq p.key q.key) (state_eq p.state q.state) (row_eq-Decides p.key q.key) (state_eq-Decides p.state q.state))

merge-commutes : (s : State) (p q : Partial) → merge (merge s p) q ≡ merge (merge s q) p
unfolding merge
merge-commutes s p q = together-assoc s p.state q.state ∙ ap (together s) (together-comm p.state q.state) ∙ sym (together-assoc s q.state p.state)

merged-SameBag : (key : Row) (ps qs : List Partial) → SameBag ps qs → merged key ps ≡ merged key qs
unfolding merge
merged-SameBag key ps qs same =
    fold-rearranged merge merge-commutes nothing_taken (filter (λ p. row_eq key p.key) ps) (filter (λ p. row_eq key p.key) qs)
    (rearranged partial_eq partial_eq-Decides (filter (λ p. row_eq key p.key) ps) (filter (λ p. row_eq key p.key) qs) (bag-filter (λ (p : Partial). row_eq key p.key) ps qs same))

-- in any order
pub stand-rearranged : (of : Option RowValue) (ps qs : List Partial) (xs ys : List Keyed) → SameBag ps qs → SameBag xs ys → StandFor of ps xs → StandFor of qs ys
stand-rearranged of ps qs xs ys partials rows stand = record {
  states = λ key.
      merged-SameBag key qs ps (bag-sym ps qs partials) ∙ stand.states key
      ∙ state_of-SameBag (arguments of (rows_of key xs)).rows (arguments of (rows_of key ys)).rows (same-arguments of (rows_of key xs) (rows_of key ys) (same-rows_of key xs ys rows)).rows;
  keys = bag-trans (firsts (map (λ p. p.key) qs)) (firsts (map (λ p. p.key) ps)) (firsts (map (λ one. one.key) ys))
      (firsts-SameBag (map (λ p. p.key) qs) (map (λ p. p.key) ps) (bag-map (λ (p : Partial). p.key) qs ps (bag-sym ps qs partials)))
      (bag-trans (firsts (map (λ p. p.key) ps)) (firsts (map (λ one. one.key) xs)) (firsts (map (λ one. one.key) ys)) stand.keys
      (firsts-SameBag (map (λ one. one.key) xs) (map (λ one. one.key) ys) (bag-map (λ (one : Keyed). one.key) xs ys rows)));
}

-- one partial group for each row stands for the rows
pub stand-all : (of : Option RowValue) (rows : List Keyed) → StandFor of (map (one_row of) rows) rows
stand-all of [] = stand-none of
stand-all of (one ∷ rows) = stand-both of (one_row of one ∷ []) (map (one_row of) rows) (one ∷ []) rows (stand-one of one) (stand-all of rows)

-- the cells of a group, from what stands for the rows
pub cell-merged : (aggregate : Aggregation) (ps : List Partial) (rows : List Keyed) → aggregate.distinct ≡ false → StandFor aggregate.of ps rows → (key : Row)
    → finished aggregate.kind aggregate.scale (merged key ps) ≡ aggregated (rows_of key rows) aggregate
cell-merged aggregate ps rows all stand key =
    ap (finished aggregate.kind aggregate.scale) (stand.states key ∙ ap (λ once. state_of (perhaps_once once (arguments aggregate.of (rows_of key rows)).rows)) (sym all))

-- Rows that have the keys, once each, and the cells of the groups are the bag of groups.
pub groups-from : (grouping : Grouping) (rows : List Keyed) (keys : List Row) (cell : Row → Aggregation → Value) → SameBag keys (keys_of grouping.keys rows)
    → ((key : Row) (aggregate : Aggregation) → cell key aggregate ≡ aggregated (rows_of key rows) aggregate)
    → SameBag (map (λ key. key ++ map (cell key) grouping.aggregates) keys) (groups grouping rows).rows
groups-from grouping rows keys cell same cells =
    let row : Row → Row = λ key. group_row grouping.aggregates key (rows_of key rows) in
    bag-trans (map (λ key. key ++ map (cell key) grouping.aggregates) keys) (map row (keys_of grouping.keys rows)) (groups grouping rows).rows
    (bag-trans (map (λ key. key ++ map (cell key) grouping.aggregates) keys) (map row keys) (map row (keys_of grouping.keys rows))
    (bag-from (map (λ key. key ++ map (cell key) grouping.aggregates) keys) (map row keys)
    (map-same (λ key. key ++ map (cell key) grouping.aggregates) row (λ key. ap (λ cells. key ++ cells) (map-same (cell key) (aggregated (rows_of key rows)) (cells key) grouping.aggregates)) keys))
    (bag-map row keys (keys_of grouping.keys rows) same))
    (bag-from (map row (keys_of grouping.keys rows)) (groups grouping rows).rows (singles row (keys_of grouping.keys rows)))
  where
    singles : (f : Row → Row) (xs : List Row) → map f xs ≡ flat_map (λ x. f x ∷ []) xs
    singles f [] = refl
    singles f (x ∷ xs) = ap (λ l. f x ∷ l) (singles f xs)
