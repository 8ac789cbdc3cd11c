-- What aggregates take, as an algebra: put together in any order and in any grouping.
use Rattle.std.proofs.Common.{◌≡◌, ℕ, ◌+◌, ℤ, ◌+ℤ◌, Bool, true, false, cond, List, [], ◌∷◌, ◌++◌, Option, Some, None, refl, sym, ap, ◌∙◌, arith, Ordering, Less, Equal, Greater}
use Rattle.std.specs.Prelude.{fold, flat_map}
use Rattle.std.specs.Ordering.{ordering_reverse, is_gt}
use Rattle.std.specs.Cmp.{IsTotalOrder}
use Rattle.std.proofs.lemmas.Cmp.{upto}
use Rattle.std.proofs.lemmas.Int.{ints}
use Rattle.std.proofs.lemmas.List.Sums.{fold-append}
use Rattle.ooc_types.specs.declared.value.Value.{Value}
use Rattle.ooc_bags.specs.Rows.{value_eq}
use Rattle.ooc_bags.proofs.RowTests.{value_eq-Decides}
use Rattle.ooc_bags.specs.Bags.{SameBag}
use Rattle.sql_meaning.specs.Aggregates.{State, either_of, lesser, greater, nothing_taken, one_taken, together, state_of}
use Rattle.ooc_types.proofs.Ties.{strict_total, strict_ties}
use Rattle.sql_meaning.proofs.Orders.{TiesAreEqual, gt_trans}
use Rattle.ooc_bags.proofs.Rearranged.{rearranged, fold-rearranged}

module _ {A : Type 0} (f : A → A → A) where
  either-none : (a : Option A) → either_of f a None ≡ a
  either-none None = refl
  either-none (Some a) = refl

  either-comm : ((a b : A) → f a b ≡ f b a) → (a b : Option A) → either_of f a b ≡ either_of f b a
  either-comm comm None None = refl
  either-comm comm None (Some b) = refl
  either-comm comm (Some a) None = refl
  either-comm comm (Some a) (Some b) = ap Some (comm a b)

  either-assoc : ((a b c : A) → f (f a b) c ≡ f a (f b c)) → (a b c : Option A) → either_of f (either_of f a b) c ≡ either_of f a (either_of f b c)
  either-assoc assoc None b c = refl
  either-assoc assoc (Some a) None c = refl
  either-assoc assoc (Some a) (Some b) None = refl
  either-assoc assoc (Some a) (Some b) (Some c) = ap Some (assoc a b c)

-- the one that isn't past the other, by a total order whose ties are equal
module _ {K : Type 0} {R : K → K → Ordering} (o : IsTotalOrder R) (ties : TiesAreEqual R) where
  low : K → K → K
  low v w = cond (is_gt (R v w)) w v

  high : K → K → K
  high v w = cond (is_gt (R v w)) v w

  low-comm : (v w : K) → low v w ≡ low w v
  unfolding low
  low-comm v w = go (R v w) refl (o.antisymm w v)
    where
      go : (a : Ordering) → R v w ≡ a → R w v ≡ ordering_reverse (R v w) → cond (is_gt (R v w)) w v ≡ cond (is_gt (R w v)) v w
      go Less e f = ap (λ r. cond (is_gt r) w v) e ∙ sym (ap (λ r. cond (is_gt r) v w) (f ∙ ap ordering_reverse e))
      go Equal e f = ap (λ r. cond (is_gt r) w v) e ∙ ties v w e ∙ sym (ap (λ r. cond (is_gt r) v w) (f ∙ ap ordering_reverse e))
      go Greater e f = ap (λ r. cond (is_gt r) w v) e ∙ sym (ap (λ r. cond (is_gt r) v w) (f ∙ ap ordering_reverse e))

  low-assoc : (a b c : K) → low (low a b) c ≡ low a (low b c)
  unfolding low
  low-assoc a b c = go (is_gt (R a b)) (is_gt (R b c)) refl refl
    where
      go : (x y : Bool) → is_gt (R a b) ≡ x → is_gt (R b c) ≡ y → low (low a b) c ≡ low a (low b c)
      go true true p q =
          ap (λ t. low (cond t b a) c) p ∙ ap (λ t. cond t c b) q ∙ sym (ap (λ t. cond t c a) (gt_trans o a b c p q)) ∙ ap (λ t. low a (cond t c b)) (sym q)
      go true false p q =
          ap (λ t. low (cond t b a) c) p ∙ ap (λ t. cond t c b) q ∙ sym (ap (λ t. cond t b a) p) ∙ ap (λ t. low a (cond t c b)) (sym q)
      go false true p q = ap (λ t. low (cond t b a) c) p ∙ ap (λ t. low a (cond t c b)) (sym q)
      go false false p q =
          ap (λ t. low (cond t b a) c) p ∙ ap (λ t. cond t c a) (upto o a b c p q) ∙ sym (ap (λ t. cond t b a) p) ∙ ap (λ t. low a (cond t c b)) (sym q)

  high-comm : (v w : K) → high v w ≡ high w v
  unfolding high
  high-comm v w = go (R v w) refl (o.antisymm w v)
    where
      go : (a : Ordering) → R v w ≡ a → R w v ≡ ordering_reverse (R v w) → cond (is_gt (R v w)) v w ≡ cond (is_gt (R w v)) w v
      go Less e f = ap (λ r. cond (is_gt r) v w) e ∙ sym (ap (λ r. cond (is_gt r) w v) (f ∙ ap ordering_reverse e))
      go Equal e f = ap (λ r. cond (is_gt r) v w) e ∙ sym (ties v w e) ∙ sym (ap (λ r. cond (is_gt r) w v) (f ∙ ap ordering_reverse e))
      go Greater e f = ap (λ r. cond (is_gt r) v w) e ∙ sym (ap (λ r. cond (is_gt r) w v) (f ∙ ap ordering_reverse e))

  high-assoc : (a b c : K) → high (high a b) c ≡ high a (high b c)
  unfolding high
  high-assoc a b c = go (is_gt (R a b)) (is_gt (R b c)) refl refl
    where
      go : (x y : Bool) → is_gt (R a b) ≡ x → is_gt (R b c) ≡ y → high (high a b) c ≡ high a (high b c)
      go true true p q =
          ap (λ t. high (cond t a b) c) p ∙ ap (λ t. cond t a c) (gt_trans o a b c p q) ∙ sym (ap (λ t. cond t a b) p) ∙ ap (λ t. high a (cond t b c)) (sym q)
      go true false p q = ap (λ t. high (cond t a b) c) p ∙ ap (λ t. high a (cond t b c)) (sym q)
      go false true p q =
          ap (λ t. high (cond t a b) c) p ∙ ap (λ t. cond t b c) q ∙ sym (ap (λ t. cond t a b) p) ∙ ap (λ t. high a (cond t b c)) (sym q)
      go false false p q =
          ap (λ t. high (cond t a b) c) p ∙ ap (λ t. cond t b c) q ∙ sym (ap (λ t. cond t a c) (upto o a b c p q)) ∙ ap (λ t. high a (cond t b c)) (sym q)

lesser-comm : (v w : Value) → lesser v w ≡ lesser w v
unfolding low
lesser-comm v w = low-comm strict_total strict_ties v w

lesser-assoc : (a b c : Value) → lesser (lesser a b) c ≡ lesser a (lesser b c)
unfolding low
lesser-assoc a b c = low-assoc strict_total strict_ties a b c

greater-comm : (v w : Value) → greater v w ≡ greater w v
unfolding high
greater-comm v w = high-comm strict_total strict_ties v w

greater-assoc : (a b c : Value) → greater (greater a b) c ≡ greater a (greater b c)
unfolding high
greater-assoc a b c = high-assoc strict_total strict_ties a b c

whole-comm : (a b : ℤ) → a +ℤ b ≡ b +ℤ a
whole-comm a b = omega (arith, ints)

whole-assoc : (a b c : ℤ) → (a +ℤ b) +ℤ c ≡ a +ℤ (b +ℤ c)
whole-assoc a b c = omega (arith, ints)

plus-comm : (a b : ℕ) → a + b ≡ b + a
plus-comm a b = omega arith

plus-assoc : (a b c : ℕ) → (a + b) + c ≡ a + (b + c)
plus-assoc a b c = omega arith

plus-none : (a : ℕ) → a + 0 ≡ a
plus-none a = omega arith

pub state_is : (s t : State) → s.taken ≡ t.taken → s.present ≡ t.present → s.total ≡ t.total → s.least ≡ t.least → s.most ≡ t.most → s ≡ t
state_is s t a b c d e = λ i. record { taken = a i; present = b i; total = c i; least = d i; most = e i }

pub together-comm : (s t : State) → together s t ≡ together t s
together-comm s t =
    state_is (together s t) (together t s) (plus-comm s.taken t.taken) (plus-comm s.present t.present)
    (either-comm ◌+ℤ◌ whole-comm s.total t.total) (either-comm lesser lesser-comm s.least t.least) (either-comm greater greater-comm s.most t.most)

pub together-assoc : (s t u : State) → together (together s t) u ≡ together s (together t u)
together-assoc s t u =
    state_is (together (together s t) u) (together s (together t u)) (plus-assoc s.taken t.taken u.taken) (plus-assoc s.present t.present u.present)
    (either-assoc ◌+ℤ◌ whole-assoc s.total t.total u.total) (either-assoc lesser lesser-assoc s.least t.least u.least)
    (either-assoc greater greater-assoc s.most t.most u.most)

pub together-none : (s : State) → together s nothing_taken ≡ s
together-none s =
    state_is (together s nothing_taken) s (plus-none s.taken) (plus-none s.present) (either-none ◌+ℤ◌ s.total) (either-none lesser s.least) (either-none greater s.most)

step : State → Value → State
step state value = together state (one_taken value)

step-commutes : (s : State) (v w : Value) → step (step s v) w ≡ step (step s w) v
unfolding step
step-commutes s v w =
    together-assoc s (one_taken v) (one_taken w) ∙ ap (together s) (together-comm (one_taken v) (one_taken w)) ∙ sym (together-assoc s (one_taken w) (one_taken v))

-- a fold doesn't see the order
pub state_of-SameBag : (xs ys : List Value) → SameBag xs ys → state_of xs ≡ state_of ys
unfolding step
state_of-SameBag xs ys same =
    fold-rearranged step step-commutes nothing_taken xs ys (rearranged value_eq value_eq-Decides xs ys same)

fold-from : (s : State) (xs : List Value) → fold step s xs ≡ together s (state_of xs)
unfolding step
fold-from s [] = sym (together-none s)
fold-from s (x ∷ xs) =
    fold-from (step s x) xs ∙ together-assoc s (one_taken x) (state_of xs)
    ∙ ap (together s) (sym (fold-from (step nothing_taken x) xs ∙ ap (λ t. together t (state_of xs)) (together-comm nothing_taken (one_taken x) ∙ together-none (one_taken x))))

-- the states of two pieces, merged, are that of both
pub state_of-append : (xs ys : List Value) → state_of (xs ++ ys) ≡ together (state_of xs) (state_of ys)
unfolding step
state_of-append xs ys = fold-append step nothing_taken xs ys ∙ fold-from (state_of xs) ys

pub state_of-one : (v : Value) → state_of (v ∷ []) ≡ one_taken v
state_of-one v = together-comm nothing_taken (one_taken v) ∙ together-none (one_taken v)

-- the states of any pieces, merged from left to right, are that of the whole
pub state_of-pieces : (pieces : List (List Value)) → state_of (flat_map (λ piece. piece) pieces) ≡ fold (λ state piece. together state (state_of piece)) nothing_taken pieces
state_of-pieces pieces =
    sym (together-comm nothing_taken (state_of (flat_map (λ piece. piece) pieces)) ∙ together-none (state_of (flat_map (λ piece. piece) pieces)))
    ∙ sym (go nothing_taken pieces)
  where
    go : (s : State) (pieces : List (List Value)) → fold (λ state piece. together state (state_of piece)) s pieces ≡ together s (state_of (flat_map (λ piece. piece) pieces))
    go s [] = sym (together-none s)
    go s (piece ∷ pieces) =
        go (together s (state_of piece)) pieces
        ∙ together-assoc s (state_of piece) (state_of (flat_map (λ piece. piece) pieces))
        ∙ ap (together s) (sym (state_of-append piece (flat_map (λ piece. piece) pieces)))
