-- What aggregates take, as an algebra: put together in any order and in any grouping.
use Rattle.std.proofs.Common.{◌≡◌, ℕ, ◌+◌, ℤ, ◌+ℤ◌, Bool, true, false, cond, List, [], ◌∷◌, ◌++◌, length, Option, Some, None, refl, sym, ap, ◌∙◌, arith, Ordering, Less, Equal, Greater}
use Rattle.std.specs.List.{fold}
use Rattle.std.specs.Ordering.{ordering_reverse, is_gt}
use Rattle.std.specs.Cmp.{IsTotalOrder}
use Rattle.std.proofs.lemmas.Cmp.{upto, back_total}
use Rattle.std.proofs.lemmas.Int.{ints}
use Rattle.std.proofs.lemmas.List.Sums.{fold-append}
use Rattle.std.proofs.lemmas.Map.Lookups.{CmpEqualImpliesEq}
use Rattle.ooc_types.specs.declared.value.Value.{Value}
use Rattle.ooc_types.proofs.Ties.{strict_total, strict_ties}
use Rattle.agg_states.specs.declared.kind.Best.{Best}
use Rattle.agg_states.specs.declared.kind.Best.TheVariants.{Least, Most}
use Rattle.agg_states.specs.Aggregates.{State, either_of, past, better, nothing_taken, one_taken, together, state_of}
use Rattle.agg_states.specs.Ways.{side_of}

module _ {A : Type 0} (f : A → A → A) where
  either-none : (a : Option A) → either_of f a None ≡ a
  either-none None = refl
  either-none (Some a) = refl

  either-comm : ((a b : A) → f a b ≡ f b a) → (a b : Option A) → either_of f a b ≡ either_of f b a
  either-comm comm None None = refl
  either-comm comm None (Some b) = refl
  either-comm comm (Some a) None = refl
  either-comm comm (Some a) (Some b) = ap Some (comm a b)

  either-assoc : ((a b c : A) → f (f a b) c ≡ f a (f b c)) → (a b c : Option A) → either_of f (either_of f a b) c ≡ either_of f a (either_of f b c)
  either-assoc assoc None b c = refl
  either-assoc assoc (Some a) None c = refl
  either-assoc assoc (Some a) (Some b) None = refl
  either-assoc assoc (Some a) (Some b) (Some c) = ap Some (assoc a b c)

-- the one that isn't past the other, by a total order whose ties are equal
module _ {K : Type 0} {R : K → K → Ordering} (o : IsTotalOrder R) (ties : CmpEqualImpliesEq R) where
  gt_back : (x y : K) → is_gt (R x y) ≡ true → R y x ≡ Less
  gt_back x y h = o.antisymm y x ∙ go (R x y) h
    where
      go : (r : Ordering) → is_gt r ≡ true → ordering_reverse r ≡ Less
      go Less h = cc
      go Equal h = cc
      go Greater h = refl

  gt_trans : (x y z : K) → is_gt (R x y) ≡ true → is_gt (R y z) ≡ true → is_gt (R x z) ≡ true
  gt_trans x y z p q = ap is_gt (o.antisymm x z ∙ ap ordering_reverse (o.trans z y x (gt_back y z q) (gt_back x y p)))

  low : K → K → K
  low v w = cond (is_gt (R v w)) w v

  low-comm : (v w : K) → low v w ≡ low w v
  unfolding low
  low-comm v w = go (R v w) refl (o.antisymm w v)
    where
      go : (a : Ordering) → R v w ≡ a → R w v ≡ ordering_reverse (R v w) → cond (is_gt (R v w)) w v ≡ cond (is_gt (R w v)) v w
      go Less e f = ap (λ r. cond (is_gt r) w v) e ∙ sym (ap (λ r. cond (is_gt r) v w) (f ∙ ap ordering_reverse e))
      go Equal e f = ap (λ r. cond (is_gt r) w v) e ∙ ties v w e ∙ sym (ap (λ r. cond (is_gt r) v w) (f ∙ ap ordering_reverse e))
      go Greater e f = ap (λ r. cond (is_gt r) w v) e ∙ sym (ap (λ r. cond (is_gt r) v w) (f ∙ ap ordering_reverse e))

  low-assoc : (a b c : K) → low (low a b) c ≡ low a (low b c)
  unfolding low
  low-assoc a b c = go (is_gt (R a b)) (is_gt (R b c)) refl refl
    where
      go : (x y : Bool) → is_gt (R a b) ≡ x → is_gt (R b c) ≡ y → low (low a b) c ≡ low a (low b c)
      go true true p q =
          ap (λ t. low (cond t b a) c) p ∙ ap (λ t. cond t c b) q ∙ sym (ap (λ t. cond t c a) (gt_trans a b c p q)) ∙ ap (λ t. low a (cond t c b)) (sym q)
      go true false p q =
          ap (λ t. low (cond t b a) c) p ∙ ap (λ t. cond t c b) q ∙ sym (ap (λ t. cond t b a) p) ∙ ap (λ t. low a (cond t c b)) (sym q)
      go false true p q = ap (λ t. low (cond t b a) c) p ∙ ap (λ t. low a (cond t c b)) (sym q)
      go false false p q =
          ap (λ t. low (cond t b a) c) p ∙ ap (λ t. cond t c a) (upto o a b c p q) ∙ sym (ap (λ t. cond t b a) p) ∙ ap (λ t. low a (cond t c b)) (sym q)

past_total : (best : Best) → IsTotalOrder (past best)
past_total Least = strict_total
past_total Most = back_total strict_total

past_ties : (best : Best) → CmpEqualImpliesEq (past best)
past_ties Least v w e = strict_ties v w e
past_ties Most v w e = sym (strict_ties w v e)

better-comm : (best : Best) (v w : Value) → better best v w ≡ better best w v
unfolding low
better-comm best v w = low-comm (past_total best) (past_ties best) v w

better-assoc : (best : Best) (a b c : Value) → better best (better best a b) c ≡ better best a (better best b c)
unfolding low
better-assoc best a b c = low-assoc (past_total best) (past_ties best) a b c

whole-comm : (a b : ℤ) → a +ℤ b ≡ b +ℤ a
whole-comm a b = omega (arith, ints)

whole-assoc : (a b c : ℤ) → (a +ℤ b) +ℤ c ≡ a +ℤ (b +ℤ c)
whole-assoc a b c = omega (arith, ints)

plus-comm : (a b : ℕ) → a + b ≡ b + a
plus-comm a b = omega arith

plus-assoc : (a b c : ℕ) → (a + b) + c ≡ a + (b + c)
plus-assoc a b c = omega arith

plus-none : (a : ℕ) → a + 0 ≡ a
plus-none a = omega arith

state_is : (s t : State) → s.taken ≡ t.taken → s.present ≡ t.present → s.total ≡ t.total → s.least ≡ t.least → s.most ≡ t.most → s ≡ t
state_is s t a b c d e = λ i. record { taken = a i; present = b i; total = c i; least = d i; most = e i }

pub together-comm : (s t : State) → together s t ≡ together t s
together-comm s t =
    state_is (together s t) (together t s) (plus-comm s.taken t.taken) (plus-comm s.present t.present)
    (either-comm ◌+ℤ◌ whole-comm s.total t.total) (either-comm (better Least) (better-comm Least) s.least t.least) (either-comm (better Most) (better-comm Most) s.most t.most)

pub together-assoc : (s t u : State) → together (together s t) u ≡ together s (together t u)
together-assoc s t u =
    state_is (together (together s t) u) (together s (together t u)) (plus-assoc s.taken t.taken u.taken) (plus-assoc s.present t.present u.present)
    (either-assoc ◌+ℤ◌ whole-assoc s.total t.total u.total) (either-assoc (better Least) (better-assoc Least) s.least t.least u.least)
    (either-assoc (better Most) (better-assoc Most) s.most t.most u.most)

pub together-none : (s : State) → together s nothing_taken ≡ s
together-none s =
    state_is (together s nothing_taken) s (plus-none s.taken) (plus-none s.present) (either-none ◌+ℤ◌ s.total) (either-none (better Least) s.least) (either-none (better Most) s.most)

step : State → Value → State
step state value = together state (one_taken value)

fold-from : (s : State) (xs : List Value) → fold step s xs ≡ together s (state_of xs)
unfolding step
fold-from s [] = sym (together-none s)
fold-from s (x ∷ xs) =
    fold-from (step s x) xs ∙ together-assoc s (one_taken x) (state_of xs)
    ∙ ap (together s) (sym (fold-from (step nothing_taken x) xs ∙ ap (λ t. together t (state_of xs)) (together-comm nothing_taken (one_taken x) ∙ together-none (one_taken x))))

-- the states of two pieces, merged, are that of both
pub state_of-append : (xs ys : List Value) → state_of (xs ++ ys) ≡ together (state_of xs) (state_of ys)
unfolding step
state_of-append xs ys = fold-append step nothing_taken xs ys ∙ fold-from (state_of xs) ys

pub state_of-one : (v : Value) → state_of (v ∷ []) ≡ one_taken v
state_of-one v = together-comm nothing_taken (one_taken v) ∙ together-none (one_taken v)

state_of-front : (v : Value) (xs : List Value) → state_of (v ∷ xs) ≡ together (one_taken v) (state_of xs)
state_of-front v xs = state_of-append (v ∷ []) xs ∙ ap (λ s. together s (state_of xs)) (state_of-one v)

-- a split in any way
pub state_of-sides : (choices : List Bool) (values : List Value) → together (state_of (side_of true choices values)) (state_of (side_of false choices values)) ≡ state_of values
state_of-sides [] values = together-none (state_of values)
state_of-sides (choice ∷ choices) [] = together-none nothing_taken
state_of-sides (true ∷ choices) (v ∷ vs) =
    let xs = side_of true choices vs in
    let ys = side_of false choices vs in
    ap (λ s. together s (state_of ys)) (state_of-front v xs) ∙ together-assoc (one_taken v) (state_of xs) (state_of ys)
    ∙ ap (together (one_taken v)) (state_of-sides choices vs) ∙ sym (state_of-front v vs)
state_of-sides (false ∷ choices) (v ∷ vs) =
    let xs = side_of true choices vs in
    let ys = side_of false choices vs in
    ap (together (state_of xs)) (state_of-front v ys) ∙ sym (together-assoc (state_of xs) (one_taken v) (state_of ys))
    ∙ ap (λ s. together s (state_of ys)) (together-comm (state_of xs) (one_taken v)) ∙ together-assoc (one_taken v) (state_of xs) (state_of ys)
    ∙ ap (together (one_taken v)) (state_of-sides choices vs) ∙ sym (state_of-front v vs)

pub length-sides : (choices : List Bool) (values : List Value) → length (side_of true choices values) + length (side_of false choices values) ≡ length values
length-sides [] values = omega arith
length-sides (choice ∷ choices) [] = omega arith
length-sides (true ∷ choices) (v ∷ vs) = let rest = length-sides choices vs in omega arith
length-sides (false ∷ choices) (v ∷ vs) = let rest = length-sides choices vs in omega arith
