-- What a seat's list of slots is after a take and after a give.
use Rattle.std.proofs.Common.{◌≡◌, ◌≢◌, ℕ, zero, suc, ◌+◌, ◌-◌, ◌<◌, ◌≤◌, List, [], ◌∷◌, ◌++◌, take, drop, length, refl, sym, ap, ◌∙◌, subst, arith, None, Option, length-append, length-drop}
use Rattle.std.specs.Prelude.{slice_index}
use Rattle.std.specs.List.{remove}
use Rattle.std.proofs.lemmas.List.{append_assoc, append-nil, length-take}
use Rattle.std.proofs.Math.Seq.{split_at}
use mathlib.Core.Logic.{dite}
use Rattle.std.proofs.Math.Decide.{dec_le}
use Rattle.std.proofs.Math.Nat.{lt_of_not-le}
use native.Mathlib.Decide.{ℕ_discrete}
use Rattle.atomic_table.specs.Table.{rest, turned}
use Rattle.number_bags.specs.Bags.{one_of, times, without}
use Rattle.number_bags.proofs.Bags.{one_same, one_other, one_most, times_both, times_without}
use Rattle.number_bags.proofs.Few.{few_below}
use Rattle.evict_ring.specs.Seats.{AreDifferentBelow}
use Rattle.evict_ring.specs.Spun.{spun, pairs}
use Rattle.evict_ring.specs.declared.turn.Turn.{Turn}

module _ {T : Type 0} where
  pub pairs_append : (xs ys : List ℕ) → pairs {T = T} (xs ++ ys) ≡ pairs {T = T} ys ++ pairs {T = T} xs
  pairs_append [] ys = sym (append-nil (pairs {T = T} ys))
  pairs_append (x ∷ xs) ys = ap (λ (l : List (ℕ × Option T)). l ++ (x, None) ∷ []) (pairs_append xs ys) ∙ append_assoc (pairs {T = T} ys) (pairs {T = T} xs) ((x, None) ∷ [])

pub length_pairs : (T : Type 0) (xs : List ℕ) → length (pairs {T = T} xs) ≡ length xs
length_pairs T [] = refl
length_pairs T (x ∷ xs) = let a = length_pairs T xs in let b = length-append (pairs {T = T} xs) ((x, None) ∷ []) in omega (arith, a, b)

module _ {S : Type 0} where
  spun_in : (n : ℕ) (c : List (ℕ × S)) → spun n (turned c) ≡ turned (spun n c)
  spun_in zero c = refl
  spun_in (suc n) c = ap turned (spun_in n c)

  pub spin_over : (bs fs : List (ℕ × S)) → spun (length bs) (bs ++ fs) ≡ fs ++ bs
  spin_over [] fs = sym (append-nil fs)
  spin_over (b ∷ bs) fs =
      sym (spun_in (length bs) (b ∷ bs ++ fs))
      ∙ ap (λ (l : List (ℕ × S)). spun (length bs) l) (append_assoc bs fs (b ∷ []))
      ∙ spin_over bs (fs ++ b ∷ [])
      ∙ append_assoc fs (b ∷ []) bs

-- a number that isn't here is further on
pub further : (xs : List ℕ) (place n : ℕ) → place < length xs → slice_index xs place ≢ n → 0 < times (drop place xs) n → 0 < times (drop (suc place) xs) n
further [] place n lt ne h = absurd (omega (arith, lt))
further (x ∷ xs) zero n lt ne h = omega (arith, h, one_other x n (λ e. ne (sym e)))
further (x ∷ xs) (suc place) n lt ne h = further xs place n (omega (arith, lt)) ne h

-- what the seat holds is below the bound
pub held_below : (bound : ℕ) (held : List ℕ) (i : ℕ) → AreDifferentBelow bound held → 0 < times held i → i < bound
held_below bound held i are some = dite (dec_le bound i) (λ past. let z = are.1 i past in absurd (omega (arith, z, some))) (λ n. lt_of_not-le n)

-- where a place of a list is
pub split_there : (out : List ℕ) (place i : ℕ) → place < length out → slice_index out place ≡ i → out ≡ take place out ++ i ∷ drop (suc place) out
split_there out place i lt is = split_at out place 0 lt ∙ ap (λ (x : ℕ). take place out ++ x ∷ drop (suc place) out) is

pub counts : (out out' held held' : List ℕ) (i x : ℕ) → out' ≡ out ++ i ∷ [] → ((z : ℕ) → times out z ≡ times held z) → held' ≡ x ∷ held → x ≡ i → (z : ℕ) → times out' z ≡ times held' z
counts out out' held held' i x e o h f z =
    let a = ap (λ (l : List ℕ). times l z) e ∙ times_both out (i ∷ []) z in
    let b : times held' z ≡ one_of i z + times held z = ap (λ (l : List ℕ). times l z) h ∙ ap (λ (j : ℕ). one_of j z + times held z) f in
    omega (arith, a, b, o z)

-- a turn more that the seat didn't have
pub one_more : (bound bound' : ℕ) (held held' : List ℕ) (x : ℕ) → bound' ≡ bound → AreDifferentBelow bound held → times held x ≡ 0 → x < bound → held' ≡ x ∷ held → AreDifferentBelow bound' held'
one_more bound bound' held held' x b are new lt is =
    subst (λ (n : ℕ). AreDifferentBelow n held') (sym b) (
      (λ y. let e = ap (λ (l : List ℕ). times l y) is in let o = are.0 y in dite (ℕ_discrete y x)
          (λ s. let z : times held y ≡ 0 = ap (times held) s ∙ new in let m = one_most x y in omega (arith, e, z, m))
          (λ n. let z = one_other x y n in omega (arith, e, o, z))),
      (λ y past. let e = ap (λ (l : List ℕ). times l y) is in let z = are.1 y past in let o = one_other x y (λ s. absurd (omega (arith, s, lt, past))) in omega (arith, e, z, o)),
    )

-- a turn less
pub one_less : (bound bound' : ℕ) (held held' : List ℕ) (i : ℕ) → bound' ≡ bound → AreDifferentBelow bound held → 0 < times held i → held' ≡ without i held → AreDifferentBelow bound' held'
one_less bound bound' held held' i b are some is =
    subst (λ (n : ℕ). AreDifferentBelow n held') (sym b) (
      (λ y. let e = ap (λ (l : List ℕ). times l y) is in let o = are.0 y in let k = times_without i held some y in omega (arith, e, o, k)),
      (λ y past. let e = ap (λ (l : List ℕ). times l y) is in let z = are.1 y past in let k = times_without i held some y in omega (arith, e, z, k)),
    )

-- a seat that doesn't have all turns has room for one more
pub roomy : (bound room i : ℕ) (out held held' : List ℕ) → AreDifferentBelow bound held' → held' ≡ i ∷ held → ((z : ℕ) → times out z ≡ times held z) → bound ≤ room → length out < room
roomy bound room i out held held' are is same fits =
    let bag : (y : ℕ) → times (i ∷ out) y ≡ times held' y = λ y. let e = ap (λ (l : List ℕ). times l y) is in let s = same y in omega (arith, e, s) in
    let few = few_below (i ∷ out) bound (λ y. let o = are.0 y in let b = bag y in omega (arith, o, b)) (λ y past. let z = are.1 y past in let b = bag y in omega (arith, z, b)) in
    omega (arith, few, fits)

pub times_left : (out held : List ℕ) (place i : ℕ) → place < length out → slice_index out place ≡ i → ((z : ℕ) → times out z ≡ times held z) → 0 < times held i → (z : ℕ) → times (remove out place) z ≡ times (without i held) z
times_left out held place i lt is same some z =
    let a = ap (λ (l : List ℕ). times l z) (split_there out place i lt is) ∙ times_both (take place out) (i ∷ drop (suc place) out) z in
    let b = times_both (take place out) (drop (suc place) out) z in
    let k = times_without i held some z in
    let s = same z in
    omega (arith, a, b, s, k)

module _ {H : Type 0} where
  pub first_slot : (m : List (ℕ × Option (Turn H))) (x i : ℕ) (y : Option (Turn H)) (l : List (ℕ × Option (Turn H))) → m ≡ (x, y) ∷ l → x ≡ i → m ≡ (i, y) ∷ rest m
  first_slot m x i y l e f = e ∙ (λ k. (f k, y) ∷ rest (sym e k))

  pub took : (out out' : List ℕ) (i x : ℕ) (m m' m'' : List (ℕ × Option (Turn H))) (y : Option (Turn H)) → out' ≡ out ++ i ∷ [] → m ≡ pairs out → m' ≡ (x, y) ∷ m → m'' ≡ (i, None) ∷ rest m'
      → m'' ≡ pairs out'
  took out out' i x m m' m'' y e o f n =
      n ∙ (λ k. (i, None) ∷ rest (f k)) ∙ (λ k. (i, None) ∷ o k) ∙ sym (ap pairs e ∙ pairs_append out (i ∷ []))

  -- the slot that is to be given comes to the front
  pub fronted : (out : List ℕ) (place i behind : ℕ) (m m' : List (ℕ × Option (Turn H))) → place < length out → slice_index out place ≡ i → behind ≡ length out - 1 - place → m ≡ pairs out → m' ≡ spun behind m
      → m' ≡ (i, None) ∷ (pairs (take place out) ++ pairs (drop (suc place) out))
  fronted out place i behind m m' lt is b o e =
      let F = take place out in
      let B = drop (suc place) out in
      let long : behind ≡ length (pairs {T = Turn H} B) = let k = length-drop (suc place) out in let l = length_pairs (Turn H) B in omega (arith, b, k, l, lt) in
      let cut : m ≡ pairs {T = Turn H} B ++ ((i, None) ∷ pairs {T = Turn H} F) = o ∙ ap pairs (split_there out place i lt is) ∙ pairs_append {T = Turn H} F (i ∷ B) ∙ append_assoc (pairs {T = Turn H} B) ((i, None) ∷ []) (pairs {T = Turn H} F) in
      e ∙ (λ k. spun (long k) (cut k)) ∙ spin_over (pairs {T = Turn H} B) ((i, None) ∷ pairs {T = Turn H} F)

  -- and once it is given, those that were before it go back behind the others
  pub backed : (out : List ℕ) (place : ℕ) (m m' : List (ℕ × Option (Turn H))) → place < length out → m ≡ pairs (take place out) ++ pairs (drop (suc place) out) → m' ≡ spun place m → m' ≡ pairs (remove out place)
  backed out place m m' lt o e =
      let F = take place out in
      let B = drop (suc place) out in
      let long : place ≡ length (pairs {T = Turn H} F) = let k = length-take place out in let l = length_pairs (Turn H) F in omega (arith, k, l, lt) in
      e ∙ (λ k. spun (long k) (o k)) ∙ spin_over (pairs {T = Turn H} F) (pairs {T = Turn H} B) ∙ sym (pairs_append F B)

  -- a seat that holds no turn has no slot
  pub none_out : (out held : List ℕ) (m : List (ℕ × Option (Turn H))) → held ≡ [] → ((z : ℕ) → times out z ≡ times held z) → m ≡ pairs out → m ≡ []
  none_out [] held m e same o = o
  none_out (x ∷ out) held m e same o = let s = same x in let z : times held x ≡ 0 = ap (λ (l : List ℕ). times l x) e in let one = one_same x in absurd (omega (arith, s, z, one))
