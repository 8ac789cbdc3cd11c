-- Each step keeps the rule.
use Rattle.std.proofs.Common.{◌≡◌, ◌≢◌, ℕ, ◌+◌, ◌-◌, ◌%◌, ◌^◌, ◌<◌, ◌≤◌, Bool, true, false, true≢false, ◌||◌, List, [], ◌∷◌, ◌++◌, length, set, refl, sym, ap, ◌∙◌, subst, ⊎_elim, arith, length-append, mod-eq_of_lt}
use Rattle.std.specs.Prelude.{slice_index, slice_set, sum_by}
use mathlib.Core.Option.{none, some, some-injective}
use mathlib.Core.Logic.{dite}
use native.Mathlib.Decide.{dec_le}
use lib.ListN.{get_elem?}
use Rattle.atomic_table.specs.Table.{State, Me, Act, keeps, step, Allows, Splits, Joins, Valid, homes_after, carried_after}
use Rattle.atomic_table.proofs.Lists.{at_set, at_snoc}
use Rattle.number_bags.specs.Bags.{times}
use Rattle.number_bags.proofs.Bags.{times_both}
use Rattle.claim_counter.specs.Once.{IsOnce, over_if}
use Rattle.claim_counter.specs.ClaimRule.{spent, over, Fits, Counted, drawn, Drew, fewer, one_part, together}
use Rattle.claim_counter.specs.declared.claim_rule.ClaimView.{ClaimView}
use Rattle.claim_counter.specs.declared.claim_rule.ClaimTerms.{ClaimTerms}
use Rattle.std.proofs.lemmas.List.Sums.{sum_by_push}
use Rattle.claim_counter.proofs.Sums.{sum_set, sum_spare, sum_alone, once_next}

over_if_le : (b : Bool) (n : ℕ) → over_if b n ≤ n
over_if_le true n = omega arith
over_if_le false n = omega arith

over_le : (v : ClaimView) → over v ≤ v.parts
over_le v = over_if_le v.ended v.parts

fits_set : (count : ℕ) (vs : List ClaimView) (i : ℕ) (w : ClaimView) → ((j : ℕ) (u : ClaimView) → get_elem? vs j ≡ some u → Fits count u) → Fits count w → (j : ℕ) (u : ClaimView) → get_elem? (set vs i w) j ≡ some u → Fits count u
fits_set count vs i w old mine j u e =
    ⊎_elim (λ (x : (j ≡ i) × (w ≡ u)). subst (Fits count) x.1 mine) (λ (x : (j ≢ i) × (get_elem? vs j ≡ some u)). old j u x.1) (at_set vs i j w u e)

-- the rule after a draw
drew : (k : ClaimTerms) (s : State ℕ ClaimView) (r : Counted k s) (id : ℕ) (v : ClaimView) → get_elem? s.views id ≡ some v → 0 < v.parts → v.ended ≡ false → (b : Bool) → (b ≡ false → r.next < k.count)
    → Counted k record { words = ((r.next + 1) % 2 ^ 64) ∷ []; homes = s.homes; views = set s.views id (drawn v r.next b) }
drew k s r id v at some_part going b below =
    let w = drawn v r.next b in
    let n = r.next in
    let idle : over v ≡ 0 = ap (λ x. over_if x v.parts) going in
    let spare = sum_spare over (λ u. u.parts) over_le s.views id v at in
    let long = sum_set (λ u. length u.draws) s.views id v w at in
    let parts = sum_set (λ u. u.parts) s.views id v w at in
    let ends = sum_set over s.views id v w at in
    let small = r.small in let most = r.parts in let bound = r.bound in
    let fits : n + 1 < 2 ^ 64 = omega (arith, idle, spare, small, most, bound, some_part) in record {
      next = n + 1;
      word = ap (λ (y : ℕ). y ∷ []) (mod-eq_of_lt fits);
      once = λ x. once_next x n (sum_by (λ u. times u.draws x) s.views) (sum_by (λ u. times u.draws x) (set s.views id w)) (r.once x)
          (let h = sum_set (λ u. times u.draws x) s.views id v w at in omega (arith, h, times_both v.draws (n ∷ []) x));
      steps = let t = r.steps in omega (arith, long, t, length-append v.draws (n ∷ []));
      parts = omega (arith, parts, most);
      bound = bounded b below ends;
      seats = fits_set k.count s.views id w r.seats ((λ p. (r.seats id v at).0 p), (λ z. absurd (omega (arith, z, some_part))));
      small = small;
    }
  where
    bounded : (c : Bool) → (c ≡ false → r.next < k.count) → sum_by over (set s.views id (drawn v r.next c)) + over v ≡ sum_by over s.views + over (drawn v r.next c) → r.next + 1 ≤ k.count + sum_by over (set s.views id (drawn v r.next c))
    bounded true lt ends = let idle : over v ≡ 0 = ap (λ x. over_if x v.parts) going in let bound = r.bound in omega (arith, idle, ends, some_part, bound)
    bounded false lt ends = let l = lt refl in omega (arith, l)

pub draws : (k : ClaimTerms) (slots id : ℕ) (m : Me ℕ ClaimView) → 0 < m.0.parts → m.0.ended ≡ false → Allows (Counted k) slots id m 0 (λ n. (n + 1) % 2 ^ 64) (Drew (step slots 0 1 0 none) m)
draws k slots id m some_part going s r len at small =
    let v = m.0 in
    let known : v.count ≡ k.count = (r.seats id v at).0 some_part in
    let P : List ℕ → Type 0 = λ ws. (w : ClaimView) × (a : Act ℕ) × Valid s.homes m.1 a × Counted k record { words = slice_set ws 0 ((slice_index ws 0 + 1) % 2 ^ 64); homes = homes_after s.homes m.1 a; views = slice_set s.views id w }
    × Drew (step slots 0 1 0 none) m (slice_index ws 0) (w, carried_after m.1 a) in
    subst P (sym r.word)
    (dite (dec_le k.count r.next)
    (λ past. (drawn v r.next true, keeps, tt, drew k s r id v at some_part going true (λ f. absurd (true≢false f)), ((λ l. absurd (omega (arith, l, past, known))), (λ _. refl))))
    (λ below. (drawn v r.next false, keeps, tt, drew k s r id v at some_part going false (λ _. grind (arith, below)), ((λ _. refl), (λ l. absurd (grind (arith, l, below, known)))))))

pub splits : (k : ClaimTerms) (id : ℕ) (v : ClaimView) → 2 ≤ v.parts → Splits (Counted k) id v (fewer v) (one_part v)
splits k id v two s r at =
    let vs : List ClaimView = set s.views id (fewer v) in
    let parts = sum_set (λ (u : ClaimView). u.parts) s.views id v (fewer v) at in
    let ends = sum_set over s.views id v (fewer v) at in
    let most = r.parts in let bound = r.bound in let t = r.steps in record {
      next = r.next;
      word = r.word;
      once = λ x. subst (IsOnce x r.next) (let h = sum_set (λ (u : ClaimView). times u.draws x) s.views id v (fewer v) at in sym (sum_by_push (λ (u : ClaimView). times u.draws x) vs (one_part v) ∙ omega (arith, h))) (r.once x);
      steps = let h = sum_set (λ (u : ClaimView). length u.draws) s.views id v (fewer v) at in omega (arith, h, t, sum_by_push (λ (u : ClaimView). length u.draws) vs (one_part v));
      parts = omega (arith, parts, most, two, sum_by_push (λ (u : ClaimView). u.parts) vs (one_part v));
      bound = cut v.ended v.parts two (sum_by over s.views) (sum_by over vs) (sum_by over (vs ++ one_part v ∷ [])) ends (sum_by_push over vs (one_part v)) bound;
      seats = λ j u e. ⊎_elim
          (λ was. fits_set k.count s.views id (fewer v) r.seats ((λ p. (r.seats id v at).0 (omega (arith, two))), (λ z. absurd (omega (arith, z, two)))) j u was)
          (λ (is : one_part v ≡ u). subst (Fits k.count) is ((λ p. (r.seats id v at).0 (omega (arith, two))), (λ z. refl))) (at_snoc vs (one_part v) u j e);
      small = r.small;
    }
  where
    cut : (b : Bool) (p : ℕ) → 2 ≤ p → (a c d : ℕ) → c + over_if b p ≡ a + over_if b (p - 1) → d ≡ c + over_if b 1 → r.next ≤ k.count + a → r.next ≤ k.count + d
    cut true p two a c d e f g = omega (arith, two, e, f, g)
    cut false p two a c d e f g = omega (arith, e, f, g)

pub joins : (k : ClaimTerms) (id : ℕ) (v : ClaimView) (other : ℕ) (w : ClaimView) → 0 < v.parts → Joins (Counted k) id v other w (together v w) spent
joins k id v other w some_part s r at apart at' =
    let both = together v w in
    let vs : List ClaimView = set s.views id both in
    let was : get_elem? s.views other ≡ some w = ⊎_elim (λ (x : (other ≡ id) × (both ≡ w)). absurd (apart x.0)) (λ (x : (other ≢ id) × (get_elem? s.views other ≡ some w)). x.1) (at_set s.views id other both w at') in
    let sums : (f : ClaimView → ℕ) → f both ≡ f v + f w → f spent ≡ 0 → sum_by f (set vs other spent) ≡ sum_by f s.views = λ f e z.
    let h = sum_set f s.views id v both at in let i = sum_set f vs other w spent at' in omega (arith, e, z, h, i) in
    let ends = sum_set over s.views id v both at in
    let ends' = sum_set over vs other w spent at' in
    let bound = r.bound in record {
      next = r.next;
      word = r.word;
      once = λ x. subst (IsOnce x r.next) (sym (sums (λ u. times u.draws x) (times_both v.draws w.draws x) refl)) (r.once x);
      steps = sums (λ u. length u.draws) (length-append v.draws w.draws) refl ∙ r.steps;
      parts = let h = sums (λ u. u.parts) refl refl in let most = r.parts in omega (arith, h, most);
      bound = let p = more v.ended w.ended v.parts w.parts in omega (arith, p, ends, ends', bound);
      seats = fits_set k.count vs other spent (fits_set k.count s.views id both r.seats ((λ p. (r.seats id v at).0 some_part), (λ z. absurd (omega (arith, z, some_part)))))
          ((λ p. absurd (omega (arith, p))), (λ z. refl));
      small = r.small;
    }
  where
    more : (a b : Bool) (p q : ℕ) → over_if a p + over_if b q ≤ over_if (a || b) (p + q)
    more true true p q = omega arith
    more true false p q = omega arith
    more false true p q = omega arith
    more false false p q = omega arith

-- who has all parts has all draws
pub closes : (k : ClaimTerms) (s : State ℕ ClaimView) (id : ℕ) (v : ClaimView) (r : Counted k s) → get_elem? s.views id ≡ some v → v.parts ≡ k.parts → (ws : List ℕ) → s.words ≡ ws → {n : ℕ} → get_elem? ws 0 ≡ some n
    → ((x : ℕ) → IsOnce x n (times v.draws x)) × (n ≡ length v.draws)
closes k s id v r at all ws same {n} found =
    let is : r.next ≡ n = some-injective r.next n (ap (λ (l : List ℕ). get_elem? l 0) (sym r.word ∙ same) ∙ found) in
    let most = r.parts in
    let alone : (f : ClaimView → ℕ) → ((u : ClaimView) → u.draws ≡ [] → f u ≡ 0) → sum_by f s.views ≡ f v = λ f z.
    sum_alone f (λ u. u.parts) s.views id v at (omega (arith, most, all)) (λ j u e p. z u ((r.seats j u e).1 p)) in (
      (λ x. subst (λ (m : ℕ). IsOnce x m (times v.draws x)) is (subst (IsOnce x r.next) (alone (λ u. times u.draws x) (λ u e. ap (λ (l : List ℕ). times l x) e)) (r.once x))),
      sym is ∙ (sym r.steps ∙ alone (λ u. length u.draws) (λ u e. ap length e)),
    )
