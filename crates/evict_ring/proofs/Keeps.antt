-- Each step keeps the rule.
use Rattle.std.proofs.Common.{◌≡◌, ◌≢◌, ℕ, ◌+◌, ◌%◌, ◌^◌, ◌<◌, List, [], ◌∷◌, ◌++◌, length, set, get_or, refl, sym, ap, ◌∙◌, subst, arith, length-set, length-append, get_or-set_other, get_or-set_same, Some, Option}
use Rattle.std.proofs.lemmas.List.Sums.{sum_by_push}
use mathlib.Core.Option.{none, some}
use mathlib.Core.Logic.{dite}
use native.Mathlib.Decide.{ℕ_discrete}
use lib.ListN.{get_elem?}
use Rattle.atomic_table.specs.Table.{Act, keeps, takes, gives, step, stepped, Allows, Splits, Joins, Valid, carried_after, put_back, rest}
use Rattle.atomic_table.proofs.Lists.{set_again, set_here, set_else}
use Rattle.number_bags.specs.Bags.{times, without}
use Rattle.number_bags.proofs.Bags.{one_same, one_other, times_without}
use Rattle.evict_ring.specs.Rule.{view, nobody, both, outs, moves, HasTurns, Sat, Started, Took, Gave}
use Rattle.evict_ring.specs.declared.rule.View.{View}
use Rattle.evict_ring.specs.declared.turn.Turn.{Turn}
use Rattle.evict_ring.proofs.Sums.{sum_set, sum_has}

-- a change of one word, in which each other word keeps its turn's
word_set : (ws : List ℕ) (n i x j y : ℕ) → length ws ≡ n + 1 → i < n → (j ≡ i → x ≡ y) → (j ≢ i → get_or ws (j + 1) 0 ≡ y) → get_or (set ws (i + 1) x) (j + 1) 0 ≡ y
word_set ws n i x j y long lt here there = dite (ℕ_discrete j i)
    (λ e. ap (λ (z : ℕ). get_or (set ws (i + 1) x) (z + 1) 0) e ∙ (get_or-set_same ws (i + 1) x 0 (omega (arith, long, lt)) ∙ here e))
    (λ ne. get_or-set_other ws (i + 1) (j + 1) x 0 (λ e. ne (omega (arith, e))) ∙ there ne)

-- the hand after a move
moved : (word total after : ℕ) → word ≡ total % 2 ^ 64 → after ≡ total + 1 → (word + 1) % 2 ^ 64 ≡ after % 2 ^ 64
moved word total after is more = omega (arith, is, more)

-- how often the hand was moved on, where a seat has as many starts as before
same_moves : (vs : List View) (id : ℕ) (v w : View) → get_elem? vs id ≡ some v → length w.starts ≡ length v.starts → moves (set vs id w) ≡ moves vs
same_moves vs id v w at same = let h = sum_set (λ (u : View). length u.starts) vs id v w at in omega (arith, h, same)

module _ {H : Type 0} where
  -- a move of the hand
  pub starts : (ok : Turn H → Type 0) (turns slots id : ℕ) (m : Sat H) → Allows (HasTurns ok turns) slots id m 0 (λ n. (n + 1) % 2 ^ 64) (Started (step slots 0 1 0 none) m)
  starts ok turns slots id m s r len at small =
      let found : ℕ = get_or s.words 0 0 in
      let w : View = view m.0.about m.0.held m.0.refused (m.0.starts ++ found ∷ []) in
      let vs : List View = set s.views id w in
      let same : (j : ℕ) → outs j vs ≡ outs j s.views = λ j. let h = sum_set (λ (u : View). times u.held j) s.views id m.0 w at in omega (arith, h) in
      let more : moves vs ≡ moves s.views + 1 = let h = sum_set (λ (u : View). length u.starts) s.views id m.0 w at in let l = length-append m.0.starts (found ∷ []) in omega (arith, h, l) in (
        w,
        keeps,
        tt,
        record {
          long = length-set s.words 0 _ ∙ r.long;
          hand = get_or-set_same s.words 0 ((found + 1) % 2 ^ 64) 0 (let l = r.long in omega (arith, l)) ∙ moved found (moves s.views) (moves vs) r.hand more;
          bits = λ i lt. get_or-set_other s.words 0 (i + 1) ((found + 1) % 2 ^ 64) 0 (λ e. omega (arith, e)) ∙ (r.bits i lt ∙ sym (same i));
          once = λ i lt. let x = same i in let o = r.once i lt in omega (arith, x, o);
          full = λ i lt z. r.full i lt (sym (same i) ∙ z);
        },
        refl,
      )

  pub takes_turn : (holds : List ℕ → Turn H → Type 0) (about : List ℕ) (turns slots id i : ℕ) (m : Sat H) → m.0.about ≡ about → i < turns → Allows (HasTurns (holds about) turns) slots id m (i + 1) (λ _. 1) (Took holds (step slots (i + 1) 1 0 none) m)
  takes_turn holds about turns slots id i m same_about lt s r len at small = dite (ℕ_discrete (outs i s.views) 0) home away
    where
      word : get_or s.words (i + 1) 0 ≡ outs i s.views
      word = r.bits i lt

      away : outs i s.views ≢ 0 → (w : View) × (a : Act (Option (Turn H))) × Valid s.homes m.1 a × HasTurns (holds about) turns (stepped s (i + 1) 1 id m.1 w a) × Took holds (step slots (i + 1) 1 0 none) m (get_or s.words (i + 1) 0) (w, carried_after m.1 a)
      away out =
          let one : outs i s.views ≡ 1 = let o = r.once i lt in grind (arith, o, out) in
          let w : View = view m.0.about m.0.held (m.0.refused ++ i ∷ []) m.0.starts in
          let vs : List View = set s.views id w in
          let same : (j : ℕ) → outs j vs ≡ outs j s.views = λ j. let h = sum_set (λ (u : View). times u.held j) s.views id m.0 w at in omega (arith, h) in (
            w,
            keeps,
            tt,
            record {
              long = length-set s.words (i + 1) 1 ∙ r.long;
              hand = get_or-set_other s.words (i + 1) 0 1 0 (λ e. omega (arith, e)) ∙ r.hand ∙ ap (λ (n : ℕ). n % 2 ^ 64) (sym (same_moves s.views id m.0 w at refl));
              bits = λ j l. word_set s.words turns i 1 j (outs j vs) r.long lt (λ e. sym (same j ∙ ap (λ (z : ℕ). outs z s.views) e ∙ one)) (λ ne. r.bits j l ∙ sym (same j));
              once = λ j l. let x = same j in let o = r.once j l in omega (arith, x, o);
              full = λ j l z. r.full j l (sym (same j) ∙ z);
            },
            ((λ z. absurd (out (sym word ∙ z))), (λ _. (i, refl, refl))),
          )

      home : outs i s.views ≡ 0 → (w : View) × (a : Act (Option (Turn H))) × Valid s.homes m.1 a × HasTurns (holds about) turns (stepped s (i + 1) 1 id m.1 w a) × Took holds (step slots (i + 1) 1 0 none) m (get_or s.words (i + 1) 0) (w, carried_after m.1 a)
      home none_out =
          let has = r.full i lt none_out in
          let t = has.0 in
          let mine : times m.0.held i ≡ 0 = let h = sum_has (λ (u : View). times u.held i) s.views id m.0 at in omega (arith, h, none_out) in
          let w : View = view m.0.about (i ∷ m.0.held) m.0.refused m.0.starts in
          let vs : List View = set s.views id w in
          let here : outs i vs ≡ 1 = let h = sum_set (λ (u : View). times u.held i) s.views id m.0 w at in let o = one_same i in omega (arith, h, o, none_out) in
          let there : (j : ℕ) → j ≢ i → outs j vs ≡ outs j s.views = λ j ne. let h = sum_set (λ (u : View). times u.held j) s.views id m.0 w at in let o = one_other i j ne in omega (arith, h, o) in (
            w,
            takes i (Some t),
            has.1,
            record {
              long = length-set s.words (i + 1) 1 ∙ r.long;
              hand = get_or-set_other s.words (i + 1) 0 1 0 (λ e. omega (arith, e)) ∙ r.hand ∙ ap (λ (n : ℕ). n % 2 ^ 64) (sym (same_moves s.views id m.0 w at refl));
              bits = λ j l. word_set s.words turns i 1 j (outs j vs) r.long lt (λ e. sym (ap (λ (z : ℕ). outs z vs) e ∙ here)) (λ ne. r.bits j l ∙ sym (there j ne));
              once = λ j l. dite (ℕ_discrete j i) (λ e. let x : outs j vs ≡ 1 = ap (λ (z : ℕ). outs z vs) e ∙ here in omega (arith, x)) (λ ne. let x = there j ne in let o = r.once j l in omega (arith, x, o));
              full = λ j l z. dite (ℕ_discrete j i) (λ e. let x : outs j vs ≡ 1 = ap (λ (z : ℕ). outs z vs) e ∙ here in absurd (omega (arith, x, z)))
                  (λ ne. let h = r.full j l (sym (there j ne) ∙ z) in (h.0, set_else s.homes i j none (ne) ∙ h.1, h.2));
            },
            ((λ _. (i, t, refl, (has.2.0, subst (λ (a : List ℕ). holds a t) (sym same_about) has.2.1), mine, refl)), (λ n. absurd (n (word ∙ none_out)))),
          )

  pub gives_turn : (ok : Turn H → Type 0) (turns slots id i : ℕ) (m : Sat H) (t : Turn H) → i < turns → slots ≡ turns → t.frame ≡ i → ok t → m.1 ≡ (i, Some t) ∷ rest m.1 → 0 < times m.0.held i
      → Allows (HasTurns ok turns) slots id m (i + 1) (λ _. 0) (Gave (step slots (i + 1) 0 0 none) m)
  gives_turn ok turns slots id i m t lt all frame fits first some_held s r len at small =
      let w : View = view m.0.about (without i m.0.held) m.0.refused m.0.starts in
      let vs : List View = set s.views id w in
      let had = sum_has (λ (u : View). times u.held i) s.views id m.0 at in
      let one = r.once i lt in
      let here : outs i vs ≡ 0 = let h = sum_set (λ (u : View). times u.held i) s.views id m.0 w at in let k = times_without i m.0.held some_held i in let o = one_same i in omega (arith, h, had, one, k, o, some_held) in
      let there : (j : ℕ) → j ≢ i → outs j vs ≡ outs j s.views = λ j ne. let h = sum_set (λ (u : View). times u.held j) s.views id m.0 w at in let k = times_without i m.0.held some_held j in let o = one_other i j ne in omega (arith, h, k, o) in
      let homes : List (mathlib.Core.Option.Option (Option (Turn H))) = set s.homes i (some (Some t)) in
      let kept : HasTurns ok turns record { words = set s.words (i + 1) 0; homes = homes; views = vs } = record {
        long = length-set s.words (i + 1) 0 ∙ r.long;
        hand = get_or-set_other s.words (i + 1) 0 0 0 (λ e. omega (arith, e)) ∙ r.hand ∙ ap (λ (n : ℕ). n % 2 ^ 64) (sym (same_moves s.views id m.0 w at refl));
        bits = λ j l. word_set s.words turns i 0 j (outs j vs) r.long lt (λ e. sym (ap (λ (z : ℕ). outs z vs) e ∙ here)) (λ ne. r.bits j l ∙ sym (there j ne));
        once = λ j l. dite (ℕ_discrete j i) (λ e. let x : outs j vs ≡ 0 = ap (λ (z : ℕ). outs z vs) e ∙ here in omega (arith, x)) (λ ne. let x = there j ne in let o = r.once j l in omega (arith, x, o));
        full = λ j l z. dite (ℕ_discrete j i) (λ e. (t, ap (λ (y : ℕ). get_elem? homes y) e ∙ set_here s.homes i (some (Some t)) (omega (arith, len, all, lt)), (frame ∙ sym e, fits)))
            (λ ne. let h = r.full j l (sym (there j ne) ∙ z) in (h.0, set_else s.homes i j (some (Some t)) ne ∙ h.1, h.2));
      } in
      (w, gives, tt, subst (λ (c : List (ℕ × Option (Turn H))). HasTurns ok turns record { words = set s.words (i + 1) 0; homes = put_back s.homes c; views = vs }) (sym first) kept, (i, refl, refl))

  -- a seat that holds no turn comes in
  pub splits : (ok : Turn H → Type 0) (turns id : ℕ) (v : View) → Splits {S = Option (Turn H)} (HasTurns ok turns) id v v (nobody v.about)
  splits ok turns id v s r at =
      let back : set s.views id v ≡ s.views = set_again s.views id v at in
      let vs : List View = s.views ++ nobody v.about ∷ [] in
      let same : (j : ℕ) → outs j vs ≡ outs j s.views = λ j. let h = sum_by_push (λ (u : View). times u.held j) s.views (nobody v.about) in omega (arith, h) in
      let still : moves vs ≡ moves s.views = let h = sum_by_push (λ (u : View). length u.starts) s.views (nobody v.about) in omega (arith, h) in
      subst (λ (xs : List View). HasTurns ok turns record { words = s.words; homes = s.homes; views = xs ++ nobody v.about ∷ [] }) (sym back) record {
        long = r.long;
        hand = r.hand ∙ ap (λ (n : ℕ). n % 2 ^ 64) (sym still);
        bits = λ j l. r.bits j l ∙ sym (same j);
        once = λ j l. let x = same j in let o = r.once j l in omega (arith, x, o);
        full = λ j l z. r.full j l (sym (same j) ∙ z);
      }

  -- a seat that holds no turn goes
  pub joins : (ok : Turn H → Type 0) (turns id other : ℕ) (v w : View) → w.held ≡ [] → Joins {S = Option (Turn H)} (HasTurns ok turns) id v other w (both v w) (nobody [])
  joins ok turns id other v w empty s r at ne there =
      let vs : List View = set s.views id (both v w) in
      let us : List View = set vs other (nobody []) in
      let same : (j : ℕ) → outs j us ≡ outs j s.views = λ j.
      let a = sum_set (λ (u : View). times u.held j) s.views id v (both v w) at in
      let b = sum_set (λ (u : View). times u.held j) vs other w (nobody []) there in
      let z : times w.held j ≡ 0 = ap (λ (l : List ℕ). times l j) empty in
      omega (arith, a, b, z) in
      let still : moves us ≡ moves s.views =
      let a = sum_set (λ (u : View). length u.starts) s.views id v (both v w) at in
      let b = sum_set (λ (u : View). length u.starts) vs other w (nobody []) there in
      let l = length-append v.starts w.starts in
      omega (arith, a, b, l) in
      record {
        long = r.long;
        hand = r.hand ∙ ap (λ (n : ℕ). n % 2 ^ 64) (sym still);
        bits = λ j l. r.bits j l ∙ sym (same j);
        once = λ j l. let x = same j in let o = r.once j l in omega (arith, x, o);
        full = λ j l z. r.full j l (sym (same j) ∙ z);
      }
