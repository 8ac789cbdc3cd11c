-- From what each desk drew to the whole stage.
use Rattle.std.proofs.Common.{◌≡◌, ℕ, ◌+◌, ◌<◌, ◌≤◌, List, [], ◌∷◌, ◌++◌, length, refl, sym, ap, ◌∙◌, subst, arith}
use Rattle.std.specs.Prelude.{Option, Some, None}
use mathlib.Core.Logic.{dite}
use native.Mathlib.Decide.{dec_le}
use Rattle.number_bags.specs.Bags.{one_of, times}
use Rattle.number_bags.proofs.Bags.{one_same, one_other, times_both}
use Rattle.claim_counter.specs.Once.{IsOnce, IsEachBelow}
use Rattle.worker_stage.specs.declared.desk.Desk.{Desk}
use Rattle.worker_stage.specs.Source.{SeatSeen}
use Rattle.worker_stage.specs.Work.{AreItems, Finished, Broke}
use Rattle.worker_stage.specs.Desks.{Ran, RanAll, Ends, Joined, draws_at, together, first_fault, workers, faults, drawn_at}
use Rattle.worker_stage.specs.Stage.{MadeAll, IsDone, Ended, EndedAll, IsBroken}
use Rattle.worker_stage.proofs.Drawn.{items_snoc}
use Rattle.worker_stage.proofs.Items.{items_bag, items_over, items_past}

-- how often y stands in a list and one number more
times_snoc : (y n : ℕ) (ns draws : List ℕ) → draws ≡ ns ++ n ∷ [] → times draws y ≡ times ns y + one_of n y
times_snoc y n ns draws is = let one = times_both ns (n ∷ []) y in ap (λ (l : List ℕ). times l y) is ∙ omega (arith, one)

none_first : {F : Type 0} (k : ℕ) (f : Option F) (fs : List (Option F)) → first_fault k (f ∷ fs) ≡ None → (f ≡ None) × (first_fault (k + 1) fs ≡ None)
none_first k None fs z = (refl, z)
none_first k (Some f) fs z = (cc, cc)

pub some_workers : {W S F : Type 0} (ds : List (Desk W S F)) → 0 < length ds → 0 < length (workers ds)
some_workers [] some = absurd (omega (arith, some))
some_workers (d ∷ ds) some = omega arith

module _ {W I S F : Type 0} (made : W → List I → W → Type 0) (failed : W → List I → I → F → W → Type 0) (owns : S → Type 0) (seen : S → SeatSeen) (items : List I) where
  -- all workers' lists, where none gave up
  record Lists (ws : List W) (es : List (Desk W S F)) : Type 0 where
    numbers : List (List ℕ)
    lists : List (List I)
    each : MadeAll made ws lists (workers es)
    are : AreItems items (together numbers) (together lists)
    small : (y : ℕ) → y < length items → times (together numbers) y ≡ times (drawn_at seen es) y

  finished : (w : W) (e : Desk W S F) → Ran made failed owns seen items w e → e.fault ≡ None → Finished made items w (draws_at seen e.seat) e.worker
  finished w e ran is = subst (λ (o : Option F). Ends made failed owns seen items w (draws_at seen e.seat) o e.worker) is ran.ends

  lists_cons : (w : W) (ws : List W) (e : Desk W S F) (es : List (Desk W S F)) → Finished made items w (draws_at seen e.seat) e.worker → Lists ws es → Lists (w ∷ ws) (e ∷ es)
  lists_cons w ws e es fin rest =
      let xs = fin.worked.0 in record {
        numbers = fin.done ∷ rest.numbers;
        lists = xs ∷ rest.lists;
        each = (fin.worked.2, rest.each);
        are = items_over items fin.done xs (together rest.numbers) (together rest.lists) fin.worked.1 rest.are;
        small = λ y lt.
            let here = times_snoc y fin.last fin.done (draws_at seen e.seat) fin.is in
            let past = fin.past in
            let o = one_other fin.last y (λ s. absurd (omega (arith, s, lt, past))) in
            let there = rest.small y lt in
            times_both fin.done (together rest.numbers) y ∙ (omega (arith, here, o, there) ∙ sym (times_both (draws_at seen e.seat) (drawn_at seen es) y));
      }

  lists_of : (ws : List W) (es : List (Desk W S F)) (k : ℕ) → RanAll made failed owns seen items ws es → first_fault k (faults es) ≡ None → Lists ws es
  lists_of [] [] k ran none = record { numbers = []; lists = []; each = tt; are = tt; small = λ y lt. refl }
  lists_of [] (e ∷ es) k ran none = absurd ran
  lists_of (w ∷ ws) [] k ran none = absurd ran
  lists_of (w ∷ ws) (e ∷ es) k ran none =
      let parts = none_first k e.fault (faults es) none in
      lists_cons w ws e es (finished w e ran.0 parts.0) (lists_of ws es (k + 1) ran.1 parts.1)

  -- the first worker's last draw is past all items
  all_drawn : (ws : List W) (es : List (Desk W S F)) (steps : ℕ) → RanAll made failed owns seen items ws es → 0 < length ws → first_fault 0 (faults es) ≡ None → IsEachBelow steps (drawn_at seen es) → length items < steps
  all_drawn [] es steps ran some none once = absurd (omega (arith, some))
  all_drawn (w ∷ ws) [] steps ran some none once = absurd ran
  all_drawn (w ∷ ws) (e ∷ es) steps ran some none once =
      let fin = finished w e ran.0 (none_first 0 e.fault (faults es) none).0 in
      let here = times_snoc fin.last fin.last fin.done (draws_at seen e.seat) fin.is in
      let o = one_same fin.last in
      let whole = times_both (draws_at seen e.seat) (drawn_at seen es) fin.last in
      let past = fin.past in
      dite (dec_le steps fin.last)
      (λ le. let z = (once fin.last).1 le in absurd (omega (arith, here, o, whole, z)))
      (λ gt. grind (arith, gt, past))

  done : (ws : List W) (es : List (Desk W S F)) (steps : ℕ) → RanAll made failed owns seen items ws es → 0 < length ws → first_fault 0 (faults es) ≡ None → IsEachBelow steps (drawn_at seen es) → IsDone made items ws (workers es)
  done ws es steps ran some none once =
      let l = lists_of ws es 0 ran none in
      let past = all_drawn ws es steps ran some none once in record {
        lists = l.lists;
        each = l.each;
        whole = items_bag items (together l.numbers) (together l.lists) l.are
            (λ y. ((λ lt. l.small y lt ∙ (once y).0 (omega (arith, lt, past))), (λ le. items_past items (together l.numbers) (together l.lists) y l.are le)));
      }

  -- all workers' numbers, whether or not one gave up
  record Parts (ws : List W) (es : List (Desk W S F)) : Type 0 where
    numbers : List (List ℕ)
    each : EndedAll made failed items ws numbers (faults es) (workers es)
    small : (y : ℕ) → y < length items → times (together numbers) y ≡ times (drawn_at seen es) y
    large : (y : ℕ) → length items ≤ y → times (together numbers) y ≡ 0

  parts_cons : (w : W) (ws : List W) (e : Desk W S F) (es : List (Desk W S F)) → Parts ws es → (ns : List ℕ) → Ended made failed items w ns e.fault e.worker
      → ((y : ℕ) → y < length items → times ns y ≡ times (draws_at seen e.seat) y) → ((y : ℕ) → length items ≤ y → times ns y ≡ 0) → Parts (w ∷ ws) (e ∷ es)
  parts_cons w ws e es rest ns ended small large = record {
    numbers = ns ∷ rest.numbers;
    each = (ended, rest.each);
    small = λ y lt.
        let here = small y lt in
        let there = rest.small y lt in
        let a = times_both ns (together rest.numbers) y in
        let b = times_both (draws_at seen e.seat) (drawn_at seen es) y in
        omega (arith, here, there, a, b);
    large = λ y le.
        let here = large y le in
        let there = rest.large y le in
        let a = times_both ns (together rest.numbers) y in
        omega (arith, here, there, a);
  }

  parts_by : (w : W) (ws : List W) (e : Desk W S F) (es : List (Desk W S F)) → Ran made failed owns seen items w e → Parts ws es → (f : Option F) → e.fault ≡ f → Parts (w ∷ ws) (e ∷ es)
  parts_by w ws e es ran rest None is =
      let fin = finished w e ran is in
      parts_cons w ws e es rest fin.done (subst (λ (o : Option F). Ended made failed items w fin.done o e.worker) (sym is) fin.worked)
      (λ y lt.
      let here = times_snoc y fin.last fin.done (draws_at seen e.seat) fin.is in
      let past = fin.past in
      let o = one_other fin.last y (λ s. absurd (omega (arith, s, lt, past))) in
      omega (arith, here, o))
      (λ y le. items_past items fin.done fin.worked.0 y fin.worked.1 le)
  parts_by w ws e es ran rest (Some f) is =
      let end : Broke made failed items w (draws_at seen e.seat) f e.worker = subst (λ (o : Option F). Ends made failed owns seen items w (draws_at seen e.seat) o e.worker) is ran.ends in
      let ns = end.done ++ end.last ∷ [] in
      parts_cons w ws e es rest ns
      (subst (λ (o : Option F). Ended made failed items w ns o e.worker) (sym is) (end.done, end.last, end.xs, end.x, refl, end.before, end.here, end.broke))
      (λ y lt. sym (ap (λ (l : List ℕ). times l y) end.is))
      (λ y le. items_past items ns (end.xs ++ end.x ∷ []) y (items_snoc items end.done end.xs end.last end.x end.before end.here) le)

  parts_of : (ws : List W) (es : List (Desk W S F)) → RanAll made failed owns seen items ws es → Parts ws es
  parts_of [] [] ran = record { numbers = []; each = tt; small = λ y lt. refl; large = λ y le. refl }
  parts_of [] (e ∷ es) ran = absurd ran
  parts_of (w ∷ ws) [] ran = absurd ran
  parts_of (w ∷ ws) (e ∷ es) ran = parts_by w ws e es ran.0 (parts_of ws es ran.1) e.fault refl

  -- the numbers that the seat of all has drawn are those of the desks
  at_desks : (before after desks : List ℕ) (steps : ℕ) → before ≡ [] → after ≡ before ++ desks → IsEachBelow steps after → IsEachBelow steps desks
  at_desks before after desks steps none is once = subst (IsEachBelow steps) (is ∙ ap (λ (l : List ℕ). l ++ desks) none) once

  pub joined_done : (ws vs : List W) (before after : List ℕ) (steps : ℕ) (first : Option (ℕ × F)) → Joined made failed owns seen items ws before after first vs → first ≡ None → before ≡ [] → 0 < length ws → IsEachBelow steps after
      → IsDone made items ws vs
  joined_done ws vs before after steps first joined none begun some once =
      subst (IsDone made items ws) (sym joined.made_of)
      (done ws joined.desks steps joined.ran some (sym joined.first ∙ none) (at_desks before after (drawn_at seen joined.desks) steps begun joined.drawn once))

  pub joined_broken : (ws vs : List W) (before after : List ℕ) (steps number : ℕ) (fault : F) (first : Option (ℕ × F)) → Joined made failed owns seen items ws before after first vs → first ≡ Some (number, fault) → before ≡ []
      → IsEachBelow steps after → IsBroken made failed items ws number fault steps vs
  joined_broken ws vs before after steps number fault first joined some begun once =
      let p = parts_of ws joined.desks joined.ran in
      let each = at_desks before after (drawn_at seen joined.desks) steps begun joined.drawn once in
      subst (IsBroken made failed items ws number fault steps) (sym joined.made_of) record {
        numbers = p.numbers;
        faults = faults joined.desks;
        each = p.each;
        first = sym joined.first ∙ some;
        once = λ y lt. subst (IsOnce y steps) (sym (p.small y lt)) (each y);
        inside = p.large;
      }
