-- One row page of a set.
use Rattle.std.proofs.Common.{◌≡◌, ℕ, zero, suc, ◌+◌, ◌≤◌, List, [], ◌∷◌, ◌++◌, length, drop, Option, Some, None, Result, Ok, Err, refl, ap, sym, subst, ◌∙◌, arith}
use Rattle.std.specs.Prelude.{IsTrue, IfOk, IfSome, IsSomeAnd, slice_get}
use Rattle.row_image.specs.declared.layout.CellKind.{CellKind}
use Rattle.std.proofs.Math.ListN.{drop_of_length-le}
use Rattle.number_bags.proofs.Bags.{one_same}
use Rattle.page_body.specs.View.{PoolTerms, PoolView}
use Rattle.page_body.specs.PageLists.{ids_of, AllLive}
use Rattle.page_body.specs.declared.fault.PoolFault.{PoolFault}
use Rattle.rebase_pins.specs.declared.row_page.RowPage.{RowPage}
use Rattle.rebase_pins.specs.declared.row_page.RowPins.{RowPins}
use Rattle.rebase_pins.specs.RowPages.{under_pins, IsLive, IsFormed}
use Rattle.rebase_pins.specs.Rows.{rows_of_page}
use Rattle.row_sets.specs.Holds.{Unpinned}
use Rattle.row_sets.specs.Sets.{with_heap, pages_with, pages_in, row_pages_in, lists_in, joined, AllSetPages, IsSetPage, Formed}
use Rattle.row_sets.specs.Cursors.{rows_from, IsPageOf}
use Rattle.row_sets.specs.declared.row_set.SetPage.{SetPage}
use Rattle.row_sets.specs.declared.row_set.RowSet.{RowSet}

module _ {Page Pin : Type 0} (t : PoolTerms Page Pin) where
  pub lists_drop : (kinds : List CellKind) (ps : List (SetPage Page)) (n : ℕ) → drop n (lists_in t kinds ps) ≡ lists_in t kinds (drop n ps)
  lists_drop kinds ps zero = refl
  lists_drop kinds [] (suc n) = refl
  lists_drop kinds (p ∷ ps) (suc n) = lists_drop kinds ps n

  all_drop : (kinds : List CellKind) (bytes : ℕ) (ps : List (SetPage Page)) (n : ℕ) → AllSetPages t kinds bytes ps → AllSetPages t kinds bytes (drop n ps)
  all_drop kinds bytes ps zero all = all
  all_drop kinds bytes [] (suc n) all = tt
  all_drop kinds bytes (p ∷ ps) (suc n) all = all_drop kinds bytes ps n all.1

  pub page_at : (kinds : List CellKind) (bytes : ℕ) (ps : List (SetPage Page)) (n : ℕ) (p : SetPage Page) (rest : List (SetPage Page)) → drop n ps ≡ p ∷ rest → AllSetPages t kinds bytes ps → IsSetPage t kinds bytes p
  page_at kinds bytes ps n p rest e all = (subst (AllSetPages t kinds bytes) e (all_drop kinds bytes ps n all)).0

  heap_live : (a : PoolView Page Pin) (o : Option Page) (ps : List Page) → AllLive a (with_heap o ps) → IfSome o a.live × AllLive a ps
  heap_live a None ps all = (tt, all)
  heap_live a (Some p) ps all = all

  page_live : (a : PoolView Page Pin) (p : RowPage Page) (ps : List Page) → AllLive a (pages_with p ps) → IsLive a p × AllLive a ps
  page_live a p ps all =
      let l0 = heap_live a p.heap0 (with_heap p.heap1 (with_heap p.heap2 (with_heap p.heap3 ps))) all.1 in
      let l1 = heap_live a p.heap1 (with_heap p.heap2 (with_heap p.heap3 ps)) l0.1 in
      let l2 = heap_live a p.heap2 (with_heap p.heap3 ps) l1.1 in
      let l3 = heap_live a p.heap3 ps l2.1 in
      (record { rows = all.0; heap0 = l0.0; heap1 = l1.0; heap2 = l2.0; heap3 = l3.0 }, l3.1)

  live_drop : (a : PoolView Page Pin) (ps : List (SetPage Page)) (n : ℕ) → AllLive a (pages_in ps) → AllLive a (pages_in (drop n ps))
  live_drop a ps zero all = all
  live_drop a [] (suc n) all = tt
  live_drop a (p ∷ ps) (suc n) all = live_drop a ps n (page_live a p.page (pages_in ps) all).1

  pub live_at : (a : PoolView Page Pin) (ps : List (SetPage Page)) (n : ℕ) (p : SetPage Page) (rest : List (SetPage Page)) → drop n ps ≡ p ∷ rest → AllLive a (pages_in ps) → IsLive a p.page
  live_at a ps n p rest e all = (page_live a p.page (pages_in rest) (subst (λ l. AllLive a (pages_in l)) e (live_drop a ps n all))).0

  fewer : (ps : List (SetPage Page)) (n y : ℕ) → ids_of t (row_pages_in (drop n ps)) y ≤ ids_of t (row_pages_in ps) y
  fewer ps zero y = omega arith
  fewer [] (suc n) y = omega arith
  fewer (p ∷ ps) (suc n) y = let f = fewer ps n y in omega (arith, f)

  pub alone_at : (a : PoolView Page Pin) (ps : List (SetPage Page)) (n : ℕ) (p : SetPage Page) (rest : List (SetPage Page)) → drop n ps ≡ p ∷ rest → Unpinned t a (ids_of t (row_pages_in ps)) → IsTrue t.ends_lives → a.pins (t.id p.page.rows) ≡ 0
  alone_at a ps n p rest e unpinned ends =
      let y = t.id p.page.rows in
      let f = subst (λ l. ids_of t (row_pages_in l) y ≤ ids_of t (row_pages_in ps) y) e (fewer ps n y) in
      let one = one_same y in
      unpinned ends y (omega (arith, f, one))

  pub rows_at : (set : RowSet Page) (n : ℕ) (p : SetPage Page) → drop n set.pages.items ≡ p ∷ drop (n + 1) set.pages.items → rows_from t set n ≡ rows_of_page t set.layout p.page ++ rows_from t set (n + 1)
  rows_at set n p e =
      ap joined (lists_drop set.layout set.pages.items n)
      ∙ ap (λ l. joined (lists_in t set.layout l)) e
      ∙ ap (λ l. rows_of_page t set.layout p.page ++ joined l) (sym (lists_drop set.layout set.pages.items (n + 1)))

  get_at : (ps : List (SetPage Page)) (n : ℕ) (p : SetPage Page) (rest : List (SetPage Page)) → drop n ps ≡ p ∷ rest → slice_get ps n ≡ Some p
  get_at [] zero p rest e = absurd (cc e)
  get_at (q ∷ ps) zero p rest e = ap (λ l. slice_get l 0) e
  get_at [] (suc n) p rest e = absurd (cc e)
  get_at (q ∷ ps) (suc n) p rest e = get_at ps n p rest e

  pub page_given : (set : RowSet Page) (n : ℕ) (p : SetPage Page) (r : Result (RowPins Pin) PoolFault) → drop n set.pages.items ≡ p ∷ drop (n + 1) set.pages.items → Formed t set → IfOk r (λ pins. under_pins t pins ≡ p.page) → IfOk r (IsPageOf t set n)
  page_given set n p (Err fault) e formed under = tt
  page_given set n p (Ok pins) e formed under =
      let is = page_at set.layout set.page_bytes set.pages.items n p (drop (n + 1) set.pages.items) e formed.pages in
      let some = is.some in
      let counted = is.counted in
      record {
        under = subst (λ o. IsSomeAnd o (λ q. under_pins t pins ≡ q.page)) (sym (get_at set.pages.items n p (drop (n + 1) set.pages.items) e)) under;
        formed = subst (IsFormed t set.layout) (sym under) is.formed;
        some = subst (λ page. 1 ≤ length (rows_of_page t set.layout page)) (sym under) (omega (arith, some, counted));
        rows = subst (λ page. rows_from t set n ≡ rows_of_page t set.layout page ++ rows_from t set (n + 1)) (sym under) (rows_at set n p e);
      }

  pub none_from : (set : RowSet Page) (n : ℕ) → length set.pages.items ≤ n → rows_from t set n ≡ []
  none_from set n past = ap joined (lists_drop set.layout set.pages.items n ∙ ap (lists_in t set.layout) (drop_of_length-le set.pages.items past))
