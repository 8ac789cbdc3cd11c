-- Pages that are retired one after the other.
use Rattle.std.proofs.Common.{◌≡◌, ℕ, ◌+◌, List, [], ◌∷◌, ◌++◌, Option, Some, None, refl, ap, ◌∙◌, arith}
use Rattle.page_body.specs.View.{PoolTerms, PoolView}
use Rattle.page_body.specs.PageLists.{ids_of, AllLive}
use Rattle.row_sets.specs.Holds.{nothing, both, a_page, pages_only, IsRetirable}
use Rattle.row_sets.specs.Changes.{Changes}
use Rattle.row_sets.specs.Sets.{with_heap, pages_in, page_list, pages_with}
use Rattle.row_sets.specs.Given.{page_holding}
use Rattle.row_sets.specs.declared.row_set.SetPage.{SetPage}
use Rattle.row_sets.proofs.Changed.{changes_then, changes_beside, changes_as, live_on, unpinned_on}

module _ {Page Pin : Type 0} (t : PoolTerms Page Pin) where
  pub ids_append : (ps qs : List Page) (y : ℕ) → ids_of t (ps ++ qs) y ≡ ids_of t ps y + ids_of t qs y
  ids_append [] qs y = omega arith
  ids_append (p ∷ ps) qs y = let e = ids_append ps qs y in omega (arith, e)

  pub live_left : (a : PoolView Page Pin) (ps qs : List Page) → AllLive a (ps ++ qs) → AllLive a ps
  live_left a [] qs live = tt
  live_left a (p ∷ ps) qs live = (live.0, live_left a ps qs live.1)

  pub live_right : (a : PoolView Page Pin) (ps qs : List Page) → AllLive a (ps ++ qs) → AllLive a qs
  live_right a [] qs live = live
  live_right a (p ∷ ps) qs live = live_right a ps qs live.1

  pub retirable_left : (a : PoolView Page Pin) (ps qs : List Page) → IsRetirable t a (ps ++ qs) → IsRetirable t a ps
  retirable_left a ps qs r = record {
    live = live_left a ps qs r.live;
    differ = λ ends y. let m = r.differ ends y in let e = ids_append ps qs y in omega (arith, m, e);
    unpinned = λ ends y some. let e = ids_append ps qs y in r.unpinned ends y (omega (arith, e, some));
  }

  pub retirable_right : (a : PoolView Page Pin) (ps qs : List Page) → IsRetirable t a (ps ++ qs) → IsRetirable t a qs
  retirable_right a ps qs r = record {
    live = live_right a ps qs r.live;
    differ = λ ends y. let m = r.differ ends y in let e = ids_append ps qs y in omega (arith, m, e);
    unpinned = λ ends y some. let e = ids_append ps qs y in r.unpinned ends y (omega (arith, e, some));
  }

  -- the left ones after the right ones were retired
  pub left_after : (ps qs : List Page) (a b : PoolView Page Pin) → IsRetirable t a (ps ++ qs) → Changes t (pages_only (ids_of t qs)) nothing a b → IsRetirable t b ps
  left_after ps qs a b r c = record {
    live = live_on t ps (pages_only (ids_of t qs)) nothing a b c (live_left a ps qs r.live) (λ ends y. let m = r.differ ends y in let e = ids_append ps qs y in omega (arith, m, e));
    differ = λ ends y. let m = r.differ ends y in let e = ids_append ps qs y in omega (arith, m, e);
    unpinned = unpinned_on t (ids_of t ps) (pages_only (ids_of t qs)) nothing a b c (λ y. refl) (λ y. refl) (λ ends y some. let e = ids_append ps qs y in r.unpinned ends y (omega (arith, e, some)));
  }

  pub left_stays : (ps qs : List Page) (a b : PoolView Page Pin) → Changes t (pages_only (ids_of t qs)) nothing a b → Changes t (pages_only (ids_of t (ps ++ qs))) (pages_only (ids_of t ps)) a b
  left_stays ps qs a b c =
      changes_as t (both (pages_only (ids_of t qs)) (pages_only (ids_of t ps))) (pages_only (ids_of t (ps ++ qs))) (both nothing (pages_only (ids_of t ps))) (pages_only (ids_of t ps)) a b
      (record { pages = λ y. let e = ids_append ps qs y in omega (arith, e); pins = λ y. refl; opens = λ y. refl; held = refl })
      (record { pages = λ y. omega arith; pins = λ y. refl; opens = λ y. refl; held = refl })
      (changes_beside t (pages_only (ids_of t qs)) nothing (pages_only (ids_of t ps)) a b c)

  -- the first, and then the others
  pub after_first : (p : Page) (ps : List Page) (a b : PoolView Page Pin) → IsRetirable t a (p ∷ ps) → Changes t (a_page (t.id p)) nothing a b → IsRetirable t b ps
  after_first p ps a b r c = record {
    live = live_on t ps (a_page (t.id p)) nothing a b c r.live.1 (λ ends y. let m = r.differ ends y in omega (arith, m));
    differ = λ ends y. let m = r.differ ends y in omega (arith, m);
    unpinned = unpinned_on t (ids_of t ps) (a_page (t.id p)) nothing a b c (λ y. refl) (λ y. refl) (λ ends y some. r.unpinned ends y (omega (arith, some)));
  }

  pub first_gone : (p : Page) (ps : List Page) (a b c : PoolView Page Pin) → Changes t (a_page (t.id p)) nothing a b → Changes t (pages_only (ids_of t ps)) nothing b c → Changes t (pages_only (ids_of t (p ∷ ps))) nothing a c
  first_gone p ps a b c first second =
      changes_then t (pages_only (ids_of t (p ∷ ps))) (pages_only (ids_of t ps)) nothing a b c
      (changes_as t (both (a_page (t.id p)) (pages_only (ids_of t ps))) (pages_only (ids_of t (p ∷ ps))) (both nothing (pages_only (ids_of t ps))) (pages_only (ids_of t ps)) a b
      (record { pages = λ y. refl; pins = λ y. refl; opens = λ y. refl; held = refl })
      (record { pages = λ y. omega arith; pins = λ y. refl; opens = λ y. refl; held = refl })
      (changes_beside t (a_page (t.id p)) nothing (pages_only (ids_of t ps)) a b first))
      second

  -- the same of a page that may be there
  pub heap_front : (o : Option Page) (ps : List Page) (a : PoolView Page Pin) → IsRetirable t a (with_heap o ps) → IsRetirable t a (with_heap o [])
  heap_front None ps a r = record { live = tt; differ = λ ends y. omega arith; unpinned = λ ends y some. absurd (omega (arith, some)) }
  heap_front (Some p) ps a r = record {
    live = (r.live.0, tt);
    differ = λ ends y. let m = r.differ ends y in omega (arith, m);
    unpinned = λ ends y some. r.unpinned ends y (omega (arith, some));
  }

  pub heap_after : (o : Option Page) (ps : List Page) (a b : PoolView Page Pin) → IsRetirable t a (with_heap o ps) → Changes t (page_holding t o) nothing a b → IsRetirable t b ps
  heap_after None ps a b r c = record {
    live = live_on t ps nothing nothing a b c r.live (λ ends y. let m = r.differ ends y in omega (arith, m));
    differ = r.differ;
    unpinned = unpinned_on t (ids_of t ps) nothing nothing a b c (λ y. refl) (λ y. refl) r.unpinned;
  }
  heap_after (Some p) ps a b r c = after_first p ps a b r c

  pub heap_gone : (o : Option Page) (ps : List Page) (a b c : PoolView Page Pin) → Changes t (page_holding t o) nothing a b → Changes t (pages_only (ids_of t ps)) nothing b c → Changes t (pages_only (ids_of t (with_heap o ps))) nothing a c
  heap_gone None ps a b c first second =
      changes_then t (pages_only (ids_of t ps)) (pages_only (ids_of t ps)) nothing a b c
      (changes_as t (both nothing (pages_only (ids_of t ps))) (pages_only (ids_of t ps)) (both nothing (pages_only (ids_of t ps))) (pages_only (ids_of t ps)) a b
      (record { pages = λ y. omega arith; pins = λ y. refl; opens = λ y. refl; held = refl })
      (record { pages = λ y. omega arith; pins = λ y. refl; opens = λ y. refl; held = refl })
      (changes_beside t nothing nothing (pages_only (ids_of t ps)) a b first))
      second
  heap_gone (Some p) ps a b c first second = first_gone p ps a b c first second

heap_append : {H : Type 0} (o : Option H) (ps qs : List H) → with_heap o (ps ++ qs) ≡ with_heap o ps ++ qs
heap_append None ps qs = refl
heap_append (Some p) ps qs = refl

with_append : {H : Type 0} (r : H) (o0 o1 o2 o3 : Option H) (ps qs : List H) → (r ∷ with_heap o0 (with_heap o1 (with_heap o2 (with_heap o3 (ps ++ qs))))) ≡ (r ∷ with_heap o0 (with_heap o1 (with_heap o2 (with_heap o3 ps)))) ++ qs
with_append r o0 o1 o2 o3 ps qs =
    ap (λ l. r ∷ with_heap o0 (with_heap o1 (with_heap o2 l))) (heap_append o3 ps qs)
    ∙ ap (λ l. r ∷ with_heap o0 (with_heap o1 l)) (heap_append o2 (with_heap o3 ps) qs)
    ∙ ap (λ l. r ∷ with_heap o0 l) (heap_append o1 (with_heap o2 (with_heap o3 ps)) qs)
    ∙ ap (λ l. r ∷ l) (heap_append o0 (with_heap o1 (with_heap o2 (with_heap o3 ps))) qs)

-- all pages of a list of row pages with one more
pub pages_push : {H : Type 0} (xs : List (SetPage H)) (x : SetPage H) → pages_in (xs ++ x ∷ []) ≡ pages_in xs ++ page_list x.page
pages_push [] x = refl
pages_push (y ∷ ys) x = ap (λ ps. pages_with y.page ps) (pages_push ys x) ∙ with_append y.page.rows y.page.heap0 y.page.heap1 y.page.heap2 y.page.heap3 (pages_in ys) (page_list x.page)
