-- Writers and pins, each while calls work on the other.
use Rattle.std.proofs.Common.{◌≡◌, ℕ, zero, suc, ◌+◌, ◌<◌, ◌≤◌, List, [], ◌∷◌, Option, Some, None, ap, sym, subst, ◌∙◌, arith}
use Rattle.std.specs.Prelude.{IsTrue, IsSomeAnd, slice_get}
use Rattle.number_bags.specs.Bags.{times}
use Rattle.page_body.specs.View.{PoolTerms, PoolView}
use Rattle.page_body.specs.Keeps.{ValidOn, Takes, Gives}
use Rattle.page_body.specs.PageLists.{ids_of, Differ, AllLive}
use Rattle.page_body.proofs.Kept.{counted_then}
use Rattle.rebase_pins.specs.declared.row_page.RowPage.{RowPage}
use Rattle.rebase_pins.specs.declared.row_page.RowPins.{RowPins}
use Rattle.rebase_pins.specs.RowPages.{under_pins, ids_in, IsOwned as AreOwned}
use Rattle.rebase_pins.specs.RowPages.{ids_of as page_ids}
use Rattle.rebase_pins.proofs.Owned.{owned_on}
use Rattle.row_sets.specs.Holds.{Holding, IsOwned, Unpinned}
use Rattle.row_sets.specs.Adding.{KeepsPlace}
use Rattle.row_sets.specs.Changes.{Changes}
use Rattle.row_sets.specs.Sets.{with_heap, pages_with, pages_in, set_ids}
use Rattle.row_sets.specs.Cursors.{IsPageOf}
use Rattle.row_sets.specs.Writers.{IsWriterHere, writer_holding, writer_ids, written_pages, count_open}
use Rattle.row_sets.specs.declared.row_set.SetPage.{SetPage}
use Rattle.row_sets.specs.declared.row_set.RowSet.{RowSet}
use Rattle.row_sets.specs.declared.writer.Writer.{Writer}
use Rattle.row_sets.proofs.Stays.{HasNoPins}
use Rattle.page_body.specs.declared.open.OpenPage.{OpenPage}

open_most : (o : Option OpenPage) → count_open o ≤ 1
open_most None = omega arith
open_most (Some page) = omega arith

-- a writer has two open pages at most
pub holds_two : {Page Pin : Type 0} (t : PoolTerms Page Pin) (w : Writer Page) → (writer_holding t w).held ≤ 2
holds_two t w = let a = open_most w.open_rows in let b = open_most w.open_heap in omega (arith, a, b)

module _ {Page Pin : Type 0} (t : PoolTerms Page Pin) where
  -- pins live on where a call takes none
  valid_over : (h k : Holding) (a b : PoolView Page Pin) → Changes t h k a b → HasNoPins h → ((q : Pin) → a.valid q → 0 < a.pins (t.id (t.under q))) → ValidOn a b
  valid_over h k a b c bare pinned = λ q valid. c.valid q valid (let none = bare.none (t.id (t.under q)) in let some = pinned q valid in omega (arith, none, some))

  pub owned_over : (pins : RowPins Pin) (h k : Holding) (a b : PoolView Page Pin) → Changes t h k a b → HasNoPins h → ((q : Pin) → a.valid q → 0 < a.pins (t.id (t.under q))) → AreOwned t a pins → AreOwned t b pins
  owned_over pins h k a b c bare pinned own =
      owned_on t a b pins (valid_over h k a b c bare pinned) (λ y. let x = c.pins y in let none = bare.none y in omega (arith, x, none)) own

  all_live : (ps : List Page) (a b : PoolView Page Pin) → ((p : Page) → a.live p → b.live p) → AllLive a ps → AllLive b ps
  all_live [] a b on live = tt
  all_live (p ∷ ps) a b on live = (on p live.0, all_live ps a b on live.1)

  -- a writer stays where pins are taken on other pages, and where pins are given back
  pub writer_pinned : (w : Writer Page) (xs : List ℕ) (a b : PoolView Page Pin) → Takes xs a b → (IsTrue t.ends_lives → (y : ℕ) → 1 ≤ writer_ids t w y → times xs y ≡ 0) → IsWriterHere t a w → IsWriterHere t b w
  writer_pinned w xs a b took other here = record {
    page_bytes = here.page_bytes ∙ sym took.steady.page_bytes;
    live = all_live (written_pages w) a b took.lives here.live;
    owned = record {
      pins = λ y. let x = here.owned.pins y in let p = took.pins y in omega (arith, x, p);
      opens = λ y. let x = here.owned.opens y in let p = took.opens y in omega (arith, x, p);
    };
    unpinned = λ ends y some. let none = here.unpinned ends y some in let p = took.pins y in let z = other ends y some in omega (arith, none, p, z);
  }

  pub writer_released : (w : Writer Page) (xs : List ℕ) (a b : PoolView Page Pin) → Gives t xs a b → IsWriterHere t a w → IsWriterHere t b w
  writer_released w xs a b gave here = record {
    page_bytes = here.page_bytes ∙ sym gave.steady.page_bytes;
    live = all_live (written_pages w) a b gave.lives here.live;
    owned = record { pins = λ y. omega arith; opens = λ y. let x = here.owned.opens y in let p = gave.opens y in omega (arith, x, p) };
    unpinned = λ ends y some. let none = here.unpinned ends y some in let p = gave.pins y in omega (arith, none, p);
  }

  -- what is done while pins are held
  pub changes_pinned : (xs : List ℕ) (h k : Holding) (a b c d : PoolView Page Pin) → HasNoPins h → HasNoPins k → Takes xs a b → Changes t h k b c → Gives t xs c d → Changes t h k a d
  changes_pinned xs h k a b c d bare bare' took change gave = record {
    pins = λ y. let x = took.pins y in let z = change.pins y in let w = gave.pins y in omega (arith, x, z, w);
    opens = λ y. let x = took.opens y in let z = change.opens y in let w = gave.opens y in omega (arith, x, z, w);
    held = let x = took.held in let z = change.held in let w = gave.held in omega (arith, x, z, w);
    grant = gave.steady.grant ∙ change.grant ∙ took.steady.grant;
    page_bytes = gave.steady.page_bytes ∙ change.page_bytes ∙ took.steady.page_bytes;
    lane = gave.steady.lane ∙ change.lane ∙ took.steady.lane;
    counted = counted_then a.writes c.writes d.writes a.wrote c.wrote d.wrote (counted_then a.writes b.writes c.writes a.wrote b.wrote c.wrote took.steady.counted change.counted) gave.steady.counted;
    faults = let x = took.steady.faults in let z = change.faults in let w = gave.steady.faults in omega (arith, x, z, w);
    lives = λ p live none. gave.lives p (change.lives p (took.lives p live) none);
    new = λ ends p live none. change.new ends p (took.lives p live) none;
    valid = λ q valid more.
        let y = t.id (t.under q) in
        let x = took.pins y in let z = change.pins y in let w = gave.pins y in let u = bare.none y in let v = bare'.none y in
        gave.valid q (change.valid q (took.valid q valid) (omega (arith, more, x))) (omega (arith, more, x, z, w, u, v));
  }

  -- one change after the other that leaves all pages where they are
  pub place_then : (a b c : Writer Page) → KeepsPlace t a b → KeepsPlace t b c → KeepsPlace t a c
  place_then a b c first second = record {
    kinds = second.kinds ∙ first.kinds;
    layout = second.layout ∙ first.layout;
    page_bytes = second.page_bytes ∙ first.page_bytes;
    pages = second.pages ∙ first.pages;
    holding = second.holding ∙ first.holding;
  }

  -- a writer whose pages stay where they are
  pub here_placed : (old new : Writer Page) (a : PoolView Page Pin) → KeepsPlace t old new → IsWriterHere t a old → IsWriterHere t a new
  here_placed old new a place here = record {
    page_bytes = place.page_bytes ∙ here.page_bytes;
    live = subst (AllLive a) (sym place.pages) here.live;
    owned = subst (IsOwned a) (sym place.holding) here.owned;
    unpinned = subst (λ (h : Holding). Unpinned t a h.pages) (sym place.holding) here.unpinned;
  }

  pub changes_placed : (old new : Writer Page) (h : Holding) (a b : PoolView Page Pin) → KeepsPlace t old new → Changes t h (writer_holding t old) a b → Changes t h (writer_holding t new) a b
  changes_placed old new h a b place c = subst (λ (k : Holding). Changes t h k a b) (sym place.holding) c

  -- the pages under the pins are among those of the set
  heap_bag : (o : Option Page) (os : List (Option Page)) (ps : List Page) (y n : ℕ) → times (ids_in t os) y + n ≡ ids_of t ps y → times (ids_in t (o ∷ os)) y + n ≡ ids_of t (with_heap o ps) y
  heap_bag None os ps y n e = e
  heap_bag (Some p) os ps y n e = omega (arith, e)

  page_bag : (page : RowPage Page) (ps : List Page) (y : ℕ) → times (page_ids t page) y + ids_of t ps y ≡ ids_of t (pages_with page ps) y
  page_bag page ps y =
      let n = ids_of t ps y in
      let d = heap_bag page.heap3 [] ps y n (let e : 0 + n ≡ n = omega arith in e) in
      let c = heap_bag page.heap2 (page.heap3 ∷ []) (with_heap page.heap3 ps) y n d in
      let b = heap_bag page.heap1 (page.heap2 ∷ page.heap3 ∷ []) (with_heap page.heap2 (with_heap page.heap3 ps)) y n c in
      let a = heap_bag page.heap0 (page.heap1 ∷ page.heap2 ∷ page.heap3 ∷ []) (with_heap page.heap1 (with_heap page.heap2 (with_heap page.heap3 ps))) y n b in
      omega (arith, a)

  page_among : (ps : List (SetPage Page)) (n : ℕ) (page : RowPage Page) (y : ℕ) → IsSomeAnd (slice_get ps n) (λ p. page ≡ p.page) → times (page_ids t page) y ≤ ids_of t (pages_in ps) y
  page_among [] zero page y is = absurd is
  page_among [] (suc n) page y is = absurd is
  page_among (p ∷ ps) zero page y is = let bag = page_bag p.page (pages_in ps) y in let e = ap (λ q. times (page_ids t q) y) is in omega (arith, bag, e)
  page_among (p ∷ ps) (suc n) page y is = let r = page_among ps n page y is in let bag = page_bag p.page (pages_in ps) y in omega (arith, bag, r)

  pub among : (set : RowSet Page) (n : ℕ) (pins : RowPins Pin) (y : ℕ) → IsPageOf t set n pins → times (page_ids t (under_pins t pins)) y ≤ set_ids t set y
  among set n pins y is = page_among set.pages.items n (under_pins t pins) y is.under

  -- so pins on them are on no page of a writer whose pages are others
  pub pinned_apart : (set : RowSet Page) (w : Writer Page) (n : ℕ) (pins : RowPins Pin) → IsPageOf t set n pins → Differ t (λ y. set_ids t set y + writer_ids t w y) → IsTrue t.ends_lives → (y : ℕ) → 1 ≤ writer_ids t w y → times (page_ids t (under_pins t pins)) y ≡ 0
  pinned_apart set w n pins is apart ends y some = let most = apart ends y in let low = among set n pins y is in omega (arith, most, low, some)
