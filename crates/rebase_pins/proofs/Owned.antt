-- Pins stay this worker's through calls that take no pin away.
use Rattle.std.proofs.Common.{ℕ, ◌≤◌, List, ◌++◌, arith}
use Rattle.page_body.specs.View.{PoolTerms, PoolView}
use Rattle.page_body.specs.Keeps.{Kept, ValidOn}
use Rattle.rebase_pins.specs.declared.row_page.RowPage.{RowPage}
use Rattle.rebase_pins.specs.declared.row_page.RowPins.{RowPins}
use Rattle.rebase_pins.specs.RowPages.{changed, under_pins, ids_of, IsOwned, IsLive}
use Rattle.number_bags.proofs.Bags.{one_same}
use Rattle.page_body.specs.Keeps.{Gives, Reserves}
use Rattle.page_body.proofs.Takes.{reserves_left}
use Rattle.rebase_pins.proofs.Heaps.{four, still, still_valid, still_live}

module _ {Page Pin : Type 0} (t : PoolTerms Page Pin) where
  pub owned_on : (a b : PoolView Page Pin) (pins : RowPins Pin) → ValidOn a b → ((y : ℕ) → a.pins y ≤ b.pins y) → IsOwned t a pins → IsOwned t b pins
  owned_on a b pins on more own = record {
    rows = on pins.rows own.rows;
    heap0 = still_valid t pins.heap0 a b on own.heap0;
    heap1 = still_valid t pins.heap1 a b on own.heap1;
    heap2 = still_valid t pins.heap2 a b on own.heap2;
    heap3 = still_valid t pins.heap3 a b on own.heap3;
    counted = λ y. let c = own.counted y in let m = more y in omega (arith, c, m);
  }

  pub owned_kept : (a b : PoolView Page Pin) (pins : RowPins Pin) → Kept a b → IsOwned t a pins → IsOwned t b pins
  owned_kept a b pins kept own = owned_on a b pins kept.valid (λ y. let p = kept.pins y in omega (arith, p)) own

  pub live_on : (a b : PoolView Page Pin) (page : RowPage Page) → ((p : Page) → a.live p → b.live p) → IsLive a page → IsLive b page
  live_on a b page on live = record {
    rows = on page.rows live.rows;
    heap0 = still_live t page.heap0 a b on live.heap0;
    heap1 = still_live t page.heap1 a b on live.heap1;
    heap2 = still_live t page.heap2 a b on live.heap2;
    heap3 = still_live t page.heap3 a b on live.heap3;
  }

  -- the pins on one row page stay this worker's, where those on others are given back that it has beside them
  pub owned_left : (others : List ℕ) (a b : PoolView Page Pin) (pins : RowPins Pin) → Reserves (others ++ ids_of t (under_pins t pins)) a → Gives t others a b → IsOwned t a pins → IsOwned t b pins
  owned_left others a b pins both gave own =
      let left : Reserves (ids_of t (under_pins t pins)) b = reserves_left t others (ids_of t (under_pins t pins)) a b both gave in
      let h0 = changed t.under pins.heap0 in
      let h1 = changed t.under pins.heap1 in
      let h2 = changed t.under pins.heap2 in
      let h3 = changed t.under pins.heap3 in
      let row = t.id (t.under pins.rows) in
      record {
        rows = let l = left row in gave.valid pins.rows own.rows (omega (arith, l, one_same row));
        heap0 = still t pins.heap0 a b gave.valid (λ y. let l = left y in omega (arith, l, four t h0 h1 h2 h3 y)) own.heap0;
        heap1 = still t pins.heap1 a b gave.valid (λ y. let l = left y in omega (arith, l, four t h0 h1 h2 h3 y)) own.heap1;
        heap2 = still t pins.heap2 a b gave.valid (λ y. let l = left y in omega (arith, l, four t h0 h1 h2 h3 y)) own.heap2;
        heap3 = still t pins.heap3 a b gave.valid (λ y. let l = left y in omega (arith, l, four t h0 h1 h2 h3 y)) own.heap3;
        counted = left;
      }
