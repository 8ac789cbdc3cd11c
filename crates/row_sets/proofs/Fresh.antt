-- New writers, and what is given.
use Rattle.std.proofs.Common.{◌≡◌, ℕ, ◌+◌, ◌-◌, ◌≤◌, List, [], ◌++◌, length, Option, Some, None, Result, Ok, Err, refl, ap, sym, ◌∙◌, subst, arith}
use Rattle.std.specs.Prelude.{Bool, IfOk, IfErr, IfSome}
use Rattle.ooc_types.specs.declared.schema.SqlType.{SqlType}
use Rattle.row_image.specs.Bytes.{IsPage}
use Rattle.page_body.specs.View.{PoolTerms, PoolView}
use Rattle.page_body.specs.Shows.{IsOpen}
use Rattle.page_body.specs.Refusals.{CallFails}
use Rattle.page_body.proofs.Causes.{call_fails}
use Rattle.number_bags.proofs.Bags.{one_same}
use Rattle.page_body.specs.declared.fault.PoolFault.{PoolFault}
use Rattle.page_body.specs.declared.open.OpenPage.{OpenPage}
use Rattle.row_image.specs.declared.image.ImageKind.{ImageKind}
use Rattle.page_body.specs.PageLists.{ids_of, Differ, AllLive}
use Rattle.row_sets.specs.Holds.{Holding, nothing, both, SameHolding, Unpinned, IsRetirable}
use Rattle.row_sets.specs.Changes.{Changes}
use Rattle.row_sets.specs.SetRows.{cell_kinds}
use Rattle.row_sets.specs.Sets.{IsHere, Formed, set_ids, with_heap, pages_in, lists_in, joined, AllSetPages}
use Rattle.row_sets.specs.Cells.{text_columns, long_total}
use Rattle.row_sets.specs.Packed.{IsPacked, fill_of, fills_in, rows_in, used_in}
use Rattle.row_image.specs.Layout.{rows_that_fit}
use Rattle.row_sets.specs.Writers.{Writing, IsWriterHere, IsOpenRows, IsWhole, IsBase, IsThere, writer_holding, writer_ids, written_pages, written_cells, open_list, open_in, count_open, used_heaps, heaps_now, NoHeaps}
use Rattle.row_sets.specs.Given.{IsNewWriter, set_given, open_holding}
use Rattle.row_sets.specs.declared.row_set.RowSet.{RowSet}
use Rattle.row_sets.specs.declared.writer.Writer.{Writer}
use Rattle.row_image.specs.declared.image.ImageKind.TheVariants.{Rows, Heap}
use Rattle.row_sets.proofs.Changed.{changes_as, changes_then, changes_beside, live_on, unpinned_on}
use Rattle.row_sets.proofs.Stays.{set_stays, HasNoPins}

empty_packed : (fit room : ℕ) → IsPacked (record { fit = fit; room = room; done = []; rows = 0; sealed = 0; used = 0; long = 0; asked = 0 })
empty_packed fit room = record { spent = tt; added = omega arith; few = omega arith; texts = omega arith; paid = omega arith; ready = λ takes. omega arith }

module _ {Page Pin : Type 0} (t : PoolTerms Page Pin) (kinds : List SqlType) (page_bytes : ℕ) (w : Writer Page) (new : IsNewWriter kinds page_bytes w) where
  pub no_pages : written_pages w ≡ []
  no_pages =
      ap (λ o. with_heap o (with_heap w.heap1 (with_heap w.heap2 (with_heap w.heap3 (pages_in w.pages.items))))) new.heap0
      ∙ ap (λ o. with_heap o (with_heap w.heap2 (with_heap w.heap3 (pages_in w.pages.items)))) new.heap1
      ∙ ap (λ o. with_heap o (with_heap w.heap3 (pages_in w.pages.items))) new.heap2
      ∙ ap (λ o. with_heap o (pages_in w.pages.items)) new.heap3
      ∙ ap pages_in new.pages

  no_ids : (y : ℕ) → writer_ids t w y ≡ 0
  no_ids y = ap (λ ps. ids_of t ps y) no_pages

  no_opens : (y : ℕ) → open_in w.open_rows y + open_in w.open_heap y ≡ 0
  no_opens y = let e = ap (λ o. open_in o y) new.open_rows in let f = ap (λ o. open_in o y) new.open_heap in omega (arith, e, f)

  pub new_holding : SameHolding (writer_holding t w) nothing
  new_holding = record {
    pages = no_ids;
    pins = λ y. refl;
    opens = no_opens;
    held = let e = ap count_open new.open_rows in let f = ap count_open new.open_heap in omega (arith, e, f);
  }

  pub new_rows : written_cells t w ≡ []
  new_rows = ap (λ ps. joined (lists_in t w.layout ps) ++ open_list w.layout (heaps_now t w) w.open_rows) new.pages ∙ ap (λ o. open_list w.layout (heaps_now t w) o) new.open_rows

  new_fill : fill_of w ≡ record { fit = rows_that_fit w.layout w.page_bytes; room = w.page_bytes - 64; done = []; rows = 0; sealed = 0; used = 0; long = 0; asked = 0 }
  new_fill =
      let done = ap fills_in new.pages in
      let rows = ap rows_in new.open_rows in
      let used = ap used_in new.open_heap in
      (λ i. record { fit = rows_that_fit w.layout w.page_bytes; room = w.page_bytes - 64; done = done i; rows = rows i; sealed = new.sealed_heaps i; used = used i; long = new.long i; asked = new.asked i })

  pub new_writing : 1 ≤ length kinds → length kinds ≤ 65 → text_columns (cell_kinds kinds) ≤ 64 → IsPage page_bytes → Writing t w
  new_writing some few texts page = record {
    packs = record { packed = subst IsPacked (sym new_fill) (empty_packed (rows_that_fit w.layout w.page_bytes) (w.page_bytes - 64)) };
    columns = record {
      layout_is = new.layout_is ∙ sym (ap cell_kinds new.kinds_are);
      some = let e = ap length new.kinds_are in omega (arith, e, some);
      few = let e = ap length new.kinds_are in omega (arith, e, few);
      texts = let e = ap text_columns new.layout_is in omega (arith, e, texts);
    };
    is_page = subst IsPage (sym new.page) page;
    pages = subst (λ ps. AllSetPages t w.layout w.page_bytes ps) (sym new.pages) tt;
    open_rows = subst (λ o. IfSome o (IsOpenRows w.layout w.page_bytes (used_heaps w) w.first_heap (heaps_now t w))) (sym new.open_rows) tt;
    open_heap = subst (λ o. IfSome o (IsWhole Heap w.page_bytes)) (sym new.open_heap) tt;
    base = subst (λ o. IsBase w.page_bytes w.sealed_heaps o w.open_heap) (sym new.open_rows) tt;
    filled = let z = new.sealed_heaps in (
      subst (λ o. IsThere o 0 w.sealed_heaps) (sym new.heap0) (omega (arith, z)),
      subst (λ o. IsThere o 1 w.sealed_heaps) (sym new.heap1) (omega (arith, z)),
      subst (λ o. IsThere o 2 w.sealed_heaps) (sym new.heap2) (omega (arith, z)),
      subst (λ o. IsThere o 3 w.sealed_heaps) (sym new.heap3) (omega (arith, z)),
    );
    heap_kinds = (
      subst (λ o. IfSome o (λ p. t.kind p ≡ Heap)) (sym new.heap0) tt,
      subst (λ o. IfSome o (λ p. t.kind p ≡ Heap)) (sym new.heap1) tt,
      subst (λ o. IfSome o (λ p. t.kind p ≡ Heap)) (sym new.heap2) tt,
      subst (λ o. IfSome o (λ p. t.kind p ≡ Heap)) (sym new.heap3) tt,
    );
    most = let z = new.sealed_heaps in let e = ap count_open new.open_heap in omega (arith, z, e);
    low = let z = new.first_heap in omega (arith, z);
    waits = subst (λ o. NoHeaps o w.sealed_heaps w.open_heap) (sym new.open_rows) (new.sealed_heaps, new.open_heap);
    differ = λ ends y. let e = no_ids y in omega (arith, e);
    counted = new.rows ∙ sym (ap length new_rows);
    long = new.long ∙ sym (ap long_total new_rows);
    few_rows = let e = new.rows in omega (arith, e);
    few_long = let e = new.long in omega (arith, e);
  }

  pub new_here : (a : PoolView Page Pin) → page_bytes ≡ a.page_bytes → IsWriterHere t a w
  new_here a page = record {
    page_bytes = new.page ∙ page;
    live = subst (AllLive a) (sym no_pages) tt;
    owned = record { pins = λ y. omega arith; opens = λ y. let e = no_opens y in omega (arith, e) };
    unpinned = λ ends y some. let e = no_ids y in absurd (omega (arith, e, some));
  }

  pub new_apart : (set : RowSet Page) → Differ t (set_ids t set) → Differ t (λ y. set_ids t set y + writer_ids t w y)
  new_apart set differ = λ ends y. let m = differ ends y in let e = no_ids y in omega (arith, m, e)

-- what a result gives
module _ {Page Pin : Type 0} (t : PoolTerms Page Pin) where
  pub given_has_no_pins : (r : Result (RowSet Page) PoolFault) → HasNoPins (set_given t r)
  given_has_no_pins (Err fault) = record { none = λ y. refl }
  given_has_no_pins (Ok set) = record { none = λ y. refl }

  pub given_differs : (r : Result (RowSet Page) PoolFault) → IfOk r (Formed t) → Differ t (set_given t r).pages
  given_differs (Err fault) formed = λ ends y. omega arith
  given_differs (Ok set) formed = formed.differ

  pub given_here : (r : Result (RowSet Page) PoolFault) (h : Holding) (b c : PoolView Page Pin) → Changes t h nothing b c → Differ t (λ y. h.pages y + (set_given t r).pages y) → IfOk r (IsHere b) → IfOk r (IsHere c)
  given_here (Err fault) h b c ch differ here = tt
  given_here (Ok set) h b c ch differ here = set_stays t set h nothing b c ch (λ ends y. let m = differ ends y in omega (arith, m)) here

  pub given_unpinned : (r : Result (RowSet Page) PoolFault) (h : Holding) (b c : PoolView Page Pin) → Changes t h nothing b c → HasNoPins h → IfOk r (λ set. Unpinned t b (set_ids t set)) → IfOk r (λ set. Unpinned t c (set_ids t set))
  given_unpinned (Err fault) h b c ch bare unpinned = tt
  given_unpinned (Ok set) h b c ch bare unpinned = unpinned_on t (set_ids t set) h nothing b c ch bare.none (λ y. refl) unpinned

pub fails_later : {X : Type 0} (r : Result X PoolFault) (told : Bool) (first now last : ℕ) → now ≤ last → IfErr r (CallFails told first now) → IfErr r (CallFails told first last)
fails_later (Err fault) told first now last more cause = call_fails told first first now last fault cause (omega arith) more
fails_later (Ok x) told first now last more cause = tt

-- a call that gives beside what is then used up
module _ {Page Pin : Type 0} (t : PoolTerms Page Pin) where
  pub then_gone : (h k : Holding) (a b c : PoolView Page Pin) → Changes t nothing k a b → Changes t h nothing b c → Changes t h k a c
  then_gone h k a b c first second =
      changes_then t h (both k h) k a b c
      (changes_as t (both nothing h) h (both k h) (both k h) a b
      (record { pages = λ y. omega arith; pins = λ y. omega arith; opens = λ y. omega arith; held = omega arith })
      (record { pages = λ y. refl; pins = λ y. refl; opens = λ y. refl; held = refl })
      (changes_beside t nothing k h a b first))
      (changes_as t (both h k) (both k h) (both nothing k) k b c
      (record { pages = λ y. omega arith; pins = λ y. omega arith; opens = λ y. omega arith; held = omega arith })
      (record { pages = λ y. omega arith; pins = λ y. omega arith; opens = λ y. omega arith; held = omega arith })
      (changes_beside t h nothing k b c second))

  -- one value that is used up after another
  pub gone_then : (h k : Holding) (a b c : PoolView Page Pin) → Changes t h nothing a b → Changes t k nothing b c → Changes t (both h k) nothing a c
  gone_then h k a b c first second =
      changes_then t (both h k) k nothing a b c
      (changes_as t (both h k) (both h k) (both nothing k) k a b
      (record { pages = λ y. refl; pins = λ y. refl; opens = λ y. refl; held = refl })
      (record { pages = λ y. omega arith; pins = λ y. omega arith; opens = λ y. omega arith; held = omega arith })
      (changes_beside t h nothing k a b first))
      second

  pub open_same : (o : Option OpenPage) (y : ℕ) → (open_holding o).opens y ≡ open_in o y
  open_same None y = refl
  open_same (Some page) y = refl

  pub open_pages : (o : Option OpenPage) (y : ℕ) → (open_holding o).pages y ≡ 0
  open_pages None y = refl
  open_pages (Some page) y = refl

  pub open_pins : (o : Option OpenPage) (y : ℕ) → (open_holding o).pins y ≡ 0
  open_pins None y = refl
  open_pins (Some page) y = refl

  pub open_held : (o : Option OpenPage) → (open_holding o).held ≡ count_open o
  open_held None = refl
  open_held (Some page) = refl

  -- the pages of a writer are retirable after its open pages were given up
  pub retirable_after : (ps : List Page) (o : Option OpenPage) (a b : PoolView Page Pin) → Changes t (open_holding o) nothing a b → IsRetirable t a ps → IsRetirable t b ps
  retirable_after ps o a b c r = record {
    live = live_on t ps (open_holding o) nothing a b c r.live (λ ends y. let m = r.differ ends y in let z = open_pages o y in omega (arith, m, z));
    differ = r.differ;
    unpinned = unpinned_on t (ids_of t ps) (open_holding o) nothing a b c (open_pins o) (λ y. refl) r.unpinned;
  }

  pub is_open : (kind : ImageKind) (o : Option OpenPage) (n : ℕ) (a : PoolView Page Pin) → IfSome o (IsWhole kind n) → n ≡ a.page_bytes → ((y : ℕ) → open_in o y ≤ a.opens y) → IfSome o (IsOpen a)
  is_open kind None n a whole page owned = tt
  is_open kind (Some p) n a whole page owned = record {
    own = let one = one_same p.frame.number in let m = owned p.frame.number in omega (arith, one, m);
    long = whole.long ∙ page;
    number = whole.number;
  }

  pub rows_whole : (w : Writer Page) (o : Option OpenPage) → IfSome o (IsOpenRows w.layout w.page_bytes (used_heaps w) w.first_heap (heaps_now t w)) → IfSome o (IsWhole (Rows w.layout) w.page_bytes)
  rows_whole w None rows = tt
  rows_whole w (Some p) rows = rows.whole
