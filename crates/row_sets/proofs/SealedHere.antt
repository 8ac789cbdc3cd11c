-- A writer's place in a pool after it sealed a page, and the set of a writer that is closed.
use Rattle.std.proofs.Common.{◌≡◌, ℕ, ◌+◌, ◌≤◌, Bool, true, false, List, [], ◌∷◌, ◌++◌, length, Option, Some, None, refl, ap, sym, ◌∙◌, subst, arith, inl, inr}
use Rattle.std.specs.Prelude.{IsTrue, IfSome, nat_lt, if◌then◌else◌}
use Rattle.page_body.specs.View.{PoolTerms, PoolView}
use Rattle.number_bags.specs.Bags.{one_of}
use Rattle.number_bags.proofs.Bags.{one_other, one_most}
use Rattle.page_body.specs.declared.open.OpenPage.{OpenPage}
use Rattle.page_body.specs.PageLists.{ids_of, Differ, AllLive}
use Rattle.row_sets.specs.Packed.{Fill, IsPacked, fill_of, closed_fill, sealed_fill}
use Rattle.row_sets.specs.Holds.{Holding, both, an_open, a_page, SameHolding, Unpinned}
use Rattle.row_sets.specs.Changes.{Changes}
use Rattle.row_sets.specs.Cells.{long_total}
use Rattle.row_sets.specs.Sets.{with_heap, pages_in, lists_in, joined, set_cells, set_ids, set_pages, set_holding, Formed}
use Rattle.row_sets.specs.Writers.{Written, IsWriterHere, heaps_now, open_in, count_open, open_list, written_cells, written_pages, writer_ids, writer_holding}
use Rattle.row_sets.specs.Closing.{put_at, with_sealed, IsClosed, closed_set}
use Rattle.row_sets.specs.declared.writer.Writer.{Writer}
use Rattle.row_sets.proofs.Changed.{same_or, changes_as, changes_beside, differ_on, live_on}
use Rattle.row_sets.proofs.Few.{few_pages}
use Rattle.row_sets.proofs.RowPuts.{layout_few}
use Rattle.row_sets.proofs.Sealing.{sealed_ids}

module _ {Page Pin : Type 0} (t : PoolTerms Page Pin) where
  live_with : (a : PoolView Page Pin) (o : Option Page) (ps : List Page) → IfSome o (λ p. a.live p) → AllLive a ps → AllLive a (with_heap o ps)
  live_with a None ps live all = all
  live_with a (Some p) ps live all = (live, all)

  live_one : (a : PoolView Page Pin) (o : Option Page) (ps : List Page) → AllLive a (with_heap o ps) → IfSome o (λ p. a.live p)
  live_one a None ps all = tt
  live_one a (Some p) ps all = all.0

  live_rest : (a : PoolView Page Pin) (o : Option Page) (ps : List Page) → AllLive a (with_heap o ps) → AllLive a ps
  live_rest a None ps all = all
  live_rest a (Some p) ps all = all.1

  live_either : (a : PoolView Page Pin) (b c : Bool) (o : Option Page) (page : Page) → a.live page → IfSome o (λ p. a.live p) → IfSome (if b then o else (if c then o else Some page)) (λ p. a.live p)
  live_either a true c o page live old = old
  live_either a false true o page live old = old
  live_either a false false o page live old = live

  sealed_live : (w : Writer Page) (page : Page) (a : PoolView Page Pin) → a.live page → AllLive a (written_pages w) → AllLive a (written_pages (with_sealed w page))
  sealed_live w page a live all =
      let s = w.sealed_heaps in
      let ps = pages_in w.pages.items in
      let l3 = with_heap w.heap3 ps in
      let l2 = with_heap w.heap2 l3 in
      let l1 = with_heap w.heap1 l2 in
      let a1 = live_rest a w.heap0 l1 all in
      let a2 = live_rest a w.heap1 l2 a1 in
      let a3 = live_rest a w.heap2 l3 a2 in
      let a4 = live_rest a w.heap3 ps a3 in
      let n3 = with_heap (put_at 3 s w.heap3 page) ps in
      let n2 = with_heap (put_at 2 s w.heap2 page) n3 in
      let n1 = with_heap (put_at 1 s w.heap1 page) n2 in
      live_with a (put_at 0 s w.heap0 page) n1 (live_either a (nat_lt 0 s) (nat_lt s 0) w.heap0 page live (live_one a w.heap0 l1 all))
      (live_with a (put_at 1 s w.heap1 page) n2 (live_either a (nat_lt 1 s) (nat_lt s 1) w.heap1 page live (live_one a w.heap1 l2 a1))
      (live_with a (put_at 2 s w.heap2 page) n3 (live_either a (nat_lt 2 s) (nat_lt s 2) w.heap2 page live (live_one a w.heap2 l3 a2))
      (live_with a (put_at 3 s w.heap3 page) ps (live_either a (nat_lt 3 s) (nat_lt s 3) w.heap3 page live (live_one a w.heap3 ps a3)) a4)))

  -- a bag of numbers with one more page, where the page is new
  pub more_differ : (ps : List Page) (page : Page) (x : ℕ) (a b : PoolView Page Pin) → Changes t (an_open x) (a_page (t.id page)) a b → AllLive a ps → Differ t (ids_of t ps) → Differ t (λ y. ids_of t ps y + one_of (t.id page) y)
  more_differ ps page x a b c live differ = differ_on t ps (an_open x) (a_page (t.id page)) a b c live (λ ends y. let m = differ ends y in omega (arith, m)) (λ ends y. one_most (t.id page) y)

  pub more_unpinned : (bag : ℕ → ℕ) (page : Page) (x : ℕ) (a b : PoolView Page Pin) → Changes t (an_open x) (a_page (t.id page)) a b → Unpinned t a bag → (IsTrue t.ends_lives → b.pins (t.id page) ≡ 0) → IsTrue t.ends_lives → (y : ℕ) → 1 ≤ bag y + one_of (t.id page) y → b.pins y ≡ 0
  more_unpinned bag page x a b c unpinned fresh ends y some = elim (same_or (t.id page) y) [
    | inl same ↦ subst (λ z. b.pins z ≡ 0) same (fresh ends)
    | inr other ↦ let none = one_other (t.id page) y (λ e. other (sym e)) in let p = c.pins y in let z = unpinned ends y (omega (arith, some, none)) in omega (arith, p, z)
  ]

  module _ (w : Writer Page) (p : OpenPage) (page : Page) (a b : PoolView Page Pin) (c : Changes t (an_open p.frame.number) (a_page (t.id page)) a b) (live : b.live page) (fresh : IsTrue t.ends_lives → b.pins (t.id page) ≡ 0) (writing : Written t (record w { open_heap = Some p })) (here : IsWriterHere t a (record w { open_heap = Some p })) where
    ids_now : (y : ℕ) → writer_ids t (with_sealed (record w { open_heap = None }) page) y ≡ writer_ids t w y + one_of (t.id page) y
    ids_now y = let f = writing.filled in let m = writing.most in sealed_ids t (record w { open_heap = None }) page y (omega (arith, m)) f.0 f.1 f.2 f.3

    pub heap_differ : Differ t (writer_ids t (with_sealed (record w { open_heap = None }) page))
    heap_differ = λ ends y. let e = ids_now y in let m = more_differ (written_pages w) page p.frame.number a b c here.live writing.differ ends y in omega (arith, e, m)

    pub heap_here : IsWriterHere t b (with_sealed (record w { open_heap = None }) page)
    heap_here = record {
      page_bytes = here.page_bytes ∙ sym c.page_bytes;
      live = sealed_live (record w { open_heap = None }) page b live (live_on t (written_pages w) (an_open p.frame.number) (a_page (t.id page)) a b c here.live (λ ends y. let m = writing.differ ends y in omega (arith, m)));
      owned = record {
        pins = λ y. omega arith;
        opens = λ y. let o = here.owned.opens y in let e = c.opens y in omega (arith, o, e);
      };
      unpinned = λ ends y some. let e = ids_now y in more_unpinned (writer_ids t w) page p.frame.number a b c here.unpinned fresh ends y (omega (arith, e, some));
    }

    pub heap_changes : Changes t (writer_holding t (record w { open_heap = Some p })) (writer_holding t (with_sealed (record w { open_heap = None }) page)) a b
    heap_changes =
        let rest : Holding = record { pages = writer_ids t w; pins = λ y. 0; opens = open_in w.open_rows; held = count_open w.open_rows } in
        changes_as t (both (an_open p.frame.number) rest) (writer_holding t (record w { open_heap = Some p })) (both (a_page (t.id page)) rest) (writer_holding t (with_sealed (record w { open_heap = None }) page)) a b
        (record { pages = λ y. omega arith; pins = λ y. refl; opens = λ y. omega arith; held = omega arith })
        (record { pages = λ y. let e = ids_now y in omega (arith, e); pins = λ y. refl; opens = λ y. omega arith; held = omega arith })
        (changes_beside t (an_open p.frame.number) (a_page (t.id page)) rest a b c)

-- the set of a writer that is closed
append_none : {X : Type 0} (xs : List X) → xs ++ [] ≡ xs
append_none [] = refl
append_none (x ∷ xs) = ap (λ z. x ∷ z) (append_none xs)

module _ {Page Pin : Type 0} (t : PoolTerms Page Pin) (w : Writer Page) (closed : IsClosed w) where
  pub closed_cells : written_cells t w ≡ set_cells t (closed_set w)
  closed_cells = ap (λ o. joined (lists_in t w.layout w.pages.items) ++ open_list w.layout (heaps_now t w) o) closed.open_rows ∙ append_none (joined (lists_in t w.layout w.pages.items))

  closed_pages : written_pages w ≡ set_pages (closed_set w)
  closed_pages =
      ap (λ o. with_heap o (with_heap w.heap1 (with_heap w.heap2 (with_heap w.heap3 (pages_in w.pages.items))))) closed.heap0
      ∙ ap (λ o. with_heap o (with_heap w.heap2 (with_heap w.heap3 (pages_in w.pages.items)))) closed.heap1
      ∙ ap (λ o. with_heap o (with_heap w.heap3 (pages_in w.pages.items))) closed.heap2
      ∙ ap (λ o. with_heap o (pages_in w.pages.items)) closed.heap3

  closed_ids : (y : ℕ) → writer_ids t w y ≡ set_ids t (closed_set w) y
  closed_ids y = ap (λ ps. ids_of t ps y) closed_pages

  -- where its pages were packed before it was closed
  pub closed_formed : (f : Fill) → Written t w → IsPacked f → fill_of w ≡ closed_fill (sealed_fill f) → Formed t (closed_set w)
  closed_formed f writing packed fill = record {
    columns = writing.columns;
    is_page = writing.is_page;
    pages = writing.pages;
    differ = λ ends y. let e = closed_ids y in let m = writing.differ ends y in omega (arith, m, e);
    counted = writing.counted ∙ ap length closed_cells;
    long = writing.long ∙ ap long_total closed_cells;
    few_rows = writing.few_rows;
    few_long = writing.few_long;
    asked = let l = ap (λ (g : Fill). g.long) fill in let a = ap (λ (g : Fill). g.asked) fill in let added = packed.added in omega (arith, l, a, added);
    packed = few_pages t w.layout w.page_bytes w.pages.items f w.rows w.asked_bytes writing.pages writing.is_page (layout_few w.kinds w.layout writing.columns) packed
        (sym (ap (λ (g : Fill). g.fit) fill)) (sym (ap (λ (g : Fill). g.room) fill)) (sym (ap (λ (g : Fill). g.asked) fill)) (ap (λ (g : Fill). g.done) fill) (writing.counted ∙ ap length closed_cells);
  }

  pub closed_unpinned : (a : PoolView Page Pin) → Unpinned t a (writer_ids t w) → Unpinned t a (set_ids t (closed_set w))
  closed_unpinned a unpinned = λ ends y some. let e = closed_ids y in unpinned ends y (omega (arith, e, some))

  pub closed_holding : SameHolding (writer_holding t w) (set_holding t (closed_set w))
  closed_holding = record {
    pages = closed_ids;
    pins = λ y. refl;
    opens = λ y. let e = ap (λ o. open_in o y) closed.open_rows in let f = ap (λ o. open_in o y) closed.open_heap in omega (arith, e, f);
    held = let e = ap count_open closed.open_rows in let f = ap count_open closed.open_heap in omega (arith, e, f);
  }
