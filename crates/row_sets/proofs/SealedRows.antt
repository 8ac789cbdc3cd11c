-- A writer whose row page was sealed.
use Rattle.std.proofs.Common.{◌≡◌, ℕ, ◌+◌, ◌<◌, ◌≤◌, List, [], ◌∷◌, ◌++◌, length, map, Option, Some, None, refl, ap, sym, ◌∙◌, subst, arith, append_assoc}
use Rattle.std.proofs.lemmas.List.{append-nil}
use Rattle.std.specs.Prelude.{IsTrue, IfSome}
use Rattle.row_image.specs.declared.image.ImageKind.TheVariants.{Rows, Heap}
use Rattle.row_image.specs.Bytes.{IsPage}
use Rattle.row_image.specs.Flat.{flat}
use Rattle.row_image.specs.Image.{row_count}
use Rattle.row_image.specs.Layout.{rows_that_fit}
use Rattle.row_image.specs.Rules.{text_limit}
use Rattle.row_image.proofs.AcceptedLemmas.{sound_of}
use Rattle.page_body.specs.View.{PoolTerms, PoolView}
use Rattle.number_bags.specs.Bags.{one_of}
use Rattle.page_body.specs.declared.open.OpenPage.{OpenPage}
use Rattle.rebase_pins.specs.Rows.{page_rows, content_or_none, rows_of_page}
use Rattle.page_body.specs.PageLists.{ids_of, Differ, AllLive}
use Rattle.row_sets.specs.Holds.{Holding, both, an_open, a_page}
use Rattle.row_sets.specs.Changes.{Changes}
use Rattle.row_image.specs.declared.layout.CellKind.{CellKind}
use Rattle.rebase_pins.proofs.Values.{seen_long}
use Rattle.row_sets.specs.Cells.{AllFit, long_total}
use Rattle.row_sets.specs.Sets.{with_heap, pages_in, page_list, lists_in, joined, IsSetPage, AllSetPages, AreColumns}
use Rattle.row_sets.specs.Writers.{Written, IsWriterHere, IsThere, IsBase, IsOpenRows, IsWhole, heaps_now, content_else, if_at, bytes_of, open_in, count_open, used_heaps, open_list, written_cells, written_pages, writer_ids, writer_holding, NoHeaps}
use Rattle.row_sets.specs.Closing.{IsWithRows, IsClosed}
use Rattle.row_sets.specs.declared.row_set.SetPage.{SetPage}
use Rattle.row_sets.specs.declared.writer.Writer.{Writer}
use Rattle.row_sets.proofs.Changed.{changes_as, changes_beside, live_on}
use Rattle.row_sets.proofs.Retired.{ids_append, pages_push}
use Rattle.row_sets.proofs.Sealing.{if_at_none, four_ids, there_below}
use Rattle.row_sets.proofs.SealedHere.{more_differ, more_unpinned}

no_open : (o : Option OpenPage) → count_open o ≡ 0 → o ≡ None
no_open None zero = refl
no_open (Some page) zero = absurd (omega (arith, zero))

module _ {Page Pin : Type 0} (t : PoolTerms Page Pin) where
  slot_content : (k s : ℕ) (o : Option Page) (h : Option OpenPage) → h ≡ None → content_or_none t o ≡ content_else t o (if_at k s (bytes_of h))
  slot_content k s None h none = sym (ap (λ z. if_at k s (bytes_of z)) none ∙ if_at_none k s)
  slot_content k s (Some p) h none = refl

  all_push : (kinds : List CellKind) (n : ℕ) (ps : List (SetPage Page)) (x : SetPage Page) → AllSetPages t kinds n ps → IsSetPage t kinds n x → AllSetPages t kinds n (ps ++ x ∷ [])
  all_push kinds n [] x all one = (one, tt)
  all_push kinds n (p ∷ ps) x all one = (all.0, all_push kinds n ps x all.1 one)

  lists_push : (kinds : List CellKind) (ps : List (SetPage Page)) (x : SetPage Page) → joined (lists_in t kinds (ps ++ x ∷ [])) ≡ joined (lists_in t kinds ps) ++ rows_of_page t kinds x.page
  lists_push kinds [] x = append-nil (rows_of_page t kinds x.page)
  lists_push kinds (p ∷ ps) x = ap (λ z. rows_of_page t kinds p.page ++ z) (lists_push kinds ps x) ∙ sym (append_assoc (rows_of_page t kinds p.page) (joined (lists_in t kinds ps)) (rows_of_page t kinds x.page))

  live_join : (a : PoolView Page Pin) (ps qs : List Page) → AllLive a ps → AllLive a qs → AllLive a (ps ++ qs)
  live_join a [] qs left right = right
  live_join a (p ∷ ps) qs left right = (left.0, live_join a ps qs left.1 right)

  -- the four places before the other pages, and behind them
  live_turn : (a : PoolView Page Pin) (h0 h1 h2 h3 : Option Page) (ps : List Page) → AllLive a (with_heap h0 (with_heap h1 (with_heap h2 (with_heap h3 ps)))) → AllLive a ps × AllLive a (with_heap h0 (with_heap h1 (with_heap h2 (with_heap h3 []))))
  live_turn a None None None None ps all = (all, tt)
  live_turn a None None None (Some d) ps all = (all.1, (all.0, tt))
  live_turn a None None (Some c) None ps all = (all.1, (all.0, tt))
  live_turn a None None (Some c) (Some d) ps all = (all.1.1, (all.0, (all.1.0, tt)))
  live_turn a None (Some b) None None ps all = (all.1, (all.0, tt))
  live_turn a None (Some b) None (Some d) ps all = (all.1.1, (all.0, (all.1.0, tt)))
  live_turn a None (Some b) (Some c) None ps all = (all.1.1, (all.0, (all.1.0, tt)))
  live_turn a None (Some b) (Some c) (Some d) ps all = (all.1.1.1, (all.0, (all.1.0, (all.1.1.0, tt))))
  live_turn a (Some p) None None None ps all = (all.1, (all.0, tt))
  live_turn a (Some p) None None (Some d) ps all = (all.1.1, (all.0, (all.1.0, tt)))
  live_turn a (Some p) None (Some c) None ps all = (all.1.1, (all.0, (all.1.0, tt)))
  live_turn a (Some p) None (Some c) (Some d) ps all = (all.1.1.1, (all.0, (all.1.0, (all.1.1.0, tt))))
  live_turn a (Some p) (Some b) None None ps all = (all.1.1, (all.0, (all.1.0, tt)))
  live_turn a (Some p) (Some b) None (Some d) ps all = (all.1.1.1, (all.0, (all.1.0, (all.1.1.0, tt))))
  live_turn a (Some p) (Some b) (Some c) None ps all = (all.1.1.1, (all.0, (all.1.0, (all.1.1.0, tt))))
  live_turn a (Some p) (Some b) (Some c) (Some d) ps all = (all.1.1.1.1, (all.0, (all.1.0, (all.1.1.0, (all.1.1.1.0, tt)))))

  module _ (w w2 : Writer Page) (p : OpenPage) (page : Page) (n : ℕ) (no_heap : w.open_heap ≡ None) (is_rows : w.open_rows ≡ Some p) (k : IsWithRows page n w w2) (none : w2.open_rows ≡ None) (writing : Written t w) (content : t.content page ≡ flat (Rows w.layout) p.frame.bytes.items) (kind : t.kind page ≡ Rows w.layout) (n_is : n ≡ row_count p.frame.bytes.items) (some_row : 0 < row_count p.frame.bytes.items) where
    current : IsOpenRows w.layout w.page_bytes (used_heaps w) w.first_heap (heaps_now t w) p
    current = subst (λ o. IfSome o (IsOpenRows w.layout w.page_bytes (used_heaps w) w.first_heap (heaps_now t w))) is_rows writing.open_rows

    abbrev one : SetPage Page
    one = record { page = record { rows = page; heap0 = w.heap0; heap1 = w.heap1; heap2 = w.heap2; heap3 = w.heap3 }; rows = n }

    contents : map (content_or_none t) (w.heap0 ∷ w.heap1 ∷ w.heap2 ∷ w.heap3 ∷ []) ≡ heaps_now t w
    contents =
        let s = w.sealed_heaps in
        let e0 = slot_content 0 s w.heap0 w.open_heap no_heap in
        let e1 = slot_content 1 s w.heap1 w.open_heap no_heap in
        let e2 = slot_content 2 s w.heap2 w.open_heap no_heap in
        let e3 = slot_content 3 s w.heap3 w.open_heap no_heap in
        λ i. e0 i ∷ e1 i ∷ e2 i ∷ e3 i ∷ []

    list_is : rows_of_page t w.layout one.page ≡ open_list w.layout (heaps_now t w) (Some p)
    list_is =
        ap (λ z. page_rows w.layout z (map (content_or_none t) (w.heap0 ∷ w.heap1 ∷ w.heap2 ∷ w.heap3 ∷ []))) content
        ∙ ap (λ z. page_rows w.layout (flat (Rows w.layout) p.frame.bytes.items) z) contents

    set_page : IsSetPage t w.layout w.page_bytes one
    set_page = record {
      formed = let h = writing.heap_kinds in record { rows = kind; heap0 = h.0; heap1 = h.1; heap2 = h.2; heap3 = h.3 };
      counted = n_is ∙ sym (seen_long w.layout p.frame.bytes.items (subst IsPage (sym current.whole.long) writing.is_page) current.whole.accepted (heaps_now t w)) ∙ ap length (sym list_is);
      some = omega (arith, n_is, some_row);
      few = let sound = sound_of w.layout p.frame.bytes.items current.whole.accepted in let m = subst (λ z. row_count p.frame.bytes.items ≤ rows_that_fit w.layout z) current.whole.long sound.rows in omega (arith, n_is, m);
      fit = subst (AllFit w.layout (text_limit w.page_bytes)) (sym list_is) current.fit;
    }

    pub page_rows_same : written_cells t w2 ≡ written_cells t w
    page_rows_same =
        ap (λ z. joined (lists_in t z w2.pages.items) ++ open_list z (heaps_now t w2) w2.open_rows) k.layout
        ∙ ap (λ z. joined (lists_in t w.layout z) ++ open_list w.layout (heaps_now t w2) w2.open_rows) k.items
        ∙ ap (λ z. joined (lists_in t w.layout (w.pages.items ++ one ∷ [])) ++ open_list w.layout (heaps_now t w2) z) none
        ∙ append-nil (joined (lists_in t w.layout (w.pages.items ++ one ∷ [])))
        ∙ lists_push w.layout w.pages.items one
        ∙ ap (λ z. joined (lists_in t w.layout w.pages.items) ++ z) list_is
        ∙ ap (λ z. joined (lists_in t w.layout w.pages.items) ++ open_list w.layout (heaps_now t w) z) (sym is_rows)

    pages_now : written_pages w2 ≡ pages_in w.pages.items ++ page_list one.page
    pages_now =
        ap (λ o. with_heap o (with_heap w2.heap1 (with_heap w2.heap2 (with_heap w2.heap3 (pages_in w2.pages.items))))) k.heap0
        ∙ ap (λ o. with_heap o (with_heap w2.heap2 (with_heap w2.heap3 (pages_in w2.pages.items)))) k.heap1
        ∙ ap (λ o. with_heap o (with_heap w2.heap3 (pages_in w2.pages.items))) k.heap2
        ∙ ap (λ o. with_heap o (pages_in w2.pages.items)) k.heap3
        ∙ ap pages_in k.items
        ∙ pages_push w.pages.items one

    ids_now : (y : ℕ) → writer_ids t w2 y ≡ writer_ids t w y + one_of (t.id page) y
    ids_now y =
        let e = ap (λ ps. ids_of t ps y) pages_now in
        let f = ids_append t (pages_in w.pages.items) (page_list one.page) y in
        let a = four_ids t w.heap0 w.heap1 w.heap2 w.heap3 [] y in
        let b = four_ids t w.heap0 w.heap1 w.heap2 w.heap3 (pages_in w.pages.items) y in
        omega (arith, e, f, a, b)

    pub page_writing : Differ t (writer_ids t w2) → Written t w2
    page_writing differ =
        let z = k.sealed_heaps in
        record {
          packs = tt;
          columns = subst (λ z. AreColumns z w2.layout) (sym k.kinds) (subst (AreColumns w.kinds) (sym k.layout) writing.columns);
          is_page = subst IsPage (sym k.page_bytes) writing.is_page;
          pages = subst (λ l. AllSetPages t w2.layout w2.page_bytes l) (sym k.items) (subst (λ m. AllSetPages t w2.layout m (w.pages.items ++ one ∷ [])) (sym k.page_bytes) (subst (λ l. AllSetPages t l w.page_bytes (w.pages.items ++ one ∷ [])) (sym k.layout) (all_push w.layout w.page_bytes w.pages.items one writing.pages set_page)));
          open_rows = subst (λ o. IfSome o (IsOpenRows w2.layout w2.page_bytes (used_heaps w2) w2.first_heap (heaps_now t w2))) (sym none) tt;
          open_heap = subst (λ o. IfSome o (IsWhole Heap w2.page_bytes)) (sym (k.open_heap ∙ no_heap)) tt;
          base = subst (λ o. IsBase w2.page_bytes w2.sealed_heaps o w2.open_heap) (sym none) tt;
          filled = (
            subst (λ o. IsThere o 0 w2.sealed_heaps) (sym k.heap0) (omega (arith, z)),
            subst (λ o. IsThere o 1 w2.sealed_heaps) (sym k.heap1) (omega (arith, z)),
            subst (λ o. IsThere o 2 w2.sealed_heaps) (sym k.heap2) (omega (arith, z)),
            subst (λ o. IsThere o 3 w2.sealed_heaps) (sym k.heap3) (omega (arith, z)),
          );
          heap_kinds = (
            subst (λ o. IfSome o (λ p. t.kind p ≡ Heap)) (sym k.heap0) tt,
            subst (λ o. IfSome o (λ p. t.kind p ≡ Heap)) (sym k.heap1) tt,
            subst (λ o. IfSome o (λ p. t.kind p ≡ Heap)) (sym k.heap2) tt,
            subst (λ o. IfSome o (λ p. t.kind p ≡ Heap)) (sym k.heap3) tt,
          );
          most = let e = ap count_open (k.open_heap ∙ no_heap) in omega (arith, z, e);
          low = k.low;
          waits = subst (λ o. NoHeaps o w2.sealed_heaps w2.open_heap) (sym none) (z, k.open_heap ∙ no_heap);
          differ = differ;
          counted = k.rows_are ∙ writing.counted ∙ sym (ap length page_rows_same);
          long = k.long_is ∙ writing.long ∙ sym (ap long_total page_rows_same);
          few_rows = let e = k.rows_are in let f = writing.few_rows in omega (arith, e, f);
          few_long = let e = k.long_is in let f = writing.few_long in omega (arith, e, f);
        }

    module _ (a b : PoolView Page Pin) (c : Changes t (an_open p.frame.number) (a_page (t.id page)) a b) (live : b.live page) (fresh : IsTrue t.ends_lives → b.pins (t.id page) ≡ 0) (here : IsWriterHere t a w) where
      opens_now : (y : ℕ) → open_in w.open_rows y ≡ one_of p.frame.number y
      opens_now y = ap (λ o. open_in o y) is_rows

      pub page_differ : Differ t (writer_ids t w2)
      page_differ = λ ends y. let e = ids_now y in let m = more_differ t (written_pages w) page p.frame.number a b c here.live writing.differ ends y in omega (arith, e, m)

      pub page_here : IsWriterHere t b w2
      page_here = record {
        page_bytes = k.page_bytes ∙ here.page_bytes ∙ sym c.page_bytes;
        live =
            let all = live_on t (written_pages w) (an_open p.frame.number) (a_page (t.id page)) a b c here.live (λ ends y. let m = writing.differ ends y in omega (arith, m)) in
            let parts = live_turn b w.heap0 w.heap1 w.heap2 w.heap3 (pages_in w.pages.items) all in
            subst (AllLive b) (sym pages_now) (live_join b (pages_in w.pages.items) (page_list one.page) parts.0 (live, parts.1));
        owned = record {
          pins = λ y. omega arith;
          opens = λ y. let e = ap (λ o. open_in o y) none in let f = ap (λ o. open_in o y) (k.open_heap ∙ no_heap) in omega (arith, e, f);
        };
        unpinned = λ ends y some. let e = ids_now y in more_unpinned t (writer_ids t w) page p.frame.number a b c here.unpinned fresh ends y (omega (arith, e, some));
      }

      pub page_changes : Changes t (writer_holding t w) (writer_holding t w2) a b
      page_changes =
          let rest : Holding = record { pages = writer_ids t w; pins = λ y. 0; opens = λ y. 0; held = 0 } in
          changes_as t (both (an_open p.frame.number) rest) (writer_holding t w) (both (a_page (t.id page)) rest) (writer_holding t w2) a b
          (record {
            pages = λ y. omega arith;
            pins = λ y. refl;
            opens = λ y. let e = opens_now y in let f = ap (λ o. open_in o y) no_heap in omega (arith, e, f);
            held = let e = ap count_open is_rows in let f = ap count_open no_heap in omega (arith, e, f);
          })
          (record {
            pages = λ y. let e = ids_now y in omega (arith, e);
            pins = λ y. refl;
            opens = λ y. let e = ap (λ o. open_in o y) none in let f = ap (λ o. open_in o y) (k.open_heap ∙ no_heap) in omega (arith, e, f);
            held = let e = ap count_open none in let f = ap count_open (k.open_heap ∙ no_heap) in omega (arith, e, f);
          })
          (changes_beside t (an_open p.frame.number) (a_page (t.id page)) rest a b c)

  -- with a list of the same pages
  pub here_pages : (w w' : Writer Page) (b : PoolView Page Pin) → w'.pages.items ≡ w.pages.items → IsWriterHere t b w → IsWriterHere t b (record w { pages = w'.pages })
  here_pages w w' b e here = record {
    page_bytes = here.page_bytes;
    live = subst (λ l. AllLive b (with_heap w.heap0 (with_heap w.heap1 (with_heap w.heap2 (with_heap w.heap3 (pages_in l)))))) (sym e) here.live;
    owned = record { pins = here.owned.pins; opens = here.owned.opens };
    unpinned = λ ends y some. here.unpinned ends y (subst (λ l. 1 ≤ ids_of t (with_heap w.heap0 (with_heap w.heap1 (with_heap w.heap2 (with_heap w.heap3 (pages_in l))))) y) e some);
  }

  -- a writer without open pages
  pub is_closed : (w w' : Writer Page) (dest : Option OpenPage) → w.open_rows ≡ None → dest ≡ None → Written t w → IsClosed (record w { pages = w'.pages; open_rows = dest })
  is_closed w w' dest rows gone writing =
      let f = writing.filled in
      let waits : (w.sealed_heaps ≡ 0) × (w.open_heap ≡ None) = subst (λ o. NoHeaps o w.sealed_heaps w.open_heap) rows writing.waits in
      let zero = waits.0 in
      record {
        open_rows = gone;
        open_heap = waits.1;
        heap0 = there_below w.heap0 0 w.sealed_heaps f.0 (omega (arith, zero));
        heap1 = there_below w.heap1 1 w.sealed_heaps f.1 (omega (arith, zero));
        heap2 = there_below w.heap2 2 w.sealed_heaps f.2 (omega (arith, zero));
        heap3 = there_below w.heap3 3 w.sealed_heaps f.3 (omega (arith, zero));
      }
