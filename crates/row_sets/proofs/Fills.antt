-- A writer by how full its pages are, through the steps that change them.
use Rattle.std.proofs.Common.{◌≡◌, ℕ, ◌+◌, ◌-◌, ◌<◌, ◌≤◌, List, [], ◌∷◌, ◌++◌, Option, Some, None, refl, sym, ap, ◌∙◌, arith}
use Rattle.std.specs.Prelude.{if◌then◌else◌}
use Rattle.std.proofs.lemmas.Bool.{lt-ltb}
use Rattle.row_image.specs.Image.{row_count}
use Rattle.row_image.specs.Layout.{rows_that_fit}
use Rattle.page_body.specs.View.{PoolTerms}
use Rattle.page_body.specs.declared.open.OpenPage.{OpenPage}
use Rattle.row_sets.specs.Closing.{IsWithRows}
use Rattle.row_sets.specs.Packed.{PageFill, IsPacked, fill_of, fills_in, rows_in, used_in, count_page, heaps_of, closed_fill, closed_done}
use Rattle.row_sets.specs.Writers.{WritingWith, Writing, Written, IsThere}
use Rattle.row_sets.specs.declared.row_set.SetPage.{SetPage}
use Rattle.row_sets.specs.declared.writer.Writer.{Writer}

-- a writer's pages are sound, however they are filled
pub written : {Page Pin : Type 0} (More : Type 0) (t : PoolTerms Page Pin) (w : Writer Page) → WritingWith More t w → Written t w
written More t w writing = record {
  packs = tt;
  columns = writing.columns;
  is_page = writing.is_page;
  pages = writing.pages;
  open_rows = writing.open_rows;
  open_heap = writing.open_heap;
  base = writing.base;
  filled = writing.filled;
  heap_kinds = writing.heap_kinds;
  most = writing.most;
  low = writing.low;
  waits = writing.waits;
  differ = writing.differ;
  counted = writing.counted;
  long = writing.long;
  few_rows = writing.few_rows;
  few_long = writing.few_long;
}

-- and packed
pub with_packed : {Page Pin : Type 0} (t : PoolTerms Page Pin) (w : Writer Page) → Written t w → IsPacked (fill_of w) → Writing t w
with_packed t w writing packed = record {
  packs = record { packed = packed };
  columns = writing.columns;
  is_page = writing.is_page;
  pages = writing.pages;
  open_rows = writing.open_rows;
  open_heap = writing.open_heap;
  base = writing.base;
  filled = writing.filled;
  heap_kinds = writing.heap_kinds;
  most = writing.most;
  low = writing.low;
  waits = writing.waits;
  differ = writing.differ;
  counted = writing.counted;
  long = writing.long;
  few_rows = writing.few_rows;
  few_long = writing.few_long;
}

pub fills_push : {H : Type 0} (ps : List (SetPage H)) (x : SetPage H) → fills_in (ps ++ x ∷ []) ≡ fills_in ps ++ record { rows = x.rows; heaps = heaps_of x.page } ∷ []
fills_push [] x = refl
fills_push (p ∷ ps) x = ap (λ (l : List PageFill). record { rows = p.rows; heaps = heaps_of p.page } ∷ l) (fills_push ps x)

-- the heap pages at the four places are those that are sealed
pub heaps_there : {H : Type 0} (a b c d : Option H) (n : ℕ) → n ≤ 4 → IsThere a 0 n → IsThere b 1 n → IsThere c 2 n → IsThere d 3 n → count_page a + (count_page b + (count_page c + count_page d)) ≡ n
heaps_there None None None None n most ta tb tc td = omega (arith, ta)
heaps_there None None None (Some z) n most ta tb tc td = absurd (omega (arith, ta, td))
heaps_there None None (Some y) d n most ta tb tc td = absurd (omega (arith, ta, tc))
heaps_there None (Some x) c d n most ta tb tc td = absurd (omega (arith, ta, tb))
heaps_there (Some w) None None None n most ta tb tc td = omega (arith, ta, tb)
heaps_there (Some w) None None (Some z) n most ta tb tc td = absurd (omega (arith, tb, td))
heaps_there (Some w) None (Some y) d n most ta tb tc td = absurd (omega (arith, tb, tc))
heaps_there (Some w) (Some x) None None n most ta tb tc td = omega (arith, tb, tc)
heaps_there (Some w) (Some x) None (Some z) n most ta tb tc td = absurd (omega (arith, tc, td))
heaps_there (Some w) (Some x) (Some y) None n most ta tb tc td = omega (arith, tc, td)
heaps_there (Some w) (Some x) (Some y) (Some z) n most ta tb tc td = omega (arith, td, most)

-- a writer whose row page was sealed
module _ {Page Pin : Type 0} (t : PoolTerms Page Pin) (w w2 : Writer Page) (p : OpenPage) (page : Page) (n : ℕ) (no_heap : w.open_heap ≡ None) (is_rows : w.open_rows ≡ Some p) (k : IsWithRows page n w w2) (none : w2.open_rows ≡ None) (writing : Written t w) (n_is : n ≡ row_count p.frame.bytes.items) (some_row : 0 < row_count p.frame.bytes.items) where
  done_now : fills_in w2.pages.items ≡ closed_done (fills_in w.pages.items) (rows_in w.open_rows) w.sealed_heaps
  done_now =
      let f = writing.filled in
      let most = writing.most in
      let heaps = heaps_there w.heap0 w.heap1 w.heap2 w.heap3 w.sealed_heaps (omega (arith, most)) f.0 f.1 f.2 f.3 in
      let rows : n ≡ rows_in w.open_rows = n_is ∙ sym (ap rows_in is_rows) in
      let some : 0 < rows_in w.open_rows = let e = ap rows_in is_rows in omega (arith, e, some_row) in
      ap fills_in k.items
      ∙ fills_push w.pages.items (record { page = record { rows = page; heap0 = w.heap0; heap1 = w.heap1; heap2 = w.heap2; heap3 = w.heap3 }; rows = n })
      ∙ (λ i. fills_in w.pages.items ++ record { rows = rows i; heaps = heaps i } ∷ [])
      ∙ ap (λ b. if b then fills_in w.pages.items ++ record { rows = rows_in w.open_rows; heaps = w.sealed_heaps } ∷ [] else fills_in w.pages.items) (sym (lt-ltb 0 (rows_in w.open_rows) some))

  pub fill_closed : fill_of w2 ≡ closed_fill (fill_of w)
  fill_closed =
      let fit : rows_that_fit w2.layout w2.page_bytes ≡ rows_that_fit w.layout w.page_bytes = (λ i. rows_that_fit (k.layout i) (k.page_bytes i)) in
      let room : w2.page_bytes - 64 ≡ w.page_bytes - 64 = ap (λ (z : ℕ). z - 64) k.page_bytes in
      let rows : rows_in w2.open_rows ≡ 0 = ap rows_in none in
      let used : used_in w2.open_heap ≡ used_in w.open_heap = ap used_in k.open_heap in
      (λ i. record { fit = fit i; room = room i; done = done_now i; rows = rows i; sealed = k.sealed_heaps i; used = used i; long = k.long_is i; asked = k.asked_is i })

-- a page on which nothing stands
pub heap_fill : {Page : Type 0} (w : Writer Page) (o : Option OpenPage) → used_in w.open_heap ≡ used_in o → fill_of w ≡ fill_of (record w { open_heap = o })
heap_fill w o e = λ i. record {
  fit = rows_that_fit w.layout w.page_bytes;
  room = w.page_bytes - 64;
  done = fills_in w.pages.items;
  rows = rows_in w.open_rows;
  sealed = w.sealed_heaps;
  used = e i;
  long = w.long_bytes;
  asked = w.asked_bytes;
}

pub rows_fill : {Page : Type 0} (w : Writer Page) (o : Option OpenPage) → rows_in w.open_rows ≡ rows_in o → fill_of w ≡ fill_of (record w { open_rows = o })
rows_fill w o e = λ i. record {
  fit = rows_that_fit w.layout w.page_bytes;
  room = w.page_bytes - 64;
  done = fills_in w.pages.items;
  rows = e i;
  sealed = w.sealed_heaps;
  used = used_in w.open_heap;
  long = w.long_bytes;
  asked = w.asked_bytes;
}
