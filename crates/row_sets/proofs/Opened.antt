-- A writer with a page that was just opened.
use Rattle.std.proofs.Common.{◌≡◌, ◌≢◌, ℕ, ◌+◌, ◌<◌, List, [], ◌∷◌, ◌++◌, length, Option, Some, None, refl, sym, ap, subst, ◌∙◌, arith}
use Rattle.std.specs.Prelude.{IfSome}
use Rattle.row_image.specs.declared.layout.CellKind.{CellKind}
use Rattle.row_image.specs.declared.image.ImageKind.TheVariants.{Rows, Heap}
use Rattle.row_image.specs.Bytes.{IsPage}
use Rattle.row_image.specs.Flat.{flat}
use Rattle.row_image.specs.Image.{row_count, parts_of, stored_hash, stored_cell, part_for}
use Rattle.row_image.specs.Rules.{text_limit}
use Rattle.row_image.specs.Texts.{ValueRow, text_rows, value_of}
use Rattle.std.specs.Prelude.{map}
use Rattle.std.specs.List.{range_with_len}
use Rattle.row_image.proofs.AcceptedLemmas.{sound_of}
use Rattle.row_image.proofs.FlatStored.{flat_count}
use Rattle.row_image.proofs.PartLemmas.{parts_length}
use Rattle.row_image.proofs.WrittenFlat.{rows_lie}
use Rattle.string_heap.specs.Heaps.{used}
use Rattle.page_body.specs.View.{PoolTerms, PoolView}
use Rattle.page_body.specs.declared.open.OpenPage.{OpenPage}
use Rattle.rebase_pins.specs.Rows.{page_rows}
use Rattle.rebase_pins.proofs.Values.{seen_long}
use Rattle.row_sets.specs.Holds.{nothing, an_open}
use Rattle.row_sets.specs.Changes.{Changes}
use Rattle.row_sets.specs.Cells.{AllFit, long_total}
use Rattle.row_sets.specs.Sets.{lists_in, joined}
use Rattle.row_sets.specs.Writers.{Written, IsWriterHere, IsBase, IsWhole, IsOpenRows, NoHeaps, heaps_now, content_else, if_at, count_used, used_heaps, open_list, written_cells, written_pages, writer_ids}
use Rattle.row_sets.specs.declared.writer.Writer.{Writer}
use Rattle.row_sets.proofs.Changed.{live_on, unpinned_on}
use Rattle.row_sets.proofs.AddedWriter.{unused}
use Rattle.row_sets.proofs.Dropped.{empty_bytes, no_rows, no_parts}

text_rows_none : (kinds : List CellKind) (content : List ℕ) (later : ℕ → List ℕ) → row_count content ≡ 0 → text_rows kinds content later ≡ []
unfolding text_rows
text_rows_none kinds content later none =
    ap (λ (n : ℕ). map (λ row. let r : ValueRow = record { hash = stored_hash kinds content row; values = map (λ column. value_of (later (part_for content row).heap) (stored_cell kinds content row column)) (range_with_len 0 (length kinds)) } in r) (range_with_len 0 n)) none

module _ {Page Pin : Type 0} (t : PoolTerms Page Pin) where
  -- an empty row page
  module _ (w : Writer Page) (p : OpenPage) (writing : Written t (record w { open_rows = None })) (whole : IsWhole (Rows w.layout) w.page_bytes p) (none : row_count p.frame.bytes.items ≡ 0) where
    abbrev without : Writer Page
    without = record w { open_rows = None }

    abbrev with_rows : Writer Page
    with_rows = record w { open_rows = Some p }

    page : IsPage (length p.frame.bytes.items)
    page = subst IsPage (sym whole.long) writing.is_page

    rows_none : page_rows w.layout (flat (Rows w.layout) p.frame.bytes.items) (heaps_now t with_rows) ≡ []
    rows_none = no_rows (page_rows w.layout (flat (Rows w.layout) p.frame.bytes.items) (heaps_now t with_rows)) (seen_long w.layout p.frame.bytes.items page whole.accepted (heaps_now t with_rows) ∙ none)

    pub rows_cells : written_cells t with_rows ≡ written_cells t without
    rows_cells = ap (λ (rows : List ValueRow). joined (lists_in t w.layout w.pages.items) ++ rows) rows_none

    flat_none : row_count (flat (Rows w.layout) p.frame.bytes.items) ≡ 0
    flat_none = flat_count w.layout p.frame.bytes.items (rows_lie w.layout p.frame.bytes.items whole.accepted page.least) ∙ none

    counted_none : used_heaps w ≡ 0
    counted_none = let z = writing.waits.0 in let e = ap count_used writing.waits.1 in omega (arith, z, e)

    parts_none : length (parts_of p.frame.bytes.items) ≡ 0
    parts_none = parts_length p.frame.bytes.items ∙ no_parts w.layout p.frame.bytes.items (sound_of w.layout p.frame.bytes.items whole.accepted).parts none

    opened : IsOpenRows w.layout w.page_bytes (used_heaps w) w.first_heap (heaps_now t with_rows) p
    opened = record {
      whole = whole;
      parts = record {
        heaps = λ k less. absurd (omega (arith, less, counted_none));
        few = λ some. absurd (omega (arith, some, counted_none));
        one = λ _. omega (arith, parts_none);
        bare = λ _ some. absurd (omega (arith, some, parts_none));
      };
      stable = λ later reached. text_rows_none w.layout (flat (Rows w.layout) p.frame.bytes.items) later flat_none ∙ sym rows_none;
      fit = subst (AllFit w.layout (text_limit w.page_bytes)) (sym rows_none) tt;
    }

    pub rows_writing : Written t with_rows
    rows_writing = record {
      packs = tt;
      columns = writing.columns;
      is_page = writing.is_page;
      pages = writing.pages;
      open_rows = opened;
      open_heap = writing.open_heap;
      base = subst (λ (o : Option OpenPage). IsBase w.page_bytes w.sealed_heaps (Some p) o) (sym writing.waits.1) tt;
      filled = writing.filled;
      heap_kinds = writing.heap_kinds;
      most = writing.most;
      low = writing.low;
      waits = tt;
      differ = writing.differ;
      counted = writing.counted ∙ sym (ap length rows_cells);
      long = writing.long ∙ sym (ap long_total rows_cells);
      few_rows = writing.few_rows;
      few_long = writing.few_long;
    }

    pub rows_here : (a b : PoolView Page Pin) → Changes t nothing (an_open p.frame.number) a b → IsWriterHere t a without → IsWriterHere t b with_rows
    rows_here a b c here = record {
      page_bytes = here.page_bytes ∙ sym c.page_bytes;
      live = live_on t (written_pages w) nothing (an_open p.frame.number) a b c here.live (λ ends y. let m = writing.differ ends y in omega (arith, m));
      owned = record { pins = λ y. omega arith; opens = λ y. let o = here.owned.opens y in let e = c.opens y in omega (arith, o, e) };
      unpinned = unpinned_on t (writer_ids t w) nothing (an_open p.frame.number) a b c (λ y. refl) (λ y. refl) here.unpinned;
    }

  -- an empty heap page
  module _ (w : Writer Page) (h : OpenPage) (writing : Written t (record w { open_heap = None })) (whole : IsWhole Heap w.page_bytes h) (none : used h.frame.bytes.items ≡ 0) (rows : w.open_rows ≢ None) (few : w.sealed_heaps < 4) where
    abbrev before : Writer Page
    before = record w { open_heap = None }

    abbrev after : Writer Page
    after = record w { open_heap = Some h }

    abbrev heaps_with : List ℕ → List (List ℕ)
    heaps_with b = content_else t w.heap0 (if_at 0 w.sealed_heaps b) ∷ content_else t w.heap1 (if_at 1 w.sealed_heaps b) ∷ content_else t w.heap2 (if_at 2 w.sealed_heaps b) ∷ content_else t w.heap3 (if_at 3 w.sealed_heaps b) ∷ []

    heaps_same : heaps_now t after ≡ heaps_now t before
    heaps_same = ap heaps_with (empty_bytes h none)

    pub heap_cells : written_cells t after ≡ written_cells t before
    heap_cells = ap (λ (heaps : List (List ℕ)). joined (lists_in t w.layout w.pages.items) ++ open_list w.layout heaps w.open_rows) heaps_same

    base_empty : (o : Option OpenPage) → IsBase w.page_bytes w.sealed_heaps o (Some h)
    base_empty None = tt
    base_empty (Some p) = λ some. absurd (omega (arith, some, none))

    waits_there : (o : Option OpenPage) → o ≢ None → NoHeaps o w.sealed_heaps (Some h)
    waits_there None there = absurd (there refl)
    waits_there (Some p) there = tt

    pub heap_writing : Written t after
    heap_writing =
        let u = unused h none in
        let count : w.sealed_heaps + 0 ≡ w.sealed_heaps + count_used (Some h) = omega (arith, u) in
        record {
          packs = tt;
          columns = writing.columns;
          is_page = writing.is_page;
          pages = writing.pages;
          open_rows = subst (λ (heaps : List (List ℕ)). IfSome w.open_rows (IsOpenRows w.layout w.page_bytes (w.sealed_heaps + count_used (Some h)) w.first_heap heaps)) (sym heaps_same)
              (subst (λ (n : ℕ). IfSome w.open_rows (IsOpenRows w.layout w.page_bytes n w.first_heap (heaps_now t before))) count writing.open_rows);
          open_heap = whole;
          base = base_empty w.open_rows;
          filled = writing.filled;
          heap_kinds = writing.heap_kinds;
          most = omega (arith, few);
          low = writing.low;
          waits = waits_there w.open_rows rows;
          differ = writing.differ;
          counted = writing.counted ∙ sym (ap length heap_cells);
          long = writing.long ∙ sym (ap long_total heap_cells);
          few_rows = writing.few_rows;
          few_long = writing.few_long;
        }

    pub heap_here : (a b : PoolView Page Pin) → Changes t nothing (an_open h.frame.number) a b → IsWriterHere t a before → IsWriterHere t b after
    heap_here a b c here = record {
      page_bytes = here.page_bytes ∙ sym c.page_bytes;
      live = live_on t (written_pages w) nothing (an_open h.frame.number) a b c here.live (λ ends y. let m = writing.differ ends y in omega (arith, m));
      owned = record { pins = λ y. omega arith; opens = λ y. let o = here.owned.opens y in let e = c.opens y in omega (arith, o, e) };
      unpinned = unpinned_on t (writer_ids t w) nothing (an_open h.frame.number) a b c (λ y. refl) (λ y. refl) here.unpinned;
    }
