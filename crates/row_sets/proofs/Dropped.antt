-- A writer that gives up open pages on which nothing stands.
use Rattle.std.proofs.Common.{◌≡◌, ℕ, zero, suc, ◌+◌, ◌<◌, Bool, true, false, cond, List, [], ◌∷◌, ◌++◌, length, Some, None, refl, sym, ap, subst, ◌∙◌, arith, eqb, leb, ltb}
use Rattle.std.specs.Prelude.{IfSome, ◌&&◌, if◌then◌else◌}
use Rattle.std.proofs.lemmas.Bool.{le-ltb, eqb-true}
use Rattle.row_image.specs.declared.layout.CellKind.{CellKind}
use Rattle.row_image.specs.declared.image.ImageKind.TheVariants.{Rows}
use Rattle.row_image.specs.Bytes.{IsPage}
use Rattle.row_image.specs.Flat.{flat}
use Rattle.row_image.specs.Image.{row_count, part_count}
use Rattle.row_image.specs.Layout.{has_texts}
use Rattle.row_image.specs.Rules.{needs_parts}
use Rattle.row_image.specs.Texts.{ValueRow}
use Rattle.row_image.proofs.AcceptedLemmas.{HasParts, sound_of}
use Rattle.row_image.proofs.PartLemmas.{parts_length}
use Rattle.string_heap.specs.Heaps.{used}
use Rattle.page_body.specs.View.{PoolTerms, PoolView}
use Rattle.page_body.specs.declared.open.OpenPage.{OpenPage}
use Rattle.rebase_pins.specs.Rows.{page_rows}
use Rattle.rebase_pins.proofs.Values.{seen_long}
use Rattle.row_sets.specs.Holds.{Holding, nothing, both, an_open}
use Rattle.row_sets.specs.Changes.{Changes}
use Rattle.row_sets.specs.Cells.{long_total}
use Rattle.row_sets.specs.Sets.{lists_in, joined}
use Rattle.row_sets.specs.Writers.{Written, IsWriterHere, IsOpenRows, heaps_now, content_else, if_at, bytes_of, open_in, count_open, count_used, open_list, written_cells, written_pages, writer_holding, writer_ids}
use Rattle.row_sets.specs.declared.writer.Writer.{Writer}
use Rattle.row_sets.proofs.Changed.{changes_as, changes_beside, live_on, unpinned_on}
use Rattle.row_sets.proofs.Sealing.{base_none, rows_there}
use Rattle.row_sets.proofs.AddedWriter.{unused}

pub empty_bytes : (p : OpenPage) → used p.frame.bytes.items ≡ 0 → bytes_of (Some p) ≡ []
empty_bytes p none = ap (λ b. if b then p.frame.bytes.items else []) (le-ltb 0 (used p.frame.bytes.items) (omega (arith, none)))

pub no_rows : {X : Type 0} (xs : List X) → length xs ≡ 0 → xs ≡ []
no_rows [] none = refl
no_rows (x ∷ xs) none = absurd (omega (arith, none))

and_false : (b : Bool) → (b && false) ≡ false
and_false true = refl
and_false false = refl

-- a page of no rows has no parts
pub no_parts : (kinds : List CellKind) (image : List ℕ) → HasParts kinds image → row_count image ≡ 0 → part_count image ≡ 0
unfolding needs_parts
no_parts kinds image h none =
    let e : (has_texts kinds && ltb 0 (row_count image)) ≡ false = ap (λ b. has_texts kinds && b) (le-ltb 0 (row_count image) (omega (arith, none))) ∙ and_false (has_texts kinds) in
    eqb-true (part_count image) 0 (sym (ap (λ b. cond b (leb 1 (part_count image) && leb (part_count image) 4) (eqb (part_count image) 0)) e) ∙ h)

module _ {Page Pin : Type 0} (t : PoolTerms Page Pin) where
  -- a heap page without texts
  module _ (w : Writer Page) (p : OpenPage) (writing : Written t (record w { open_heap = Some p })) (none : used p.frame.bytes.items ≡ 0) where
    abbrev before : Writer Page
    before = record w { open_heap = Some p }

    abbrev after : Writer Page
    after = record w { open_heap = None }

    abbrev heaps_with : List ℕ → List (List ℕ)
    heaps_with b = content_else t w.heap0 (if_at 0 w.sealed_heaps b) ∷ content_else t w.heap1 (if_at 1 w.sealed_heaps b) ∷ content_else t w.heap2 (if_at 2 w.sealed_heaps b) ∷ content_else t w.heap3 (if_at 3 w.sealed_heaps b) ∷ []

    heaps_same : heaps_now t after ≡ heaps_now t before
    heaps_same = ap heaps_with (sym (empty_bytes p none))

    pub dropped_cells : written_cells t after ≡ written_cells t before
    dropped_cells = ap (λ (heaps : List (List ℕ)). joined (lists_in t w.layout w.pages.items) ++ open_list w.layout heaps w.open_rows) heaps_same

    pub dropped_writing : Written t after
    dropped_writing =
        let u = unused p none in
        let count : w.sealed_heaps + count_used (Some p) ≡ w.sealed_heaps + 0 = omega (arith, u) in
        record {
          packs = tt;
          columns = writing.columns;
          is_page = writing.is_page;
          pages = writing.pages;
          open_rows = subst (λ (heaps : List (List ℕ)). IfSome w.open_rows (IsOpenRows w.layout w.page_bytes (w.sealed_heaps + 0) w.first_heap heaps)) (sym heaps_same)
              (subst (λ (n : ℕ). IfSome w.open_rows (IsOpenRows w.layout w.page_bytes n w.first_heap (heaps_now t before))) count writing.open_rows);
          open_heap = tt;
          base = base_none t w.page_bytes w.sealed_heaps w.open_rows;
          filled = writing.filled;
          heap_kinds = writing.heap_kinds;
          most = let m = writing.most in omega (arith, m);
          low = writing.low;
          waits = rows_there t w.open_rows w.sealed_heaps w.sealed_heaps p writing.waits;
          differ = writing.differ;
          counted = writing.counted ∙ sym (ap length dropped_cells);
          long = writing.long ∙ sym (ap long_total dropped_cells);
          few_rows = writing.few_rows;
          few_long = writing.few_long;
        }

    pub dropped_here : (a b : PoolView Page Pin) → Changes t (an_open p.frame.number) nothing a b → IsWriterHere t a before → IsWriterHere t b after
    dropped_here a b c here = record {
      page_bytes = here.page_bytes ∙ sym c.page_bytes;
      live = live_on t (written_pages w) (an_open p.frame.number) nothing a b c here.live (λ ends y. let m = writing.differ ends y in omega (arith, m));
      owned = record { pins = λ y. omega arith; opens = λ y. let o = here.owned.opens y in let e = c.opens y in omega (arith, o, e) };
      unpinned = unpinned_on t (writer_ids t w) (an_open p.frame.number) nothing a b c (λ y. refl) (λ y. refl) here.unpinned;
    }

    pub dropped_changes : (a b : PoolView Page Pin) → Changes t (an_open p.frame.number) nothing a b → Changes t (writer_holding t before) (writer_holding t after) a b
    dropped_changes a b c =
        let rest : Holding = record { pages = writer_ids t w; pins = λ y. 0; opens = open_in w.open_rows; held = count_open w.open_rows } in
        changes_as t (both (an_open p.frame.number) rest) (writer_holding t before) (both nothing rest) (writer_holding t after) a b
        (record { pages = λ y. omega arith; pins = λ y. refl; opens = λ y. omega arith; held = omega arith })
        (record { pages = λ y. omega arith; pins = λ y. refl; opens = λ y. omega arith; held = omega arith })
        (changes_beside t (an_open p.frame.number) nothing rest a b c)

  -- a row page without rows, where no heap page is open
  module _ (w : Writer Page) (p : OpenPage) (writing : Written t (record w { open_rows = Some p; open_heap = None })) (none : row_count p.frame.bytes.items ≡ 0) where
    abbrev with_rows : Writer Page
    with_rows = record w { open_rows = Some p; open_heap = None }

    abbrev without : Writer Page
    without = record w { open_rows = None; open_heap = None }

    rows_none : page_rows w.layout (flat (Rows w.layout) p.frame.bytes.items) (heaps_now t with_rows) ≡ []
    rows_none =
        let whole = writing.open_rows.whole in
        no_rows (page_rows w.layout (flat (Rows w.layout) p.frame.bytes.items) (heaps_now t with_rows)) (seen_long w.layout p.frame.bytes.items (subst IsPage (sym whole.long) writing.is_page) whole.accepted (heaps_now t with_rows) ∙ none)

    pub emptied_cells : written_cells t without ≡ written_cells t with_rows
    emptied_cells = ap (λ (rows : List ValueRow). joined (lists_in t w.layout w.pages.items) ++ rows) (sym rows_none)

    sealed_none : w.sealed_heaps ≡ 0
    sealed_none =
        let open_ = writing.open_rows in
        let parts = no_parts w.layout p.frame.bytes.items (sound_of w.layout p.frame.bytes.items open_.whole.accepted).parts none in
        let counted = parts_length p.frame.bytes.items in
        zero_of w.sealed_heaps (λ some. let h = (open_.parts.heaps 0 (omega (arith, some))).0 in absurd (omega (arith, h, counted, parts)))
      where
        zero_of : (n : ℕ) → (0 < n → ⊥) → n ≡ 0
        zero_of zero never = refl
        zero_of (suc n) never = absurd (never (omega arith))

    pub emptied_writing : Written t without
    emptied_writing = record {
      packs = tt;
      columns = writing.columns;
      is_page = writing.is_page;
      pages = writing.pages;
      open_rows = tt;
      open_heap = tt;
      base = tt;
      filled = writing.filled;
      heap_kinds = writing.heap_kinds;
      most = writing.most;
      low = writing.low;
      waits = (sealed_none, refl);
      differ = writing.differ;
      counted = writing.counted ∙ sym (ap length emptied_cells);
      long = writing.long ∙ sym (ap long_total emptied_cells);
      few_rows = writing.few_rows;
      few_long = writing.few_long;
    }

    pub emptied_here : (a b : PoolView Page Pin) → Changes t (an_open p.frame.number) nothing a b → IsWriterHere t a with_rows → IsWriterHere t b without
    emptied_here a b c here = record {
      page_bytes = here.page_bytes ∙ sym c.page_bytes;
      live = live_on t (written_pages w) (an_open p.frame.number) nothing a b c here.live (λ ends y. let m = writing.differ ends y in omega (arith, m));
      owned = record { pins = λ y. omega arith; opens = λ y. omega arith };
      unpinned = unpinned_on t (writer_ids t w) (an_open p.frame.number) nothing a b c (λ y. refl) (λ y. refl) here.unpinned;
    }

    pub emptied_changes : (a b : PoolView Page Pin) → Changes t (an_open p.frame.number) nothing a b → Changes t (writer_holding t with_rows) (writer_holding t without) a b
    emptied_changes a b c =
        let rest : Holding = record { pages = writer_ids t w; pins = λ y. 0; opens = λ y. 0; held = 0 } in
        changes_as t (both (an_open p.frame.number) rest) (writer_holding t with_rows) (both nothing rest) (writer_holding t without) a b
        (record { pages = λ y. omega arith; pins = λ y. refl; opens = λ y. omega arith; held = omega arith })
        (record { pages = λ y. omega arith; pins = λ y. refl; opens = λ y. omega arith; held = omega arith })
        (changes_beside t (an_open p.frame.number) nothing rest a b c)
