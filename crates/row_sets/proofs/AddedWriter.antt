-- A writer with a row more.
use Rattle.std.proofs.Common.{◌≡◌, ℕ, zero, suc, ◌+◌, ◌*◌, ◌<◌, ◌≤◌, Bool, true, false, List, [], ◌∷◌, ◌++◌, length, get_or, Option, Some, None, refl, sym, ap, subst, inl, inr, ◌∙◌, arith, length-append, append_assoc}
use Rattle.std.specs.Prelude.{nat_lt, if◌then◌else◌, IfSome}
use Rattle.row_image.specs.declared.image.ImageKind.TheVariants.{Rows, Heap}
use Rattle.row_image.specs.Flat.{flat}
use Rattle.row_image.specs.Rules.{text_limit, IsAccepted}
use Rattle.row_image.specs.Texts.{CellValue, ValueRow}
use Rattle.number_bags.specs.Bags.{one_of}
use Rattle.page_body.specs.View.{PoolTerms}
use Rattle.page_body.specs.declared.open.OpenPage.{OpenPage}
use Rattle.rebase_pins.specs.Rows.{page_rows}
use Rattle.std.proofs.lemmas.Bool.{lt-ltb, le-ltb, cases_lt, cases_eq}
use Rattle.row_image.specs.declared.image.Part.{Part}
use Rattle.row_image.specs.Image.{row_count, parts_of, no_part}
use Rattle.row_image.specs.Layout.{has_texts}
use Rattle.row_image.specs.Parts.{parts_with}
use Rattle.row_image.specs.Texts.{heap_of}
use Rattle.string_heap.specs.Heaps.{used, KeepsTexts}
use Rattle.page_body.specs.Shows.{most_frames}
use Rattle.row_sets.specs.Put.{PutsRow, KeepsOpen, put_values, base_in, text_place}
use Rattle.row_sets.specs.LongTexts.{TextsAt}
use Rattle.rebase_pins.specs.Fits.{RowFits}
use Rattle.row_sets.specs.Cells.{long_in, long_total}
use Rattle.row_sets.specs.Sets.{lists_in, joined}
use Rattle.row_sets.specs.Writers.{Written, HasRoom, AreParts, Reaches, Reached, number_of, IsOpenRows, IsWhole, IsBase, IsThere, heaps_now, content_else, if_at, bytes_of, open_list, written_cells, used_heaps, count_open, count_used, open_in, writer_holding, writer_ids}
use Rattle.row_sets.specs.declared.writer.Writer.{Writer}
use Rattle.row_sets.proofs.Sealing.{if_at_high, if_at_here, there_below, content_there}
use Rattle.row_sets.proofs.RowPuts.{has_texts_of}
use Rattle.row_sets.proofs.OpenParts.{LongParts, parts_short, base_short, parts_long}
use Rattle.row_sets.proofs.AddedRow.{total_append, open_added, rows_added, values_back, texts_short, texts_reach, reaches_on}

module _ {Page Pin : Type 0} (t : PoolTerms Page Pin) where
  -- what the heap pages say, one by one
  slot_high : (k s : ℕ) (o : Option Page) (bytes : List ℕ) → IsThere o k s → s < k → content_else t o (if_at k s bytes) ≡ []
  slot_high k s o bytes there more = ap (λ z. content_else t z (if_at k s bytes)) (there_below o k s there (omega (arith, more))) ∙ if_at_high k s bytes more

  slot_here : (k s : ℕ) (o : Option Page) (bytes : List ℕ) → IsThere o k s → k ≡ s → content_else t o (if_at k s bytes) ≡ bytes
  slot_here k s o bytes there e = ap (λ z. content_else t z (if_at k s bytes)) (there_below o k s there (omega (arith, e))) ∙ if_at_here k s bytes e

  pub open_here : (w : Writer Page) → IsThere w.heap0 0 w.sealed_heaps → IsThere w.heap1 1 w.sealed_heaps → IsThere w.heap2 2 w.sealed_heaps → IsThere w.heap3 3 w.sealed_heaps → w.sealed_heaps < 4 → get_or (heaps_now t w) w.sealed_heaps [] ≡ bytes_of w.open_heap
  open_here w t0 t1 t2 t3 few = elim (cases_eq w.sealed_heaps 0) [
    | inl e ↦ ap (λ (k : ℕ). get_or (heaps_now t w) k []) e ∙ slot_here 0 w.sealed_heaps w.heap0 (bytes_of w.open_heap) t0 (sym e)
    | inr n0 ↦ elim (cases_eq w.sealed_heaps 1) [
      | inl e ↦ ap (λ (k : ℕ). get_or (heaps_now t w) k []) e ∙ slot_here 1 w.sealed_heaps w.heap1 (bytes_of w.open_heap) t1 (sym e)
      | inr n1 ↦ elim (cases_eq w.sealed_heaps 2) [
        | inl e ↦ ap (λ (k : ℕ). get_or (heaps_now t w) k []) e ∙ slot_here 2 w.sealed_heaps w.heap2 (bytes_of w.open_heap) t2 (sym e)
        | inr n2 ↦
            let e : w.sealed_heaps ≡ 3 = omega (arith, few, n0, n1, n2) in
            ap (λ (k : ℕ). get_or (heaps_now t w) k []) e ∙ slot_here 3 w.sealed_heaps w.heap3 (bytes_of w.open_heap) t3 (sym e)
      ]
    ]
  ]

  -- the sealed heap pages say the same whatever the open one says
  pub heaps_low : (w : Writer Page) (h : Option OpenPage) (k : ℕ) → IsThere w.heap0 0 w.sealed_heaps → IsThere w.heap1 1 w.sealed_heaps → IsThere w.heap2 2 w.sealed_heaps → IsThere w.heap3 3 w.sealed_heaps → k < w.sealed_heaps → get_or (heaps_now t (record w { open_heap = h })) k [] ≡ get_or (heaps_now t w) k []
  heaps_low w h zero t0 t1 t2 t3 less = content_there t w.heap0 0 w.sealed_heaps (if_at 0 w.sealed_heaps (bytes_of h)) (if_at 0 w.sealed_heaps (bytes_of w.open_heap)) t0 less
  heaps_low w h (suc zero) t0 t1 t2 t3 less = content_there t w.heap1 1 w.sealed_heaps (if_at 1 w.sealed_heaps (bytes_of h)) (if_at 1 w.sealed_heaps (bytes_of w.open_heap)) t1 less
  heaps_low w h (suc (suc zero)) t0 t1 t2 t3 less = content_there t w.heap2 2 w.sealed_heaps (if_at 2 w.sealed_heaps (bytes_of h)) (if_at 2 w.sealed_heaps (bytes_of w.open_heap)) t2 less
  heaps_low w h (suc (suc (suc zero))) t0 t1 t2 t3 less = content_there t w.heap3 3 w.sealed_heaps (if_at 3 w.sealed_heaps (bytes_of h)) (if_at 3 w.sealed_heaps (bytes_of w.open_heap)) t3 less
  heaps_low w h (suc (suc (suc (suc k)))) t0 t1 t2 t3 less = refl

  module _ (w : Writer Page) (p p' : OpenPage) (h : Option OpenPage) (vs : List CellValue) (hash n k : ℕ) (writing : Written t w) (is : w.open_rows ≡ Some p) (room : HasRoom w (long_in vs)) (n_is : n ≡ w.long_bytes + long_in vs)
      (opened : IsOpenRows w.layout w.page_bytes (w.sealed_heaps + count_used h) w.first_heap (heaps_now t (record w { open_heap = h })) p')
      (rows : page_rows w.layout (flat (Rows w.layout) p'.frame.bytes.items) (heaps_now t (record w { open_heap = h })) ≡ page_rows w.layout (flat (Rows w.layout) p.frame.bytes.items) (heaps_now t w) ++ record { hash = hash; values = vs } ∷ [])
      (heap : IfSome h (IsWhole Heap w.page_bytes)) (base : IsBase w.page_bytes w.sealed_heaps (Some p') h) (same_open : count_open h ≡ count_open w.open_heap) where
    abbrev next : Writer Page
    next = record w { open_rows = Some p'; open_heap = h; rows = w.rows + 1; long_bytes = n; asked_bytes = k }

    abbrev row : ValueRow
    row = record { hash = hash; values = vs }

    pub cells_added : written_cells t next ≡ written_cells t w ++ row ∷ []
    cells_added =
        let done = joined (lists_in t w.layout w.pages.items) in
        ap (λ (z : List ValueRow). done ++ z) rows
        ∙ sym (append_assoc done (page_rows w.layout (flat (Rows w.layout) p.frame.bytes.items) (heaps_now t w)) (row ∷ []))
        ∙ ap (λ (o : Option OpenPage). (done ++ open_list w.layout (heaps_now t w) o) ++ row ∷ []) (sym is)

    pub writing_added : Written t next
    writing_added = record {
      packs = tt;
      columns = writing.columns;
      is_page = writing.is_page;
      pages = writing.pages;
      open_rows = opened;
      open_heap = heap;
      base = base;
      filled = writing.filled;
      heap_kinds = writing.heap_kinds;
      most = let m = writing.most in omega (arith, m, same_open);
      low = writing.low;
      waits = tt;
      differ = writing.differ;
      counted = let c = writing.counted in let e = ap length cells_added in let l = length-append (written_cells t w) (row ∷ []) in omega (arith, c, e, l);
      long = let c = writing.long in let e = ap long_total cells_added in let l = total_append (written_cells t w) (row ∷ []) in omega (arith, c, e, l, n_is);
      few_rows = let f = room.few_rows in omega (arith, f);
      few_long = let f = room.few_long in omega (arith, f, n_is);
    }

used_most : (o : Option OpenPage) → count_used o ≤ count_open o
used_most None = omega arith
used_most (Some p) = by_test (nat_lt 0 (used p.frame.bytes.items))
  where
    by_test : (b : Bool) → (if b then 1 else 0) ≤ 1
    by_test true = omega arith
    by_test false = omega arith

bytes_none : (o : Option OpenPage) → count_used o ≡ 0 → bytes_of o ≡ []
bytes_none None zero_used = refl
bytes_none (Some p) zero_used = by_test (nat_lt 0 (used p.frame.bytes.items)) zero_used
  where
    by_test : (b : Bool) → ◌≡◌ {A = ℕ} (if b then 1 else 0) 0 → (if b then p.frame.bytes.items else []) ≡ []
    by_test true e = absurd (omega (arith, e))
    by_test false e = refl

pub is_used : (p : OpenPage) → 0 < used p.frame.bytes.items → count_used (Some p) ≡ 1
is_used p some = ap {B = ℕ} (λ b. if b then 1 else 0) (lt-ltb 0 (used p.frame.bytes.items) some)

pub used_bytes : (p : OpenPage) → 0 < used p.frame.bytes.items → bytes_of (Some p) ≡ p.frame.bytes.items
used_bytes p some = ap (λ b. if b then p.frame.bytes.items else []) (lt-ltb 0 (used p.frame.bytes.items) some)

pub unused : (p : OpenPage) → used p.frame.bytes.items ≡ 0 → count_used (Some p) ≡ 0
unused p none = ap {B = ℕ} (λ b. if b then 1 else 0) (le-ltb 0 (used p.frame.bytes.items) (omega (arith, none)))

-- the open pages stay in their frames
pub open_pages : {Page Pin : Type 0} (t : PoolTerms Page Pin) (w : Writer Page) (p h p' h' : OpenPage) (rows long asked : ℕ) → w.open_rows ≡ Some p → w.open_heap ≡ Some h → p'.frame.number ≡ p.frame.number → h'.frame.number ≡ h.frame.number → writer_holding t (record w { open_rows = Some p'; open_heap = Some h'; rows = rows; long_bytes = long; asked_bytes = asked }) ≡ writer_holding t w
open_pages t w p h p' h' rows long asked is is_heap same same_heap =
    (λ i. record { pages = writer_ids t w; pins = λ y. 0; opens = λ y. one_of (same i) y + one_of (same_heap i) y; held = 2 })
    ∙ (λ i. record { pages = writer_ids t w; pins = λ y. 0; opens = λ y. open_in (sym is i) y + open_in (sym is_heap i) y; held = count_open (sym is i) + count_open (sym is_heap i) })

module _ {Page Pin : Type 0} (t : PoolTerms Page Pin) (w : Writer Page) (writing : Written t w) where
  pub heaps_none : used_heaps w ≡ 0 → get_or (heaps_now t w) 0 [] ≡ []
  heaps_none zero_used = slot_here t 0 w.sealed_heaps w.heap0 (bytes_of w.open_heap) writing.filled.0 (omega (arith, zero_used)) ∙ bytes_none w.open_heap (omega (arith, zero_used))

  pub used_few : used_heaps w ≤ 4
  used_few = let m = writing.most in let u = used_most w.open_heap in omega (arith, m, u)

  pub current : (p : OpenPage) → w.open_rows ≡ Some p → IsOpenRows w.layout w.page_bytes (used_heaps w) w.first_heap (heaps_now t w) p
  current p is = subst (λ (o : Option OpenPage). IfSome o (IsOpenRows w.layout w.page_bytes (used_heaps w) w.first_heap (heaps_now t w))) is writing.open_rows

  -- a row without long texts
  module _ (p p' : OpenPage) (vs : List CellValue) (hash : ℕ) (is : w.open_rows ≡ Some p) (room : HasRoom w (long_in vs)) (fits : RowFits w.layout (text_limit w.page_bytes) vs) (short : long_in vs ≡ 0) (keeps : KeepsOpen p p') (puts : PutsRow w.layout p.frame.bytes.items p'.frame.bytes.items vs hash None 0) where
    either_parts : (b : Bool) (n : ℕ) (parts : List Part) → AreParts (used_heaps w) w.first_heap parts → AreParts (used_heaps w) w.first_heap (if b then parts_with parts n None else parts)
    either_parts true n parts are = parts_short (used_heaps w) w.first_heap n parts are
    either_parts false n parts are = are

    either_base : (b : Bool) (n k : ℕ) (parts : List Part) → k < length parts → (get_or (if b then parts_with parts n None else parts) k no_part).base ≡ (get_or parts k no_part).base
    either_base true n k parts inside = base_short n k parts inside
    either_base false n k parts inside = refl

    short_parts : AreParts (used_heaps w) w.first_heap (parts_of p'.frame.bytes.items)
    short_parts = subst (AreParts (used_heaps w) w.first_heap) (sym puts.parts) (either_parts (has_texts w.layout) (row_count p.frame.bytes.items) (parts_of p.frame.bytes.items) (current p is).parts)

    base_kept : (o : Option OpenPage) → w.open_heap ≡ o → IsBase w.page_bytes w.sealed_heaps (Some p) o → IsBase w.page_bytes w.sealed_heaps (Some p') o
    base_kept None e base = tt
    base_kept (Some h) e base = λ some.
        let u = is_used h some in
        let count = ap count_used e in
        let inside = ((current p is).parts.heaps w.sealed_heaps (omega (arith, count, u))).0 in
        ap (λ (ps : List Part). (get_or ps w.sealed_heaps no_part).base) puts.parts
        ∙ either_base (has_texts w.layout) (row_count p.frame.bytes.items) w.sealed_heaps (parts_of p.frame.bytes.items) inside
        ∙ base some

    short_open : IsOpenRows w.layout w.page_bytes (used_heaps w) w.first_heap (heaps_now t w) p'
    short_open = open_added w.layout w.page_bytes (used_heaps w) (used_heaps w) w.first_heap (heaps_now t w) (heaps_now t w) p p' vs hash None 0 writing.low writing.is_page (current p is) keeps puts short_parts used_few heaps_none refl fits (λ later reached. reached) (λ later reached. values_back [] 0 0 vs (texts_short [] 0 vs short))

    short_rows : page_rows w.layout (flat (Rows w.layout) p'.frame.bytes.items) (heaps_now t w) ≡ page_rows w.layout (flat (Rows w.layout) p.frame.bytes.items) (heaps_now t w) ++ record { hash = hash; values = vs } ∷ []
    short_rows = rows_added w.layout w.page_bytes (used_heaps w) (used_heaps w) w.first_heap (heaps_now t w) (heaps_now t w) p p' vs hash None 0 writing.low writing.is_page (current p is) keeps puts short_parts used_few heaps_none refl fits (λ later reached. reached) (λ later reached. values_back [] 0 0 vs (texts_short [] 0 vs short))

    short_base : IsBase w.page_bytes w.sealed_heaps (Some p') w.open_heap
    short_base = base_kept w.open_heap refl (subst (λ (o : Option OpenPage). IsBase w.page_bytes w.sealed_heaps o w.open_heap) is writing.base)

    pub short_cells : written_cells t (record w { open_rows = Some p'; rows = w.rows + 1 }) ≡ written_cells t w ++ record { hash = hash; values = vs } ∷ []
    short_cells = cells_added t w p p' w.open_heap vs hash w.long_bytes w.asked_bytes writing is room (omega (arith, short)) short_open short_rows writing.open_heap short_base refl

    pub short_writing : Written t (record w { open_rows = Some p'; rows = w.rows + 1 })
    short_writing = writing_added t w p p' w.open_heap vs hash w.long_bytes w.asked_bytes writing is room (omega (arith, short)) short_open short_rows writing.open_heap short_base refl

  -- a row with long texts
  module _ (p h : OpenPage) (vs : List CellValue) (is : w.open_rows ≡ Some p) (is_heap : w.open_heap ≡ Some h) where
    count_is : count_open w.open_heap ≡ 1
    count_is = ap count_open is_heap

    whole : IsWhole Heap w.page_bytes h
    whole = subst (λ (o : Option OpenPage). IfSome o (IsWhole Heap w.page_bytes)) is_heap writing.open_heap

    place_few : w.sealed_heaps < 4
    place_few = let m = writing.most in omega (arith, m, count_is)

    used_is : used_heaps w ≡ w.sealed_heaps + count_used (Some h)
    used_is = ap (λ (o : Option OpenPage). w.sealed_heaps + count_used o) is_heap

    base_at : IsBase w.page_bytes w.sealed_heaps (Some p) (Some h)
    base_at = subst (λ (o : Option OpenPage). IsBase w.page_bytes w.sealed_heaps (Some p) o) is_heap (subst (λ (o : Option OpenPage). IsBase w.page_bytes w.sealed_heaps o w.open_heap) is writing.base)

    base_same : h.frame.number * w.page_bytes ≡ base_in h
    base_same = ap (λ (n : ℕ). h.frame.number * n) (sym whole.long)

    pub long_parts : LongParts w.sealed_heaps w.first_heap (row_count p.frame.bytes.items) (base_in h) (parts_of p.frame.bytes.items)
    long_parts = parts_long (used_heaps w) w.sealed_heaps w.first_heap (row_count p.frame.bytes.items) (base_in h) (parts_of p.frame.bytes.items) writing.low place_few (current p is).parts
        (elim (cases_eq (used h.frame.bytes.items) 0) [ inl none ↦ let u = unused h none in inl (omega (arith, used_is, u)) | inr some ↦ let u = is_used h (omega (arith, some)) in inr (omega (arith, used_is, u)) ])
        (λ more. base_at (elim (cases_eq (used h.frame.bytes.items) 0) [ inl none ↦ let u = unused h none in absurd (omega (arith, used_is, u, more)) | inr some ↦ omega (arith, some) ]) ∙ base_same)

    module _ (p' h' : OpenPage) (hash long asked : ℕ) (room : HasRoom w (long_in vs)) (fits : RowFits w.layout (text_limit w.page_bytes) vs) (long_is : long ≡ long_in vs) (some : 0 < long) (keeps : KeepsOpen p p') (keeps_heap : KeepsOpen h h')
        (puts : PutsRow w.layout p.frame.bytes.items p'.frame.bytes.items vs hash (Some (number_of w.first_heap w.sealed_heaps, base_in h)) (text_place h))
        (accepted : IsAccepted Heap h'.frame.bytes.items) (kept : KeepsTexts h.frame.bytes.items h'.frame.bytes.items) (counted : used h'.frame.bytes.items ≡ used h.frame.bytes.items + long_in vs) (texts : TextsAt h'.frame.bytes.items (64 + used h.frame.bytes.items) vs) where
      now_used : 0 < used h'.frame.bytes.items
      now_used = omega (arith, counted, some, long_is)

      abbrev heaps' : List (List ℕ)
      heaps' = heaps_now t (record w { open_heap = Some h' })

      here_now : get_or heaps' w.sealed_heaps [] ≡ h'.frame.bytes.items
      here_now = open_here t (record w { open_heap = Some h' }) writing.filled.0 writing.filled.1 writing.filled.2 writing.filled.3 place_few ∙ used_bytes h' now_used

      here_before : get_or (heaps_now t w) w.sealed_heaps [] ≡ bytes_of (Some h)
      here_before = open_here t w writing.filled.0 writing.filled.1 writing.filled.2 writing.filled.3 place_few ∙ ap bytes_of is_heap

      count_now : w.sealed_heaps + 1 ≡ w.sealed_heaps + count_used (Some h')
      count_now = let u = is_used h' now_used in omega (arith, u)

      parts_now : AreParts (w.sealed_heaps + count_used (Some h')) w.first_heap (parts_of p'.frame.bytes.items)
      parts_now =
          let has = has_texts_of w.layout (text_limit w.page_bytes) vs fits (omega (arith, some, long_is)) in
          let e = puts.parts ∙ ap (λ (b : Bool). if b then parts_with (parts_of p.frame.bytes.items) (row_count p.frame.bytes.items) (Some (number_of w.first_heap w.sealed_heaps, base_in h)) else parts_of p.frame.bytes.items) has in
          subst (λ (n : ℕ). AreParts n w.first_heap (parts_of p'.frame.bytes.items)) count_now (subst (AreParts (w.sealed_heaps + 1) w.first_heap) (sym e) long_parts.are)

      base_now : IsBase w.page_bytes w.sealed_heaps (Some p') (Some h')
      base_now = λ _.
          let has = has_texts_of w.layout (text_limit w.page_bytes) vs fits (omega (arith, some, long_is)) in
          let e = puts.parts ∙ ap (λ (b : Bool). if b then parts_with (parts_of p.frame.bytes.items) (row_count p.frame.bytes.items) (Some (number_of w.first_heap w.sealed_heaps, base_in h)) else parts_of p.frame.bytes.items) has in
          ap (λ (ps : List Part). (get_or ps w.sealed_heaps no_part).base) e ∙ long_parts.based ∙ sym base_same ∙ ap (λ (n : ℕ). n * w.page_bytes) (sym keeps_heap.number)

      reached_before : (later : ℕ → List ℕ) → Reached (w.sealed_heaps + count_used (Some h')) w.first_heap heaps' later → Reached (used_heaps w) w.first_heap (heaps_now t w) later
      reached_before later reached k less = elim (cases_lt k w.sealed_heaps) [
        | inl low ↦ subst (λ (z : List ℕ). Reaches z (later (number_of w.first_heap k))) (heaps_low t w (Some h') k writing.filled.0 writing.filled.1 writing.filled.2 writing.filled.3 low) (reached k (omega (arith, low)))
        | inr high ↦ elim (cases_eq (used h.frame.bytes.items) 0) [
          | inl none ↦ let u = unused h none in absurd (omega (arith, less, used_is, u, high))
          | inr more ↦
              let u = is_used h (omega (arith, more)) in
              let at : w.sealed_heaps ≡ k = omega (arith, less, used_is, u, high) in
              let now : Reaches h'.frame.bytes.items (later (number_of w.first_heap w.sealed_heaps)) = subst (λ (z : List ℕ). Reaches z (later (number_of w.first_heap w.sealed_heaps))) here_now (reached w.sealed_heaps (omega (arith, count_now))) in
              let before : Reaches (get_or (heaps_now t w) w.sealed_heaps []) (later (number_of w.first_heap w.sealed_heaps)) =
              subst (λ (z : List ℕ). Reaches z (later (number_of w.first_heap w.sealed_heaps))) (sym (here_before ∙ used_bytes h (omega (arith, more)))) (reaches_on h.frame.bytes.items h'.frame.bytes.items (later (number_of w.first_heap w.sealed_heaps)) kept now) in
              subst (λ (j : ℕ). Reaches (get_or (heaps_now t w) j []) (later (number_of w.first_heap j))) at before
        ]
      ]

      values_given : (later : ℕ → List ℕ) → Reached (w.sealed_heaps + count_used (Some h')) w.first_heap heaps' later → put_values (heap_of later (Some (number_of w.first_heap w.sealed_heaps, base_in h))) (Some (number_of w.first_heap w.sealed_heaps, base_in h)) vs (text_place h) ≡ vs
      values_given later reached =
          let now : Reaches h'.frame.bytes.items (later (number_of w.first_heap w.sealed_heaps)) = subst (λ (z : List ℕ). Reaches z (later (number_of w.first_heap w.sealed_heaps))) here_now (reached w.sealed_heaps (omega (arith, count_now))) in
          values_back (later (number_of w.first_heap w.sealed_heaps)) (base_in h) (64 + used h.frame.bytes.items) vs
          (texts_reach h'.frame.bytes.items (later (number_of w.first_heap w.sealed_heaps)) (64 + used h.frame.bytes.items) vs texts (omega arith) (omega (arith, counted)) now)

      few_now : w.sealed_heaps + count_used (Some h') ≤ 4
      few_now = omega (arith, count_now, place_few)

      none_now : w.sealed_heaps + count_used (Some h') ≡ 0 → get_or heaps' 0 [] ≡ []
      none_now e = absurd (omega (arith, e, count_now))

      open_now : IsOpenRows w.layout w.page_bytes (w.sealed_heaps + count_used (Some h')) w.first_heap heaps' p'
      open_now = open_added w.layout w.page_bytes (used_heaps w) (w.sealed_heaps + count_used (Some h')) w.first_heap (heaps_now t w) heaps' p p' vs hash (Some (number_of w.first_heap w.sealed_heaps, base_in h)) (text_place h) writing.low writing.is_page (current p is) keeps puts parts_now few_now none_now refl fits reached_before values_given

      rows_now : page_rows w.layout (flat (Rows w.layout) p'.frame.bytes.items) heaps' ≡ page_rows w.layout (flat (Rows w.layout) p.frame.bytes.items) (heaps_now t w) ++ record { hash = hash; values = vs } ∷ []
      rows_now = rows_added w.layout w.page_bytes (used_heaps w) (w.sealed_heaps + count_used (Some h')) w.first_heap (heaps_now t w) heaps' p p' vs hash (Some (number_of w.first_heap w.sealed_heaps, base_in h)) (text_place h) writing.low writing.is_page (current p is) keeps puts parts_now few_now none_now refl fits reached_before values_given

      whole_now : IsWhole Heap w.page_bytes h'
      whole_now = record { kind_is = keeps_heap.kind ∙ whole.kind_is; long = keeps_heap.long ∙ whole.long; number = subst (λ (z : ℕ). z < most_frames) (sym keeps_heap.number) whole.number; accepted = accepted }

      pub long_cells : written_cells t (record w { open_rows = Some p'; open_heap = Some h'; rows = w.rows + 1; long_bytes = w.long_bytes + long; asked_bytes = asked }) ≡ written_cells t w ++ record { hash = hash; values = vs } ∷ []
      long_cells = cells_added t w p p' (Some h') vs hash (w.long_bytes + long) asked writing is room (omega (arith, long_is)) open_now rows_now whole_now base_now (sym count_is)

      pub long_writing : Written t (record w { open_rows = Some p'; open_heap = Some h'; rows = w.rows + 1; long_bytes = w.long_bytes + long; asked_bytes = asked })
      long_writing = writing_added t w p p' (Some h') vs hash (w.long_bytes + long) asked writing is room (omega (arith, long_is)) open_now rows_now whole_now base_now (sym count_is)
