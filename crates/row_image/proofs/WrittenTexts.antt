-- A row more, with texts as values.
use Rattle.std.proofs.Common.{◌≡◌, ℕ, ◌+◌, ◌-◌, ◌<◌, ◌≤◌, true, false, List, [], ◌∷◌, ◌++◌, length, get_or, map, Option, Some, None, refl, sym, ap, ◌∙◌, arith, inl, inr}
use Rattle.std.specs.List.{range_with_len}
use Rattle.std.proofs.lemmas.Bool.{cases_Bool, false≢true}
use Rattle.std.proofs.lemmas.List.{same_lists, length-map, get_or-map}
use Rattle.std.proofs.lemmas.List.FromFn.{map-range_with_len_more, length-map-range_with_len, get_or-map-range_with_len}
use Rattle.row_image.specs.declared.layout.CellKind.{CellKind}
use Rattle.row_image.specs.declared.layout.CellKind.TheVariants.{Bit}
use Rattle.row_image.specs.declared.cell.CellIn.{CellIn}
use Rattle.row_image.specs.declared.cell.CellIn.TheVariants.{Null}
use Rattle.row_image.specs.declared.image.ImageKind.TheVariants.{Rows}
use Rattle.row_image.specs.declared.image.Part.{Part}
use Rattle.row_image.specs.Layout.{width_of, row_place}
use Rattle.row_image.specs.Cells.{StoredCell, NullCell, NumberCell, ShortCell, LongCell, given_cell, Meets}
use Rattle.row_image.specs.Image.{row_count, cell_in, stored_cell, stored_hash, part_for, parts_of}
use Rattle.row_image.specs.Parts.{is_long, wanted, begins_fifth, LiesOn, HoldsTexts}
use Rattle.row_image.specs.Rules.{text_limit, IsAccepted}
use Rattle.row_image.specs.Flat.{is_long_in, flat, flattened, base_of}
use Rattle.row_image.specs.Texts.{value_of, ValueRow, text_rows, heap_of, given_texts}
use Rattle.row_image.proofs.ByteLemmas.{SameOn, same_within}
use Rattle.row_image.proofs.LayoutLemmas.{first_place}
use Rattle.row_image.proofs.ListLemmas.{map_same}
use Rattle.row_image.proofs.AcceptedLemmas.{Sound, sound_of}
use Rattle.row_image.proofs.CellRuleLemmas.{KeepsHeap}
use Rattle.row_image.proofs.GrownLemmas.{HasHeap}
use Rattle.row_image.proofs.WrittenLemmas.{Written, rows_apart, cell_in_same, stored_row_same, written_cell_in, wanted_long}
use Rattle.row_image.proofs.WrittenAccepted.{PartsAfter, parts_after, parts_most, text_column}
use Rattle.row_image.proofs.Rebased.{long_fits}
use Rattle.row_image.proofs.FlatStored.{not_long_cell, flat_cell_in, flat_hash, flat_count}
use Rattle.row_image.proofs.FlatParts.{flat_heap}
use Rattle.row_image.proofs.WrittenFlat.{rows_lie, offsets_fit, base_known, long_is_text}

-- a row of an image, with texts as values
unfoldable pub text_row : List CellKind → List ℕ → (ℕ → List ℕ) → ℕ → ValueRow
text_row kinds image heaps row =
    record { hash = stored_hash kinds image row; values = map (λ column. value_of (heaps (part_for image row).heap) (flattened (part_for image row).base (stored_cell kinds image row column))) (range_with_len 0 (length kinds)) }

text_rows_flat : (kinds : List CellKind) (image : List ℕ) (heaps : ℕ → List ℕ) → IsAccepted (Rows kinds) image → 4096 ≤ length image → length image ≤ 262144 → text_rows kinds (flat (Rows kinds) image) heaps ≡ map (λ row. text_row kinds image heaps row) (range_with_len 0 (row_count image))
unfolding text_rows text_row
text_rows_flat kinds image heaps accepted page small =
    let new = flat (Rows kinds) image in
    let lies = rows_lie kinds image accepted page in
    let fit = offsets_fit kinds image accepted small in
    let few = parts_most kinds image (sound_of kinds image accepted).parts in
    let row_of = λ (row : ℕ). let r : ValueRow = record { hash = stored_hash kinds new row; values = map (λ column. value_of (heaps (part_for new row).heap) (stored_cell kinds new row column)) (range_with_len 0 (length kinds)) } in r in
    ap (λ n. map row_of (range_with_len 0 n)) (flat_count kinds image lies)
    ∙ map_same row_of (λ row. text_row kinds image heaps row) (row_count image) (λ row below.
    let hash = flat_hash kinds image row lies below in
    let values = map_same (λ column. value_of (heaps (part_for new row).heap) (stored_cell kinds new row column)) (λ column. value_of (heaps (part_for image row).heap) (flattened (part_for image row).base (stored_cell kinds image row column))) (length kinds) (λ column inside.
    ap (λ number. value_of (heaps number) (stored_cell kinds new row column)) (flat_heap kinds image row lies few)
    ∙ ap (value_of (heaps (part_for image row).heap)) (flat_cell_in kinds image row column lies below inside (fit.fit row column below inside))) in
    λ i. record { hash = hash i; values = values i })

any_heap : (cell : StoredCell) (bytes bytes' : List ℕ) (base base' : ℕ) → (is_long cell ≡ true → bytes ≡ bytes') → (is_long cell ≡ true → base ≡ base') → value_of bytes (flattened base cell) ≡ value_of bytes' (flattened base' cell)
any_heap NullCell bytes bytes' base base' h b = refl
any_heap (NumberCell z) bytes bytes' base base' h b = refl
any_heap (ShortCell text) bytes bytes' base base' h b = refl
any_heap (LongCell prefix size address) bytes bytes' base base' h b =
    ap (λ bs. value_of bs (LongCell prefix size (address - base))) (h refl) ∙ ap (λ n. value_of bytes' (LongCell prefix size (address - n))) (b refl)

heap_bytes : (heaps : ℕ → List ℕ) (heap : Option (ℕ × ℕ)) (part : Part) (page : ℕ) (cell : StoredCell) → LiesOn page heap cell → is_long cell ≡ true → ((h : ℕ × ℕ) → heap ≡ Some h → HasHeap part h) → heaps part.heap ≡ heap_of heaps heap
heap_bytes heaps heap part page NullCell on long has = absurd (false≢true long)
heap_bytes heaps heap part page (NumberCell z) on long has = absurd (false≢true long)
heap_bytes heaps heap part page (ShortCell text) on long has = absurd (false≢true long)
heap_bytes heaps None part page (LongCell prefix size address) on long has = absurd on
heap_bytes heaps (Some heap) part page (LongCell prefix size address) on long has = ap heaps (has heap refl).number

new_values : (kinds : List CellKind) (old new : List ℕ) (cells : List CellIn) (hash : ℕ) (heap : Option (ℕ × ℕ)) (heaps : ℕ → List ℕ) → Written kinds old new cells hash heap → PartsAfter kinds old new cells heap → Meets kinds (text_limit (length old)) cells → HoldsTexts (length old) (parts_of old) cells heap →
    map (λ column. value_of (heaps (part_for new (row_count old)).heap) (flattened (part_for new (row_count old)).base (stored_cell kinds new (row_count old) column))) (range_with_len 0 (length kinds)) ≡ map (λ cell. value_of (heap_of heaps heap) (flattened (base_of heap) (given_cell cell))) cells
new_values kinds old new cells hash heap heaps w p meets holds =
    let part = part_for new (row_count old) in
    let G = λ (column : ℕ). value_of (heaps part.heap) (flattened part.base (stored_cell kinds new (row_count old) column)) in
    let H = λ (cell : CellIn). value_of (heap_of heaps heap) (flattened (base_of heap) (given_cell cell)) in
    same_lists (map G (range_with_len 0 (length kinds))) (map H cells) (length-map-range_with_len G 0 (length kinds) ∙ sym (length-map cells H ∙ meets.count))
    (λ k d below.
    let inside : k < length kinds = omega (arith, length-map-range_with_len G 0 (length kinds), below) in
    let counted : k < length cells = omega (arith, meets.count) in
    let cell = given_cell (get_or cells k Null) in
    let has : is_long cell ≡ true → (h : ℕ × ℕ) → heap ≡ Some h → HasHeap part h = λ long h e. p.held (text_column kinds k inside (long_is_text (get_or kinds k Bit) (text_limit (length old)) cell (meets.each k inside) long)) h (wanted_long cells heap k counted long ∙ e) in
    get_or-map-range_with_len G 0 (length kinds) k k d inside (omega arith)
    ∙ ap (λ stored. value_of (heaps part.heap) (flattened part.base stored)) (written_cell_in kinds (text_limit (length old)) new (row_place kinds (row_count old)) cells hash k w.row meets inside)
    ∙ any_heap cell (heaps part.heap) (heap_of heaps heap) part.base (base_of heap)
    (λ long. heap_bytes heaps heap part (length old) cell (holds.each k counted) long (has long))
    (λ long. base_known heap part (length old) cell (holds.each k counted) long (has long))
    ∙ sym (get_or-map H cells k Null d counted))

-- a cell that isn't long doesn't look at a heap page
short_value : (kinds : List CellKind) (image : List ℕ) (at column base base' : ℕ) (bytes bytes' : List ℕ) → is_long (cell_in kinds image at column) ≡ false → value_of bytes (flattened base (cell_in kinds image at column)) ≡ value_of bytes' (flattened base' (cell_in kinds image at column))
short_value kinds image at column base base' bytes bytes' short = any_heap (cell_in kinds image at column) bytes bytes' base base' (λ long. absurd (false≢true (sym short ∙ long))) (λ long. absurd (false≢true (sym short ∙ long)))

old_text_row : (kinds : List CellKind) (old new : List ℕ) (heaps : ℕ → List ℕ) (row : ℕ) → Sound kinds old → row < row_count old → KeepsHeap (part_for old row) (part_for new row) → SameOn old new (row_place kinds row) (row_place kinds row + width_of kinds) → row_place kinds row + width_of kinds ≤ length old → text_row kinds new heaps row ≡ text_row kinds old heaps row
unfolding text_row
old_text_row kinds old new heaps row s below keeps h fits =
    let at = row_place kinds row in
    let p = part_for new row in
    let q = part_for old row in
    let hash = ap (λ r. r.hash) (stored_row_same kinds old new row h fits) in
    let values = map_same (λ column. value_of (heaps p.heap) (flattened p.base (stored_cell kinds new row column))) (λ column. value_of (heaps q.heap) (flattened q.base (stored_cell kinds old row column))) (length kinds) (λ column inside.
    ap (λ cell. value_of (heaps p.heap) (flattened p.base cell)) (cell_in_same kinds old new at column h fits inside) ∙
    elim (cases_Bool (is_long (cell_in kinds old at column))) [
      | inl long ↦
          elim (cases_Bool (is_long_in kinds old at column)) [
            | inl long' ↦ let there = (long_fits kinds old row column (s.cell row column below inside) long').2 in
                ap (λ number. value_of (heaps number) (flattened p.base (cell_in kinds old at column))) (keeps.heap there.heap)
                ∙ ap (λ base. value_of (heaps q.heap) (flattened base (cell_in kinds old at column))) (keeps.base there.heap)
            | inr short' ↦ absurd (false≢true (sym (not_long_cell kinds old at column short') ∙ long))
          ]
      | inr short ↦ short_value kinds old at column p.base q.base (heaps p.heap) (heaps q.heap) short
    ]) in
    λ i. record { hash = hash i; values = values i }

pub written_texts : (kinds : List CellKind) (old new : List ℕ) (cells : List CellIn) (hash : ℕ) (heap : Option (ℕ × ℕ)) (heaps : ℕ → List ℕ) → Written kinds old new cells hash heap → IsAccepted (Rows kinds) old → IsAccepted (Rows kinds) new → Meets kinds (text_limit (length old)) cells → HoldsTexts (length old) (parts_of old) cells heap → begins_fifth (parts_of old) (wanted cells heap) ≡ false → 4096 ≤ length old → length old ≤ 262144 →
    text_rows kinds (flat (Rows kinds) new) heaps ≡ text_rows kinds (flat (Rows kinds) old) heaps ++ given_texts heaps cells hash heap ∷ []
unfolding text_row stored_hash
written_texts kinds old new cells hash heap heaps w accepted accepted' meets holds room page small =
    let s = sound_of kinds old accepted in
    let p = parts_after kinds old new cells hash heap w s holds.is room in
    let n = row_count old in
    let lies = rows_lie kinds old accepted page in
    let last : text_row kinds new heaps n ≡ given_texts heaps cells hash heap = let values_are = new_values kinds old new cells hash heap heaps w p meets holds in λ i. record { hash = w.row.hash_is i; values = values_are i } in
    text_rows_flat kinds new heaps accepted' (omega (arith, w.long)) (omega (arith, w.long))
    ∙ ap (λ count. map (λ row. text_row kinds new heaps row) (range_with_len 0 count)) w.count
    ∙ map-range_with_len_more (λ row. text_row kinds new heaps row) 0 n n (omega arith)
    ∙ ap (λ row. map (λ r. text_row kinds new heaps r) (range_with_len 0 n) ++ row ∷ []) last
    ∙ ap (λ front. front ++ given_texts heaps cells hash heap ∷ []) (map_same (λ row. text_row kinds new heaps row) (λ row. text_row kinds old heaps row) n (λ row less.
    let apart = rows_apart kinds row n less in
    old_text_row kinds old new heaps row s less (p.keeps row less) (same_within old new 128 (row_place kinds n) (row_place kinds row) (row_place kinds row + width_of kinds) w.body (first_place kinds row) apart) (omega (arith, apart, lies.all)))
    ∙ sym (text_rows_flat kinds old heaps accepted page small))
