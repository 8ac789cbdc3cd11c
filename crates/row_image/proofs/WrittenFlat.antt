-- A row more, in the flat image.
use Rattle.std.proofs.Common.{◌≡◌, ℕ, ◌+◌, ◌*◌, ◌-◌, ◌/◌, ◌<◌, ◌≤◌, true, false, List, [], ◌∷◌, ◌++◌, length, get_or, map, Option, Some, None, refl, sym, ap, ◌∙◌, arith, inl, inr}
use Rattle.std.specs.List.{range_with_len}
use Rattle.std.proofs.lemmas.Bool.{cases_Bool, false≢true}
use Rattle.std.proofs.lemmas.List.{same_lists, length-map, get_or-map}
use Rattle.std.proofs.lemmas.List.FromFn.{map-range_with_len_more, length-map-range_with_len, get_or-map-range_with_len}
use Rattle.std.proofs.lemmas.Nat.{mul-le, div-add-mod'}
use Rattle.row_image.specs.declared.layout.CellKind.{CellKind}
use Rattle.row_image.specs.declared.layout.CellKind.TheVariants.{Bit, Text}
use Rattle.row_image.specs.declared.cell.CellIn.{CellIn}
use Rattle.row_image.specs.declared.cell.CellIn.TheVariants.{Null}
use Rattle.row_image.specs.declared.image.ImageKind.TheVariants.{Rows}
use Rattle.row_image.specs.declared.image.Part.{Part}
use Rattle.row_image.specs.Layout.{width_of, rows_that_fit, row_place}
use Rattle.row_image.specs.Cells.{StoredCell, NullCell, NumberCell, ShortCell, LongCell, given_cell, Takes, Meets}
use Rattle.row_image.specs.Image.{row_count, cell_in, stored_cell, stored_hash, rows_of, part_for, parts_of}
use Rattle.row_image.specs.Parts.{is_long, wanted, begins_fifth, LiesOn, HoldsTexts}
use Rattle.row_image.specs.Rules.{text_limit, IsAccepted}
use Rattle.row_image.specs.Flat.{is_long_in, flat, flattened, base_of, given_flat}
use Rattle.row_image.proofs.ByteLemmas.{SameOn, same_within}
use Rattle.row_image.proofs.LayoutLemmas.{first_place}
use Rattle.row_image.proofs.ListLemmas.{map_same}
use Rattle.row_image.proofs.AcceptedLemmas.{Sound, sound_of}
use Rattle.row_image.proofs.CellRuleLemmas.{KeepsHeap}
use Rattle.row_image.proofs.StoreLemmas.{takes_long}
use Rattle.row_image.proofs.GrownLemmas.{HasHeap}
use Rattle.row_image.proofs.WrittenLemmas.{Written, rows_apart, cell_in_same, stored_row_same, written_cell_in, wanted_long}
use Rattle.row_image.proofs.WrittenAccepted.{PartsAfter, parts_after, text_column}
use Rattle.row_image.proofs.Rebased.{long_fits}
use Rattle.row_image.proofs.FlatPieces.{RowsLie}
use Rattle.row_image.proofs.FlatStored.{short_in, OffsetsFit, flat_stored_row, flat_rows_of}

-- the rows of an accepted image lie on its page, and its offsets are small
pub rows_lie : (kinds : List CellKind) (image : List ℕ) → IsAccepted (Rows kinds) image → 4096 ≤ length image → RowsLie kinds image
unfolding rows_that_fit row_place
rows_lie kinds image accepted page =
    let s = sound_of kinds image accepted in
    let all : row_count image * width_of kinds ≤ (length image - 128) / width_of kinds * width_of kinds = mul-le (row_count image) (width_of kinds) ((length image - 128) / width_of kinds) (width_of kinds) s.rows (omega arith) in
    record { page = omega arith; all = omega (arith, all, div-add-mod' (length image - 128) (width_of kinds)) }

pub offsets_fit : (kinds : List CellKind) (image : List ℕ) → IsAccepted (Rows kinds) image → length image ≤ 262144 → OffsetsFit kinds image
offsets_fit kinds image accepted small = record {
  fit = λ row column below inside long.
      let fits = (long_fits kinds image row column ((sound_of kinds image accepted).cell row column below inside) long).2 in
      omega (arith, fits.high);
}

any_base : (cell : StoredCell) (a b : ℕ) → (is_long cell ≡ true → a ≡ b) → flattened a cell ≡ flattened b cell
any_base NullCell a b h = refl
any_base (NumberCell z) a b h = refl
any_base (ShortCell text) a b h = refl
any_base (LongCell prefix size address) a b h = ap (λ base. LongCell prefix size (address - base)) (h refl)

pub base_known : (heap : Option (ℕ × ℕ)) (part : Part) (page : ℕ) (cell : StoredCell) → LiesOn page heap cell → is_long cell ≡ true → ((h : ℕ × ℕ) → heap ≡ Some h → HasHeap part h) → part.base ≡ base_of heap
base_known heap part page NullCell on long has = absurd (false≢true long)
base_known heap part page (NumberCell z) on long has = absurd (false≢true long)
base_known heap part page (ShortCell text) on long has = absurd (false≢true long)
base_known None part page (LongCell prefix size address) on long has = absurd on
base_known (Some heap) part page (LongCell prefix size address) on long has = (has heap refl).base

pub long_is_text : (kind : CellKind) (limit : ℕ) (cell : StoredCell) → Takes kind limit cell → is_long cell ≡ true → kind ≡ Text
long_is_text kind limit NullCell takes long = absurd (false≢true long)
long_is_text kind limit (NumberCell z) takes long = absurd (false≢true long)
long_is_text kind limit (ShortCell text) takes long = absurd (false≢true long)
long_is_text kind limit (LongCell prefix size address) takes long = (takes_long kind limit prefix size address takes).0

new_flat_cells : (kinds : List CellKind) (old new : List ℕ) (cells : List CellIn) (hash : ℕ) (heap : Option (ℕ × ℕ)) → Written kinds old new cells hash heap → PartsAfter kinds old new cells heap → Meets kinds (text_limit (length old)) cells → HoldsTexts (length old) (parts_of old) cells heap →
    map (λ column. flattened (part_for new (row_count old)).base (stored_cell kinds new (row_count old) column)) (range_with_len 0 (length kinds)) ≡ map (λ cell. flattened (base_of heap) (given_cell cell)) cells
new_flat_cells kinds old new cells hash heap w p meets holds =
    let part = part_for new (row_count old) in
    let G = λ (column : ℕ). flattened part.base (stored_cell kinds new (row_count old) column) in
    let H = λ (cell : CellIn). flattened (base_of heap) (given_cell cell) in
    same_lists (map G (range_with_len 0 (length kinds))) (map H cells) (length-map-range_with_len G 0 (length kinds) ∙ sym (length-map cells H ∙ meets.count))
    (λ k d below.
    let inside : k < length kinds = omega (arith, length-map-range_with_len G 0 (length kinds), below) in
    let counted : k < length cells = omega (arith, meets.count) in
    let cell = given_cell (get_or cells k Null) in
    get_or-map-range_with_len G 0 (length kinds) k k d inside (omega arith)
    ∙ ap (flattened part.base) (written_cell_in kinds (text_limit (length old)) new (row_place kinds (row_count old)) cells hash k w.row meets inside)
    ∙ any_base cell part.base (base_of heap) (λ long.
    base_known heap part (length old) cell (holds.each k counted) long (λ h e. p.held (text_column kinds k inside (long_is_text (get_or kinds k Bit) (text_limit (length old)) cell (meets.each k inside) long)) h (wanted_long cells heap k counted long ∙ e)))
    ∙ sym (get_or-map H cells k Null d counted))

old_flat_row : (kinds : List CellKind) (old new : List ℕ) (row : ℕ) → Sound kinds old → row < row_count old → KeepsHeap (part_for old row) (part_for new row) → SameOn old new (row_place kinds row) (row_place kinds row + width_of kinds) → row_place kinds row + width_of kinds ≤ length old → flat_stored_row kinds new row ≡ flat_stored_row kinds old row
unfolding flat_stored_row
old_flat_row kinds old new row s below keeps h fits =
    let at = row_place kinds row in
    let a = (part_for new row).base in
    let b = (part_for old row).base in
    let hash = ap (λ r. r.hash) (stored_row_same kinds old new row h fits) in
    let cells = map_same (λ column. flattened a (stored_cell kinds new row column)) (λ column. flattened b (stored_cell kinds old row column)) (length kinds) (λ column inside.
    ap (flattened a) (cell_in_same kinds old new at column h fits inside) ∙
    elim (cases_Bool (is_long_in kinds old at column)) [
      | inl long ↦ let there = (long_fits kinds old row column (s.cell row column below inside) long).2 in ap (λ base. flattened base (cell_in kinds old at column)) (keeps.base there.heap)
      | inr short ↦ short_in kinds old at a column short ∙ sym (short_in kinds old at b column short)
    ]) in
    λ i. record { hash = hash i; cells = cells i }

pub written_flat : (kinds : List CellKind) (old new : List ℕ) (cells : List CellIn) (hash : ℕ) (heap : Option (ℕ × ℕ)) → Written kinds old new cells hash heap → IsAccepted (Rows kinds) old → IsAccepted (Rows kinds) new → Meets kinds (text_limit (length old)) cells → HoldsTexts (length old) (parts_of old) cells heap → begins_fifth (parts_of old) (wanted cells heap) ≡ false → 4096 ≤ length old → length old ≤ 262144 →
    rows_of kinds (flat (Rows kinds) new) ≡ rows_of kinds (flat (Rows kinds) old) ++ given_flat cells hash heap ∷ []
unfolding flat_stored_row stored_hash
written_flat kinds old new cells hash heap w accepted accepted' meets holds room page small =
    let s = sound_of kinds old accepted in
    let p = parts_after kinds old new cells hash heap w s holds.is room in
    let n = row_count old in
    let lies = rows_lie kinds old accepted page in
    let last : flat_stored_row kinds new n ≡ given_flat cells hash heap = let cells_are = new_flat_cells kinds old new cells hash heap w p meets holds in λ i. record { hash = w.row.hash_is i; cells = cells_are i } in
    flat_rows_of kinds new (rows_lie kinds new accepted' (omega (arith, w.long))) (offsets_fit kinds new accepted' (omega (arith, w.long)))
    ∙ ap (λ count. map (λ row. flat_stored_row kinds new row) (range_with_len 0 count)) w.count
    ∙ map-range_with_len_more (λ row. flat_stored_row kinds new row) 0 n n (omega arith)
    ∙ ap (λ row. map (λ r. flat_stored_row kinds new r) (range_with_len 0 n) ++ row ∷ []) last
    ∙ ap (λ front. front ++ given_flat cells hash heap ∷ []) (map_same (λ row. flat_stored_row kinds new row) (λ row. flat_stored_row kinds old row) n (λ row less.
    let apart = rows_apart kinds row n less in
    old_flat_row kinds old new row s less (p.keeps row less) (same_within old new 128 (row_place kinds n) (row_place kinds row) (row_place kinds row + width_of kinds) w.body (first_place kinds row) apart) (omega (arith, apart, lies.all)))
    ∙ sym (flat_rows_of kinds old lies (offsets_fit kinds old accepted small)))
