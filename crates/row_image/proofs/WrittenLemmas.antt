-- What a page is after a row was written.
use Rattle.std.proofs.Common.{◌≡◌, ◌≢◌, ℕ, ◌+◌, ◌*◌, ◌/◌, ◌%◌, ◌<◌, ◌≤◌, Bool, true, false, cond, List, [], ◌∷◌, ◌++◌, length, get_or, map, Option, Some, None, pos, refl, sym, ap, subst, ◌∙◌, arith}
use Rattle.std.specs.Prelude.{◌==◌, IfSome, slice_index}
use Rattle.std.specs.List.{range_with_len}
use Rattle.std.specs.Int.{bit_at}
use Rattle.std.proofs.lemmas.List.{same_lists, length-map, get_or-map, get_or_default}
use Rattle.std.proofs.lemmas.List.Folds.{list_any_at}
use Rattle.std.proofs.lemmas.List.FromFn.{length-map-range_with_len, get_or-map-range_with_len, map-range_with_len_more}
use Rattle.std.proofs.lemmas.Nat.{mul-le}
use Rattle.row_image.specs.declared.layout.CellKind.{CellKind}
use Rattle.row_image.specs.declared.layout.CellKind.TheVariants.{Bit}
use Rattle.row_image.specs.declared.cell.CellIn.{CellIn}
use Rattle.row_image.specs.declared.cell.CellIn.TheVariants.{Null, Number}
use Rattle.row_image.specs.declared.image.Part.{Part}
use Rattle.row_image.specs.Bytes.{ChangesOnly}
use Rattle.row_image.specs.Layout.{cell_width, mask_bytes, offset_of, width_of, has_texts, row_place}
use Rattle.row_image.specs.Cells.{StoredCell, NullCell, NumberCell, ShortCell, LongCell, given_cell, null_number, Meets}
use Rattle.row_image.specs.Image.{row_count, part_count, is_null, cell_at, cell_in, stored_cell, stored_hash, stored_row, rows_of, parts_of, no_heap}
use Rattle.row_image.specs.Parts.{given_row, is_long, wanted, parts_with, IsHeap, LiesOn}
use Rattle.row_image.specs.Rules.{Rule, first_damage}
use Rattle.row_image.specs.Stores.{StoresAt, StoresRow}
use Rattle.row_image.proofs.ByteLemmas.{SameOn, number_at_same, number_at_before, same_within}
use Rattle.row_image.proofs.LayoutLemmas.{width_of_least, cell_ends, mask_holds, first_place}
use Rattle.row_image.proofs.StoreLemmas.{cell_at_same}
use Rattle.row_image.proofs.ListLemmas.{map_same}
use Rattle.row_image.proofs.CellRuleLemmas.{LiesIn}
use Rattle.row_image.proofs.PartLemmas.{parts_same}
use Rattle.row_image.proofs.GrownLemmas.{HasHeap}

-- what a write of a row leaves
pub record Written (kinds : List CellKind) (old new : List ℕ) (cells : List CellIn) (hash : ℕ) (heap : Option (ℕ × ℕ)) : Type 0 where
  pub long : length new ≡ length old
  pub head : SameOn old new 0 8
  pub body : SameOn old new 128 (row_place kinds (row_count old))
  pub count : row_count new ≡ row_count old + 1
  pub row : StoresRow kinds new (row_place kinds (row_count old)) cells hash
  pub parts : parts_of new ≡ cond (has_texts kinds) (parts_with (parts_of old) (row_count old) (wanted cells heap)) (parts_of old)

pub written_of : (kinds : List CellKind) (old mid new : List ℕ) (cells : List CellIn) (hash : ℕ) (heap want : Option (ℕ × ℕ)) →
    want ≡ wanted cells heap → length mid ≡ length old → length new ≡ length mid → ChangesOnly old mid 12 128 →
    parts_of mid ≡ cond (has_texts kinds) (parts_with (parts_of old) (row_count old) want) (parts_of old) → part_count mid ≤ 4 →
    row_count new ≡ row_count mid + 1 → StoresRow kinds new (row_place kinds (row_count mid)) cells hash →
    ((k : ℕ) → k < 8 → slice_index new k ≡ slice_index mid k) → ((k : ℕ) → 12 ≤ k → k < row_place kinds (row_count mid) → slice_index new k ≡ slice_index mid k) →
    Written kinds old new cells hash heap
written_of kinds old mid new cells hash heap want e long long' others parts few count row kind rest =
    let n : row_count mid ≡ row_count old = number_at_before old mid 12 128 others 8 4 (omega arith) in
    let place = ap (row_place kinds) n in
    record {
      long = long' ∙ long;
      head = record { long = long' ∙ long; same = λ k low high. kind k high ∙ others.before k (omega arith) };
      body = record { long = long' ∙ long; same = λ k low high. rest k (omega arith) (omega (arith, place)) ∙ others.after k low };
      count = count ∙ ap (λ m. m + 1) n;
      row = let P : ℕ → Type 0 = λ at. StoresRow kinds new at cells hash in subst P place row;
      parts = parts_same mid new (record { long = long'; same = λ k low high. rest k low (omega (arith, first_place kinds (row_count mid))) }) few ∙ parts ∙ ap (λ w. cond (has_texts kinds) (parts_with (parts_of old) (row_count old) w) (parts_of old)) e;
    }

pub rows_apart : (kinds : List CellKind) (row other : ℕ) → row < other → row_place kinds row + width_of kinds ≤ row_place kinds other
unfolding row_place
rows_apart kinds row other less = let all : (row + 1) * width_of kinds ≤ other * width_of kinds = mul-le (row + 1) (width_of kinds) other (width_of kinds) (omega arith) (omega arith) in omega arith

pub is_null_same : (kinds : List CellKind) (old new : List ℕ) (at column : ℕ) → SameOn old new at (at + width_of kinds) → column < length kinds → is_null new at column ≡ is_null old at column
unfolding is_null
is_null_same kinds old new at column h inside = ap (λ byte. bit_at byte (column % 8) == 1) (h.same (at + column / 8) (omega arith) (omega (arith, mask_holds kinds column inside, width_of_least kinds)))

cell_same : (kinds : List CellKind) (old new : List ℕ) (at column : ℕ) → SameOn old new at (at + width_of kinds) → column < length kinds → SameOn old new (at + offset_of kinds column) (at + offset_of kinds column + cell_width (get_or kinds column Bit))
cell_same kinds old new at column h inside = same_within old new at (at + width_of kinds) (at + offset_of kinds column) (at + offset_of kinds column + cell_width (get_or kinds column Bit)) h (omega arith) (omega (arith, cell_ends kinds column inside))

pub cell_in_same : (kinds : List CellKind) (old new : List ℕ) (at column : ℕ) → SameOn old new at (at + width_of kinds) → at + width_of kinds ≤ length old → column < length kinds → cell_in kinds new at column ≡ cell_in kinds old at column
unfolding cell_in
cell_in_same kinds old new at column h fits inside =
    let kind = get_or kinds column Bit in
    let place = at + offset_of kinds column in
    ap (λ b. cond b NullCell (cell_at kind new place)) (is_null_same kinds old new at column h inside)
    ∙ ap (λ cell. cond (is_null old at column) NullCell cell) (cell_at_same kind old new place (cell_same kinds old new at column h inside) (omega (arith, cell_ends kinds column inside)))

pub stored_row_same : (kinds : List CellKind) (old new : List ℕ) (row : ℕ) → SameOn old new (row_place kinds row) (row_place kinds row + width_of kinds) → row_place kinds row + width_of kinds ≤ length old → stored_row kinds new row ≡ stored_row kinds old row
unfolding stored_hash
stored_row_same kinds old new row h fits =
    let at = row_place kinds row in
    let hash = number_at_same old new at (at + width_of kinds) h (at + mask_bytes kinds) 8 (omega arith) (omega (arith, width_of_least kinds)) in
    let cells = map_same (λ column. stored_cell kinds new row column) (λ column. stored_cell kinds old row column) (length kinds) (λ column inside. cell_in_same kinds old new at column h fits inside) in
    λ i. record { hash = hash i; cells = cells i }

cell_is : (null : Bool) (kind : CellKind) (image : List ℕ) (at : ℕ) (cell : StoredCell) → null ≡ (null_number cell == 1) → StoresAt kind image at cell → cond null NullCell (cell_at kind image at) ≡ cell
cell_is null kind image at NullCell e s = ap (λ b. cond b NullCell (cell_at kind image at)) e
cell_is null kind image at (NumberCell z) e s = ap (λ b. cond b NullCell (cell_at kind image at)) e ∙ s
cell_is null kind image at (ShortCell text) e s = ap (λ b. cond b NullCell (cell_at kind image at)) e ∙ s.0
cell_is null kind image at (LongCell prefix size address) e s = ap (λ b. cond b NullCell (cell_at kind image at)) e ∙ s

pub null_is : (kinds : List CellKind) (limit : ℕ) (image : List ℕ) (at : ℕ) (cells : List CellIn) (hash column : ℕ) → StoresRow kinds image at cells hash → Meets kinds limit cells → column < length kinds → is_null image at column ≡ (null_number (given_cell (get_or cells column Null)) == 1)
null_is kinds limit image at cells hash column s meets inside =
    s.nulls column inside ∙ ap (λ cell. null_number (given_cell cell) == 1) (get_or_default cells column (Number (pos 0)) Null (omega (arith, meets.count)))

pub written_cell_in : (kinds : List CellKind) (limit : ℕ) (image : List ℕ) (at : ℕ) (cells : List CellIn) (hash column : ℕ) → StoresRow kinds image at cells hash → Meets kinds limit cells → column < length kinds → cell_in kinds image at column ≡ given_cell (get_or cells column Null)
unfolding cell_in
written_cell_in kinds limit image at cells hash column s meets inside =
    cell_is (is_null image at column) (get_or kinds column Bit) image (at + offset_of kinds column) (given_cell (get_or cells column Null)) (null_is kinds limit image at cells hash column s meets inside) (s.stored column inside)

written_cells : (kinds : List CellKind) (limit : ℕ) (image : List ℕ) (at : ℕ) (cells : List CellIn) (hash : ℕ) → StoresRow kinds image at cells hash → Meets kinds limit cells → map (λ column. cell_in kinds image at column) (range_with_len 0 (length kinds)) ≡ map given_cell cells
unfolding cell_in
written_cells kinds limit image at cells hash s meets =
    same_lists _ _ (length-map-range_with_len (λ column. cell_in kinds image at column) 0 (length kinds) ∙ sym (length-map cells given_cell ∙ meets.count))
    (λ k d below.
    let inside : k < length kinds = omega (arith, length-map-range_with_len (λ column. cell_in kinds image at column) 0 (length kinds), below) in
    get_or-map-range_with_len (λ column. cell_in kinds image at column) 0 (length kinds) k k d inside (omega arith)
    ∙ cell_is (is_null image at k) (get_or kinds k Bit) image (at + offset_of kinds k) (given_cell (get_or cells k Null)) (null_is kinds limit image at cells hash k s meets inside) (s.stored k inside)
    ∙ sym (get_or-map given_cell cells k Null d (omega (arith, meets.count))))

-- the row is the last, and the others are as they were
pub written_rows : (kinds : List CellKind) (limit : ℕ) (old new : List ℕ) (cells : List CellIn) (hash : ℕ) (heap : Option (ℕ × ℕ)) → Written kinds old new cells hash heap → Meets kinds limit cells → row_place kinds (row_count old) ≤ length old → rows_of kinds new ≡ rows_of kinds old ++ given_row cells hash ∷ []
unfolding rows_of stored_hash
written_rows kinds limit old new cells hash heap w meets fits =
    let n = row_count old in
    let at = row_place kinds n in
    let last : stored_row kinds new n ≡ given_row cells hash = let cells_are = written_cells kinds limit new at cells hash w.row meets in λ i. record { hash = w.row.hash_is i; cells = cells_are i } in
    ap (λ count. map (λ row. stored_row kinds new row) (range_with_len 0 count)) w.count
    ∙ map-range_with_len_more (λ row. stored_row kinds new row) 0 n n (omega arith)
    ∙ ap (λ row. map (λ row. stored_row kinds new row) (range_with_len 0 n) ++ row ∷ []) last
    ∙ ap (λ front. front ++ given_row cells hash ∷ []) (map_same (λ row. stored_row kinds new row) (λ row. stored_row kinds old row) n (λ row less.
    stored_row_same kinds old new row (same_within old new 128 at (row_place kinds row) (row_place kinds row + width_of kinds) w.body (first_place kinds row) (rows_apart kinds row n less)) (omega (arith, rows_apart kinds row n less))))

pub ruled : (null : Bool) (was now : List Rule) → (first_damage was ≡ None → first_damage now ≡ None) → first_damage (cond null [] was) ≡ None → first_damage (cond null [] now) ≡ None
ruled true was now go h = refl
ruled false was now go h = go h

pub new_cell : (null : Bool) (rules : List Rule) (cell : StoredCell) → null ≡ (null_number cell == 1) → (cell ≢ NullCell → first_damage rules ≡ None) → first_damage (cond null [] rules) ≡ None
new_cell null rules NullCell e h = ap (λ b. first_damage (cond b [] rules)) e
new_cell null rules (NumberCell z) e h = ap (λ b. first_damage (cond b [] rules)) e ∙ h (λ no. cc)
new_cell null rules (ShortCell text) e h = ap (λ b. first_damage (cond b [] rules)) e ∙ h (λ no. cc)
new_cell null rules (LongCell prefix size address) e h = ap (λ b. first_damage (cond b [] rules)) e ∙ h (λ no. cc)

-- where a cell is long, its row needs the heap page
pub wanted_long : (cells : List CellIn) (heap : Option (ℕ × ℕ)) (column : ℕ) → column < length cells → is_long (given_cell (get_or cells column Null)) ≡ true → wanted cells heap ≡ heap
unfolding wanted
wanted_long cells heap column inside h = ap (λ b. cond b heap None) (list_any_at (λ cell. is_long (given_cell cell)) cells column Null inside h)

pub lies_in : (page : ℕ) (heap : Option (ℕ × ℕ)) (part : Part) (cell : StoredCell) → LiesOn page heap cell → (is_long cell ≡ true → IfSome heap (λ h. (h.0 < no_heap) × HasHeap part h)) → LiesIn page part cell
lies_in page heap part NullCell on has = tt
lies_in page heap part (NumberCell z) on has = tt
lies_in page heap part (ShortCell text) on has = tt
lies_in page None part (LongCell prefix size address) on has = absurd on
lies_in page (Some heap) part (LongCell prefix size address) on has =
    let known = has refl in
    (λ e. absurd (omega (arith, known.0, known.1.number, e)), omega (arith, on.0, known.1.base), omega (arith, on.1, known.1.base))

pub heap_known : (page : ℕ) (parts : List Part) (part : Part) (heap : Option (ℕ × ℕ)) → IfSome heap (IsHeap page parts) → ((h : ℕ × ℕ) → heap ≡ Some h → HasHeap part h) → IfSome heap (λ h. (h.0 < no_heap) × HasHeap part h)
heap_known page parts part None is has = is
heap_known page parts part (Some h) is has = (is.number, has h refl)
