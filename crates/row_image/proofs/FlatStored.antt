-- The rows of a flat image: those of the image, with offsets for addresses.
use Rattle.std.proofs.Common.{◌≡◌, ℕ, zero, suc, ◌+◌, ◌*◌, ◌-◌, ◌/◌, ◌%◌, ◌^◌, ◌<◌, true, false, not, cond, ltb, leb, List, ◌++◌, length, get_or, map, refl, sym, ap, subst, ◌∙◌, arith, inl, inr}
use Rattle.std.specs.Prelude.{slice_index, slice_range, ◌&&◌, ◌==◌}
use Rattle.std.specs.List.{range_with_len}
use Rattle.std.specs.Int.{bit_at}
use Rattle.std.proofs.lemmas.Bool.{cases_Bool, not-true, and_parts, ltb-true, ltb-false, le-leb}
use Rattle.std.proofs.lemmas.List.{get_or-append-add, get_or_append_left}
use Rattle.std.proofs.lemmas.List.Edits.{length-between, get_or-between}
use Rattle.std.proofs.lemmas.Nat.{div_below}
use Rattle.std.proofs.Math.Nat.{pow-suc}
use Rattle.row_image.specs.declared.layout.CellKind.{CellKind}
use Rattle.row_image.specs.declared.layout.CellKind.TheVariants.{Bit, Four, Eight, Sixteen, Text}
use Rattle.row_image.specs.declared.image.ImageKind.TheVariants.{Rows}
use Rattle.row_image.specs.Bytes.{number_at, number_bytes}
use Rattle.row_image.specs.Layout.{cell_width, is_text, mask_bytes, offset_of, row_place}
use Rattle.row_image.specs.Cells.{NullCell, ShortCell, LongCell}
use Rattle.row_image.specs.Image.{row_count, is_null, cell_at, cell_in, stored_cell, stored_hash, StoredRow, stored_row, rows_of, part_for}
use Rattle.row_image.specs.Parts.{is_long}
use Rattle.row_image.specs.Flat.{is_long_in, flat_cell, flat, flattened}
use Rattle.row_image.proofs.ByteLemmas.{SameOn, number_at_same, slice_range_same}
use Rattle.row_image.proofs.LayoutLemmas.{width_of_least, cell_ends, mask_holds}
use Rattle.row_image.proofs.ListLemmas.{map_same}
use Rattle.row_image.proofs.StoreLemmas.{cell_at_same, cell_at_long}
use Rattle.row_image.proofs.MoveLemmas.{long_kind}
use Rattle.row_image.proofs.FlatPieces.{flat_row_head, flat_row_cell, RowsLie, row_within, flat_length, flat_at_row, flat_at_head}

pub number_at_bytes : (image : List ℕ) (at n x : ℕ) → ((i : ℕ) → i < n → slice_index image (at + i) ≡ get_or (number_bytes n x) i 0) → x < 256 ^ n → number_at image at n ≡ x
unfolding number_at number_bytes
number_at_bytes image at zero x h small = omega arith
number_at_bytes image at (suc n) x h small =
    let first : slice_index image at ≡ x % 256 = ap (slice_index image) (let e : at ≡ at + 0 = omega arith in e) ∙ h 0 (omega arith) in
    let below : x < 256 ^ n * 256 = let P : ℕ → Type 0 = λ m. x < m in subst P (pow-suc 256 n) small in
    let rest : number_at image (at + 1) n ≡ x / 256 = number_at_bytes image (at + 1) n (x / 256) (λ i inside. ap (slice_index image) (let e : at + 1 + i ≡ at + suc i = omega arith in e) ∙ h (suc i) (omega arith)) (div_below x 256 (256 ^ n) (omega arith) below) in
    omega (arith, first, rest)

flat_same_row : (kinds : List CellKind) (image : List ℕ) (row : ℕ) → RowsLie kinds image → row < row_count image → SameOn image (flat (Rows kinds) image) (row_place kinds row) (row_place kinds row + mask_bytes kinds + 8)
flat_same_row kinds image row h below = record {
  long = flat_length kinds image h;
  same = λ k low high.
      let at = row_place kinds row in
      let e : k ≡ at + (k - at) = omega arith in
      ap (slice_index (flat (Rows kinds) image)) e ∙ flat_at_row kinds image row (k - at) h below (omega (arith, width_of_least kinds))
      ∙ flat_row_head kinds image row (k - at) (row_within kinds image row h below) (omega arith) ∙ ap (slice_index image) (sym e);
}

flat_at_cell : (kinds : List CellKind) (image : List ℕ) (row column j : ℕ) → RowsLie kinds image → row < row_count image → column < length kinds → j < cell_width (get_or kinds column Bit) → slice_index (flat (Rows kinds) image) (row_place kinds row + offset_of kinds column + j) ≡ get_or (flat_cell kinds image (row_place kinds row) (part_for image row).base column) j 0
flat_at_cell kinds image row column j h below inside within =
    ap (slice_index (flat (Rows kinds) image)) (let e : row_place kinds row + offset_of kinds column + j ≡ row_place kinds row + (offset_of kinds column + j) = omega arith in e)
    ∙ flat_at_row kinds image row (offset_of kinds column + j) h below (omega (arith, cell_ends kinds column inside))
    ∙ flat_row_cell kinds image row column j (row_within kinds image row h below) inside within

short_same : (kinds : List CellKind) (image : List ℕ) (row column : ℕ) → RowsLie kinds image → row < row_count image → column < length kinds → is_long_in kinds image (row_place kinds row) column ≡ false → SameOn image (flat (Rows kinds) image) (row_place kinds row + offset_of kinds column) (row_place kinds row + offset_of kinds column + cell_width (get_or kinds column Bit))
unfolding flat_cell
short_same kinds image row column h below inside short = record {
  long = flat_length kinds image h;
  same = λ k low high.
      let place = row_place kinds row + offset_of kinds column in
      let width = cell_width (get_or kinds column Bit) in
      let e : k ≡ place + (k - place) = omega arith in
      ap (slice_index (flat (Rows kinds) image)) e ∙ flat_at_cell kinds image row column (k - place) h below inside (omega arith)
      ∙ ap (λ b. get_or (cond b (slice_range image place (place + 8) ++ number_bytes 8 (number_at image (place + 8) 8 - (part_for image row).base)) (slice_range image place (place + width))) (k - place) 0) short
      ∙ get_or-between image place (place + width) (k - place) 0 (omega arith) ∙ ap (slice_index image) (sym e);
}

-- the bytes of a long text's cell
long_same : (kinds : List CellKind) (image : List ℕ) (row column : ℕ) → RowsLie kinds image → row < row_count image → column < length kinds → is_long_in kinds image (row_place kinds row) column ≡ true → SameOn image (flat (Rows kinds) image) (row_place kinds row + offset_of kinds column) (row_place kinds row + offset_of kinds column + 8)
unfolding flat_cell
long_same kinds image row column h below inside long = record {
  long = flat_length kinds image h;
  same = λ k low high.
      let place = row_place kinds row + offset_of kinds column in
      let wide = ap cell_width (long_kind kinds image (row_place kinds row) column long) in
      let width = cell_width (get_or kinds column Bit) in
      let front = slice_range image place (place + 8) in
      let back = number_bytes 8 (number_at image (place + 8) 8 - (part_for image row).base) in
      let e : k ≡ place + (k - place) = omega arith in
      let fits = row_within kinds image row h below in
      let front_long : length front ≡ 8 = length-between image place (place + 8) (omega (arith, cell_ends kinds column inside, wide)) ∙ omega arith in
      ap (slice_index (flat (Rows kinds) image)) e ∙ flat_at_cell kinds image row column (k - place) h below inside (omega (arith, wide))
      ∙ ap (λ b. get_or (cond b (front ++ back) (slice_range image place (place + width))) (k - place) 0) long
      ∙ get_or_append_left front back 0 (k - place) (omega (arith, front_long))
      ∙ get_or-between image place (place + 8) (k - place) 0 (omega arith) ∙ ap (slice_index image) (sym e);
}

long_address : (kinds : List CellKind) (image : List ℕ) (row column : ℕ) → RowsLie kinds image → row < row_count image → column < length kinds → is_long_in kinds image (row_place kinds row) column ≡ true → number_at image (row_place kinds row + offset_of kinds column + 8) 8 - (part_for image row).base < 256 ^ 8 → number_at (flat (Rows kinds) image) (row_place kinds row + offset_of kinds column + 8) 8 ≡ number_at image (row_place kinds row + offset_of kinds column + 8) 8 - (part_for image row).base
unfolding flat_cell
long_address kinds image row column h below inside long small =
    let place = row_place kinds row + offset_of kinds column in
    let wide = ap cell_width (long_kind kinds image (row_place kinds row) column long) in
    let width = cell_width (get_or kinds column Bit) in
    let offset = number_at image (place + 8) 8 - (part_for image row).base in
    let front = slice_range image place (place + 8) in
    let fits = row_within kinds image row h below in
    let front_long : length front ≡ 8 = length-between image place (place + 8) (omega (arith, cell_ends kinds column inside, wide)) ∙ omega arith in
    number_at_bytes (flat (Rows kinds) image) (place + 8) 8 offset (λ i less.
    ap (slice_index (flat (Rows kinds) image)) (let e : place + 8 + i ≡ place + (8 + i) = omega arith in e) ∙ flat_at_cell kinds image row column (8 + i) h below inside (omega (arith, wide))
    ∙ ap (λ b. get_or (cond b (front ++ number_bytes 8 offset) (slice_range image place (place + width))) (8 + i) 0) long
    ∙ ap (λ j. get_or (front ++ number_bytes 8 offset) j 0) (let e : 8 + i ≡ length front + i = omega (arith, front_long) in e)
    ∙ get_or-append-add front (number_bytes 8 offset) i 0) small

-- a cell that isn't long has no address
short_flattened : (kind : CellKind) (image : List ℕ) (at base : ℕ) → (is_text kind && ltb 12 (number_at image at 4)) ≡ false → flattened base (cell_at kind image at) ≡ cell_at kind image at
unfolding cell_at
short_flattened Bit image at base h = refl
short_flattened Four image at base h = refl
short_flattened Eight image at base h = refl
short_flattened Sixteen image at base h = refl
short_flattened Text image at base h =
    let size = number_at image at 4 in
    let short : leb size 12 ≡ true = le-leb size 12 (ltb-false 12 size h) in
    ap (λ b. flattened base (cond b (ShortCell (slice_range image (at + 4) (at + 4 + size))) (LongCell (slice_range image (at + 4) (at + 8)) size (number_at image (at + 8) 8)))) short
    ∙ sym (ap (λ b. cond b (ShortCell (slice_range image (at + 4) (at + 4 + size))) (LongCell (slice_range image (at + 4) (at + 8)) size (number_at image (at + 8) 8))) short)

pub short_in : (kinds : List CellKind) (image : List ℕ) (at base column : ℕ) → is_long_in kinds image at column ≡ false → flattened base (cell_in kinds image at column) ≡ cell_in kinds image at column
unfolding cell_in is_long_in
short_in kinds image at base column h =
    let kind = get_or kinds column Bit in
    let place = at + offset_of kinds column in
    elim (cases_Bool (is_null image at column)) [
      | inl null ↦ ap (λ b. flattened base (cond b NullCell (cell_at kind image place))) null ∙ sym (ap (λ b. cond b NullCell (cell_at kind image place)) null)
      | inr there ↦
          let short : (is_text kind && ltb 12 (number_at image place 4)) ≡ false = sym (ap (λ b. not b && (is_text kind && ltb 12 (number_at image place 4))) there) ∙ h in
          ap (λ b. flattened base (cond b NullCell (cell_at kind image place))) there ∙ short_flattened kind image place base short ∙ sym (ap (λ b. cond b NullCell (cell_at kind image place)) there)
    ]

short_kind : (kind : CellKind) (image : List ℕ) (at : ℕ) → (is_text kind && ltb 12 (number_at image at 4)) ≡ false → is_long (cell_at kind image at) ≡ false
unfolding cell_at
short_kind Bit image at h = refl
short_kind Four image at h = refl
short_kind Eight image at h = refl
short_kind Sixteen image at h = refl
short_kind Text image at h =
    let size = number_at image at 4 in
    ap (λ b. is_long (cond b (ShortCell (slice_range image (at + 4) (at + 4 + size))) (LongCell (slice_range image (at + 4) (at + 8)) size (number_at image (at + 8) 8)))) (le-leb size 12 (ltb-false 12 size h))

pub not_long_cell : (kinds : List CellKind) (image : List ℕ) (at column : ℕ) → is_long_in kinds image at column ≡ false → is_long (cell_in kinds image at column) ≡ false
unfolding cell_in is_long_in
not_long_cell kinds image at column h =
    let kind = get_or kinds column Bit in
    let place = at + offset_of kinds column in
    elim (cases_Bool (is_null image at column)) [
      | inl null ↦ ap (λ b. is_long (cond b NullCell (cell_at kind image place))) null
      | inr there ↦
          let short : (is_text kind && ltb 12 (number_at image place 4)) ≡ false = sym (ap (λ b. not b && (is_text kind && ltb 12 (number_at image place 4))) there) ∙ h in
          ap (λ b. is_long (cond b NullCell (cell_at kind image place))) there ∙ short_kind kind image place short
    ]

-- a long text's cell
pub long_in : (kinds : List CellKind) (image : List ℕ) (at column : ℕ) → is_long_in kinds image at column ≡ true → cell_in kinds image at column ≡ LongCell (slice_range image (at + offset_of kinds column + 4) (at + offset_of kinds column + 8)) (number_at image (at + offset_of kinds column) 4) (number_at image (at + offset_of kinds column + 8) 8)
unfolding cell_in is_long_in
long_in kinds image at column h =
    let kind = get_or kinds column Bit in
    let place = at + offset_of kinds column in
    let size = ltb 12 (number_at image place 4) in
    let both = and_parts (not (is_null image at column)) (is_text kind && size) h in
    let more : 12 < number_at image place 4 = ltb-true 12 (number_at image place 4) (and_parts (is_text kind) size both.1).1 in
    ap (λ b. cond b NullCell (cell_at kind image place)) (not-true (is_null image at column) both.0)
    ∙ ap (λ k. cell_at k image place) (long_kind kinds image at column h)
    ∙ cell_at_long image place (slice_range image (place + 4) (place + 8)) (number_at image place 4) (number_at image (place + 8) 8) refl (omega arith) refl refl

flat_null : (kinds : List CellKind) (image : List ℕ) (row column : ℕ) → RowsLie kinds image → row < row_count image → column < length kinds → is_null (flat (Rows kinds) image) (row_place kinds row) column ≡ is_null image (row_place kinds row) column
unfolding is_null
flat_null kinds image row column h below inside = ap (λ byte. bit_at byte (column % 8) == 1) ((flat_same_row kinds image row h below).same (row_place kinds row + column / 8) (omega arith) (omega (arith, mask_holds kinds column inside)))

flat_long : (kinds : List CellKind) (image : List ℕ) (row column : ℕ) → RowsLie kinds image → row < row_count image → column < length kinds → is_long_in kinds image (row_place kinds row) column ≡ true → is_long_in kinds (flat (Rows kinds) image) (row_place kinds row) column ≡ true
unfolding is_long_in
flat_long kinds image row column h below inside long =
    let at = row_place kinds row in
    let kind = get_or kinds column Bit in
    let place = at + offset_of kinds column in
    let new = flat (Rows kinds) image in
    let size = number_at_same image new place (place + 8) (long_same kinds image row column h below inside long) place 4 (omega arith) (omega arith) in
    ap (λ b. not b && (is_text kind && ltb 12 (number_at new place 4))) (flat_null kinds image row column h below inside) ∙ ap (λ n. not (is_null image at column) && (is_text kind && ltb 12 n)) size ∙ long

-- what a cell of the flat image holds
pub flat_cell_in : (kinds : List CellKind) (image : List ℕ) (row column : ℕ) → RowsLie kinds image → row < row_count image → column < length kinds → (is_long_in kinds image (row_place kinds row) column ≡ true → number_at image (row_place kinds row + offset_of kinds column + 8) 8 - (part_for image row).base < 256 ^ 8) → cell_in kinds (flat (Rows kinds) image) (row_place kinds row) column ≡ flattened (part_for image row).base (cell_in kinds image (row_place kinds row) column)
unfolding cell_in
flat_cell_in kinds image row column h below inside small =
    let at = row_place kinds row in
    let kind = get_or kinds column Bit in
    let place = at + offset_of kinds column in
    let base = (part_for image row).base in
    let new = flat (Rows kinds) image in
    let fits = row_within kinds image row h below in
    elim (cases_Bool (is_long_in kinds image at column)) [
      | inl long ↦
          let wide = ap cell_width (long_kind kinds image at column long) in
          let same = long_same kinds image row column h below inside long in
          long_in kinds new at column (flat_long kinds image row column h below inside long)
          ∙ ap (λ p. LongCell p (number_at new place 4) (number_at new (place + 8) 8)) (slice_range_same image new place (place + 8) same (place + 4) (place + 8) (omega arith) (omega arith) (omega (arith, wide, cell_ends kinds column inside)))
          ∙ ap (λ s. LongCell (slice_range image (place + 4) (place + 8)) s (number_at new (place + 8) 8)) (number_at_same image new place (place + 8) same place 4 (omega arith) (omega arith))
          ∙ ap (LongCell (slice_range image (place + 4) (place + 8)) (number_at image place 4)) (long_address kinds image row column h below inside long (small long))
          ∙ sym (ap (flattened base) (long_in kinds image at column long))
      | inr short ↦
          ap (λ b. cond b NullCell (cell_at kind new place)) (flat_null kinds image row column h below inside)
          ∙ ap (λ cell. cond (is_null image at column) NullCell cell) (cell_at_same kind image new place (short_same kinds image row column h below inside short) (omega (arith, cell_ends kinds column inside)))
          ∙ sym (short_in kinds image at base column short)
    ]

pub flat_hash : (kinds : List CellKind) (image : List ℕ) (row : ℕ) → RowsLie kinds image → row < row_count image → stored_hash kinds (flat (Rows kinds) image) row ≡ stored_hash kinds image row
unfolding stored_hash
flat_hash kinds image row h below =
    let at = row_place kinds row in
    number_at_same image (flat (Rows kinds) image) at (at + mask_bytes kinds + 8) (flat_same_row kinds image row h below) (at + mask_bytes kinds) 8 (omega arith) (omega arith)

pub flat_count : (kinds : List CellKind) (image : List ℕ) → RowsLie kinds image → row_count (flat (Rows kinds) image) ≡ row_count image
flat_count kinds image h =
    let head : SameOn image (flat (Rows kinds) image) 0 32 = record { long = flat_length kinds image h; same = λ k low high. flat_at_head kinds image k h high } in
    number_at_same image (flat (Rows kinds) image) 0 32 head 8 4 (omega arith) (omega arith)

-- offsets are small
pub record OffsetsFit (kinds : List CellKind) (image : List ℕ) : Type 0 where
  pub fit : (row column : ℕ) → row < row_count image → column < length kinds → is_long_in kinds image (row_place kinds row) column ≡ true → number_at image (row_place kinds row + offset_of kinds column + 8) 8 - (part_for image row).base < 256 ^ 8

-- a row of the flat image
unfoldable pub flat_stored_row : List CellKind → List ℕ → ℕ → StoredRow
flat_stored_row kinds image row =
    record { hash = stored_hash kinds image row; cells = map (λ column. flattened (part_for image row).base (stored_cell kinds image row column)) (range_with_len 0 (length kinds)) }

pub flat_rows_of : (kinds : List CellKind) (image : List ℕ) → RowsLie kinds image → OffsetsFit kinds image → rows_of kinds (flat (Rows kinds) image) ≡ map (λ row. flat_stored_row kinds image row) (range_with_len 0 (row_count image))
unfolding rows_of stored_hash flat_stored_row
flat_rows_of kinds image h fit =
    let new = flat (Rows kinds) image in
    let head : SameOn image new 0 32 = record { long = flat_length kinds image h; same = λ k low high. flat_at_head kinds image k h high } in
    let count = number_at_same image new 0 32 head 8 4 (omega arith) (omega arith) in
    ap (λ n. map (λ row. stored_row kinds new row) (range_with_len 0 n)) count
    ∙ map_same (λ row. stored_row kinds new row) (λ row. flat_stored_row kinds image row) (row_count image) (λ row below.
    let at = row_place kinds row in
    let hash = number_at_same image new at (at + mask_bytes kinds + 8) (flat_same_row kinds image row h below) (at + mask_bytes kinds) 8 (omega arith) (omega arith) in
    let cells = map_same (λ column. stored_cell kinds new row column) (λ column. flattened (part_for image row).base (stored_cell kinds image row column)) (length kinds) (λ column inside. flat_cell_in kinds image row column h below inside (fit.fit row column below inside)) in
    λ i. record { hash = hash i; cells = cells i })
