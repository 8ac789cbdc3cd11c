-- The pieces of a flat image: it is as long as the image, and its rows lie where the image's lie.
use Rattle.std.proofs.Common.{◌≡◌, ℕ, zero, suc, ◌+◌, ◌*◌, ◌-◌, ◌/◌, ◌<◌, ◌≤◌, cond, ltb, List, ◌++◌, length, get_or, take, drop, replicate, refl, ap, ◌∙◌, arith, inl, inr, length-append}
use Rattle.std.specs.Prelude.{slice_range}
use Rattle.std.specs.List.{range_with_len, flat_map}
use Rattle.std.proofs.lemmas.Bool.{cases_Bool}
use Rattle.std.proofs.lemmas.List.{length-drop, length-take, get_or-append-add, get_or_append_left, get_or-take}
use Rattle.std.proofs.lemmas.List.Edits.{length-between, get_or-between}
use Rattle.row_image.specs.declared.layout.CellKind.{CellKind}
use Rattle.row_image.specs.declared.layout.CellKind.TheVariants.{Bit}
use Rattle.row_image.specs.declared.image.ImageKind.TheVariants.{Rows}
use Rattle.row_image.specs.Bytes.{number_at, number_bytes}
use Rattle.row_image.specs.Layout.{cell_width, mask_bytes, offset_of, width_of, row_place}
use Rattle.row_image.specs.Image.{row_count, part_count, part_place, part_for}
use Rattle.row_image.specs.Flat.{is_long_in, flat_cell, flat_row, flat_part, flat}
use Rattle.row_image.proofs.LayoutLemmas.{width_of_least, offset_of_least, offset_of_next, offset_of_past, cell_ends, first_place}
use Rattle.row_image.proofs.MoveLemmas.{long_kind}
use Rattle.row_image.proofs.PieceLemmas.{Laid, pieces_length, pieces_at}
use Rattle.row_image.proofs.WrittenLemmas.{rows_apart}

pub number_bytes_length : (n x : ℕ) → length (number_bytes n x) ≡ n
unfolding number_bytes
number_bytes_length zero x = refl
number_bytes_length (suc n) x = ap suc (number_bytes_length n (x / 256))

pub flat_cell_length : (kinds : List CellKind) (image : List ℕ) (at base column : ℕ) → at + width_of kinds ≤ length image → column < length kinds → length (flat_cell kinds image at base column) ≡ cell_width (get_or kinds column Bit)
unfolding flat_cell
flat_cell_length kinds image at base column fits inside =
    let place = at + offset_of kinds column in
    let ends = cell_ends kinds column inside in
    elim (cases_Bool (is_long_in kinds image at column)) [
      | inl long ↦
          let wide = ap cell_width (long_kind kinds image at column long) in
          rw long (length-append (slice_range image place (place + 8)) (number_bytes 8 (number_at image (place + 8) 8 - base))
          ∙ omega (arith, length-between image place (place + 8) (omega (arith, wide, ends)), number_bytes_length 8 (number_at image (place + 8) 8 - base), wide))
      | inr short ↦ rw short (length-between image place (place + cell_width (get_or kinds column Bit)) (omega (arith, ends)) ∙ omega arith)
    ]

offset_none : (kinds : List CellKind) → offset_of kinds 0 ≡ mask_bytes kinds + 8
unfolding offset_of
offset_none kinds = omega arith

cells_laid : (kinds : List CellKind) (image : List ℕ) (at base : ℕ) → at + width_of kinds ≤ length image → Laid (λ column. flat_cell kinds image at base column) (λ column. offset_of kinds column - (mask_bytes kinds + 8)) (length kinds)
cells_laid kinds image at base fits = record {
  first = omega (arith, offset_none kinds);
  next = λ k inside. omega (arith, offset_of_next kinds k inside, offset_of_least kinds k, flat_cell_length kinds image at base k fits inside);
}

row_head_length : (kinds : List CellKind) (image : List ℕ) (row : ℕ) → row_place kinds row + width_of kinds ≤ length image → length (slice_range image (row_place kinds row) (row_place kinds row + (mask_bytes kinds + 8))) ≡ mask_bytes kinds + 8
row_head_length kinds image row fits = length-between image (row_place kinds row) (row_place kinds row + (mask_bytes kinds + 8)) (omega (arith, width_of_least kinds)) ∙ omega arith

pub flat_row_length : (kinds : List CellKind) (image : List ℕ) (row : ℕ) → row_place kinds row + width_of kinds ≤ length image → length (flat_row kinds image row) ≡ width_of kinds
unfolding flat_row
flat_row_length kinds image row fits =
    let at = row_place kinds row in
    let base = (part_for image row).base in
    let head = slice_range image at (at + (mask_bytes kinds + 8)) in
    let cells = flat_map (λ column. flat_cell kinds image at base column) (range_with_len 0 (length kinds)) in
    length-append head cells ∙ omega (arith, row_head_length kinds image row fits, pieces_length (λ column. flat_cell kinds image at base column) (λ column. offset_of kinds column - (mask_bytes kinds + 8)) (length kinds) (cells_laid kinds image at base fits), offset_of_past kinds (length kinds) (omega arith), width_of_least kinds)

pub flat_row_head : (kinds : List CellKind) (image : List ℕ) (row j : ℕ) → row_place kinds row + width_of kinds ≤ length image → j < mask_bytes kinds + 8 → get_or (flat_row kinds image row) j 0 ≡ get_or image (row_place kinds row + j) 0
unfolding flat_row
flat_row_head kinds image row j fits inside =
    let at = row_place kinds row in
    let head = slice_range image at (at + (mask_bytes kinds + 8)) in
    get_or_append_left head (flat_map (λ column. flat_cell kinds image at (part_for image row).base column) (range_with_len 0 (length kinds))) 0 j (omega (arith, row_head_length kinds image row fits))
    ∙ get_or-between image at (at + (mask_bytes kinds + 8)) j 0 (omega arith)

pub flat_row_cell : (kinds : List CellKind) (image : List ℕ) (row column j : ℕ) → row_place kinds row + width_of kinds ≤ length image → column < length kinds → j < cell_width (get_or kinds column Bit) → get_or (flat_row kinds image row) (offset_of kinds column + j) 0 ≡ get_or (flat_cell kinds image (row_place kinds row) (part_for image row).base column) j 0
unfolding flat_row
flat_row_cell kinds image row column j fits inside below =
    let at = row_place kinds row in
    let base = (part_for image row).base in
    let head = slice_range image at (at + (mask_bytes kinds + 8)) in
    let cells = flat_map (λ column. flat_cell kinds image at base column) (range_with_len 0 (length kinds)) in
    let place : offset_of kinds column + j ≡ length head + (offset_of kinds column - (mask_bytes kinds + 8) + j) = omega (arith, row_head_length kinds image row fits, offset_of_least kinds column) in
    ap (λ i. get_or (head ++ cells) i 0) place ∙ get_or-append-add head cells (offset_of kinds column - (mask_bytes kinds + 8) + j) 0
    ∙ pieces_at (λ column. flat_cell kinds image at base column) (λ column. offset_of kinds column - (mask_bytes kinds + 8)) (length kinds) (cells_laid kinds image at base fits) column j 0 inside (omega (arith, flat_cell_length kinds image at base column fits inside))

row_place_next : (kinds : List CellKind) (row : ℕ) → row_place kinds (row + 1) ≡ row_place kinds row + width_of kinds
unfolding row_place
row_place_next kinds row = omega arith

row_place_none : (kinds : List CellKind) → row_place kinds 0 ≡ 128
unfolding row_place
row_place_none kinds = omega arith

-- all rows lie on the page
pub record RowsLie (kinds : List CellKind) (image : List ℕ) : Type 0 where
  pub page : 128 ≤ length image
  pub all : row_place kinds (row_count image) ≤ length image

pub row_within : (kinds : List CellKind) (image : List ℕ) (row : ℕ) → RowsLie kinds image → row < row_count image → row_place kinds row + width_of kinds ≤ length image
row_within kinds image row h below = omega (arith, h.all, rows_apart kinds row (row_count image) below)

rows_laid : (kinds : List CellKind) (image : List ℕ) → RowsLie kinds image → Laid (λ row. flat_row kinds image row) (λ row. row_place kinds row - 128) (row_count image)
rows_laid kinds image h = record {
  first = omega (arith, row_place_none kinds);
  next = λ k inside. omega (arith, row_place_next kinds k, first_place kinds k, flat_row_length kinds image k (row_within kinds image k h inside));
}

pub flat_part_length : (image : List ℕ) (part : ℕ) → 128 ≤ length image → part < 4 → length (flat_part image part) ≡ 24
unfolding flat_part
flat_part_length image part long inside =
    let at = part_place part in
    let front = slice_range image at (at + 16) in
    let back = slice_range image (at + 16) (at + 24) in
    let first : length front ≡ 16 = length-between image at (at + 16) (omega arith) ∙ omega arith in
    let second : length back ≡ 8 = length-between image (at + 16) (at + 24) (omega arith) ∙ omega arith in
    length-append front (cond (ltb part (part_count image)) (replicate 8 0) back) ∙
    elim (cases_Bool (ltb part (part_count image))) [
      | inl there ↦ ap (λ b. length front + length (cond b (replicate 8 0) back)) there ∙ omega (arith, first)
      | inr past ↦ ap (λ b. length front + length (cond b (replicate 8 0) back)) past ∙ omega (arith, first, second)
    ]

pub parts_laid : (image : List ℕ) → 128 ≤ length image → Laid (λ part. flat_part image part) (λ part. 24 * part) 4
parts_laid image long = record { first = refl; next = λ k inside. omega (arith, flat_part_length image k long inside) }

pub head_length : (image : List ℕ) → 128 ≤ length image → length (take 32 image ++ flat_map (λ part. flat_part image part) (range_with_len 0 4)) ≡ 128
head_length image long =
    length-append (take 32 image) (flat_map (λ part. flat_part image part) (range_with_len 0 4))
    ∙ omega (arith, length-take 32 image, pieces_length (λ part. flat_part image part) (λ part. 24 * part) 4 (parts_laid image long))

-- a flat image is as long as the image
pub flat_length : (kinds : List CellKind) (image : List ℕ) → RowsLie kinds image → length (flat (Rows kinds) image) ≡ length image
unfolding flat
flat_length kinds image h =
    let head = take 32 image ++ flat_map (λ part. flat_part image part) (range_with_len 0 4) in
    let rows = flat_map (λ row. flat_row kinds image row) (range_with_len 0 (row_count image)) in
    let rest = drop (row_place kinds (row_count image)) image in
    length-append (head ++ rows) rest ∙ omega (arith, length-append head rows, head_length image h.page, pieces_length (λ row. flat_row kinds image row) (λ row. row_place kinds row - 128) (row_count image) (rows_laid kinds image h), length-drop (row_place kinds (row_count image)) image, h.all, first_place kinds (row_count image))

-- the bytes of its rows, and of its head
pub flat_at_row : (kinds : List CellKind) (image : List ℕ) (row j : ℕ) → RowsLie kinds image → row < row_count image → j < width_of kinds → get_or (flat (Rows kinds) image) (row_place kinds row + j) 0 ≡ get_or (flat_row kinds image row) j 0
unfolding flat
flat_at_row kinds image row j h below inside =
    let head = take 32 image ++ flat_map (λ part. flat_part image part) (range_with_len 0 4) in
    let rows = flat_map (λ row. flat_row kinds image row) (range_with_len 0 (row_count image)) in
    let rest = drop (row_place kinds (row_count image)) image in
    let long : length (head ++ rows) ≡ row_place kinds (row_count image) = length-append head rows ∙ omega (arith, head_length image h.page, pieces_length (λ row. flat_row kinds image row) (λ row. row_place kinds row - 128) (row_count image) (rows_laid kinds image h), first_place kinds (row_count image)) in
    let place : row_place kinds row + j ≡ length head + (row_place kinds row - 128 + j) = omega (arith, head_length image h.page, first_place kinds row) in
    get_or_append_left (head ++ rows) rest 0 (row_place kinds row + j) (omega (arith, long, rows_apart kinds row (row_count image) below))
    ∙ ap (λ i. get_or (head ++ rows) i 0) place ∙ get_or-append-add head rows (row_place kinds row - 128 + j) 0
    ∙ pieces_at (λ row. flat_row kinds image row) (λ row. row_place kinds row - 128) (row_count image) (rows_laid kinds image h) row j 0 below (omega (arith, flat_row_length kinds image row (row_within kinds image row h below)))

pub flat_at_head : (kinds : List CellKind) (image : List ℕ) (j : ℕ) → RowsLie kinds image → j < 32 → get_or (flat (Rows kinds) image) j 0 ≡ get_or image j 0
unfolding flat
flat_at_head kinds image j h inside =
    let front = take 32 image in
    let parts = flat_map (λ part. flat_part image part) (range_with_len 0 4) in
    let rows = flat_map (λ row. flat_row kinds image row) (range_with_len 0 (row_count image)) in
    let rest = drop (row_place kinds (row_count image)) image in
    let head = head_length image h.page in
    get_or_append_left (front ++ parts ++ rows) rest 0 j (omega (arith, length-append (front ++ parts) rows, head))
    ∙ get_or_append_left (front ++ parts) rows 0 j (omega (arith, head))
    ∙ get_or_append_left front parts 0 j (omega (arith, length-take 32 image, h.page))
    ∙ get_or-take 32 image j 0 inside
