-- Where cells lie: each behind the one before, and all of them within the row.
use Rattle.std.proofs.Common.{◌≡◌, ℕ, ◌+◌, ◌*◌, ◌/◌, ◌<◌, ◌≤◌, List, [], ◌∷◌, length, get_or, take, ap, sym, ◌∙◌, arith}
use Rattle.std.specs.List.{sum_by}
use Rattle.std.proofs.lemmas.List.{take_all, take-take}
use Rattle.std.proofs.lemmas.List.FromFn.{get_or-map-range_with_len}
use Rattle.std.proofs.lemmas.List.Sums.{sum_by-cons, sum_by_more, sum_by-take-le}
use Rattle.row_image.specs.declared.layout.CellKind.{CellKind}
use Rattle.row_image.specs.declared.layout.CellKind.TheVariants.{Bit, Four, Eight, Sixteen, Text}
use Rattle.row_image.specs.Layout.{cell_width, mask_bytes, offset_of, width_of, row_place}
use Rattle.row_image.specs.Padded.{offsets_of}

pub cell_width_most : (kind : CellKind) → cell_width kind ≤ 16
cell_width_most Bit = omega arith
cell_width_most Four = omega arith
cell_width_most Eight = omega arith
cell_width_most Sixteen = omega arith
cell_width_most Text = omega arith

pub cell_width_least : (kind : CellKind) → 1 ≤ cell_width kind
cell_width_least Bit = omega arith
cell_width_least Four = omega arith
cell_width_least Eight = omega arith
cell_width_least Sixteen = omega arith
cell_width_least Text = omega arith

sum_by_most : (kinds : List CellKind) → sum_by cell_width kinds ≤ 16 * length kinds
sum_by_most [] = omega arith
sum_by_most (kind ∷ kinds) = omega (arith, sum_by-cons cell_width kind kinds, cell_width_most kind, sum_by_most kinds)

-- the next cell begins where this one ends
pub offset_of_next : (kinds : List CellKind) (column : ℕ) → column < length kinds → offset_of kinds (column + 1) ≡ offset_of kinds column + cell_width (get_or kinds column Bit)
unfolding offset_of
offset_of_next kinds column h = omega (arith, sum_by_more cell_width kinds column Bit h)

-- past the last column stands the end of the row
pub offset_of_past : (kinds : List CellKind) (column : ℕ) → length kinds ≤ column → offset_of kinds column ≡ width_of kinds
unfolding offset_of width_of
offset_of_past kinds column h = ap (λ front. mask_bytes kinds + 8 + sum_by cell_width front) (take_all column kinds h ∙ sym (take_all (length kinds) kinds (omega arith)))

pub offset_of_least : (kinds : List CellKind) (column : ℕ) → mask_bytes kinds + 8 ≤ offset_of kinds column
unfolding offset_of
offset_of_least kinds column = omega arith

pub offset_of_most : (kinds : List CellKind) (column : ℕ) → offset_of kinds column ≤ width_of kinds
unfolding offset_of width_of
offset_of_most kinds column = omega (arith, sum_by-take-le cell_width kinds column, ap (sum_by cell_width) (take_all (length kinds) kinds (omega arith)))

pub width_of_most : (kinds : List CellKind) → length kinds ≤ 65 → width_of kinds ≤ 1057
unfolding offset_of width_of mask_bytes
width_of_most kinds h = omega (arith, sum_by_most kinds, ap (sum_by cell_width) (take_all (length kinds) kinds (omega arith)))

pub width_of_least : (kinds : List CellKind) → mask_bytes kinds + 8 ≤ width_of kinds
width_of_least kinds = omega (arith, offset_of_least kinds (length kinds), offset_of_most kinds (length kinds))

pub offsets_of_at : (kinds : List CellKind) (column : ℕ) → column ≤ 65 → get_or (offsets_of kinds) column 0 ≡ offset_of kinds column
unfolding offsets_of
offsets_of_at kinds column h = get_or-map-range_with_len (λ c. offset_of kinds c) 0 66 column column 0 (omega arith) (omega arith)

-- a column's bit lies in the mask, and its cell in the row
pub mask_holds : (kinds : List CellKind) (column : ℕ) → column < length kinds → column / 8 < mask_bytes kinds
unfolding mask_bytes
mask_holds kinds column h = omega arith

pub cell_ends : (kinds : List CellKind) (column : ℕ) → column < length kinds → offset_of kinds column + cell_width (get_or kinds column Bit) ≤ width_of kinds
cell_ends kinds column h = omega (arith, offset_of_next kinds column h, offset_of_most kinds (column + 1))

-- cells stand one behind the other
pub cells_apart : (kinds : List CellKind) (i j : ℕ) → i < j → j ≤ length kinds → offset_of kinds i + cell_width (get_or kinds i Bit) ≤ offset_of kinds j
unfolding offset_of
cells_apart kinds i j h within =
    let front : take (i + 1) (take j kinds) ≡ take (i + 1) kinds = take-take (i + 1) j kinds (omega arith) in
    omega (arith, sum_by_more cell_width kinds i Bit (omega arith), sum_by-take-le cell_width (take j kinds) (i + 1), ap (sum_by cell_width) front)

pub first_place : (kinds : List CellKind) (row : ℕ) → 128 ≤ row_place kinds row
unfolding row_place
first_place kinds row = omega arith
