-- A text that is followed from its address is the stored one.
use Rattle.std.proofs.Common.{◌≡◌, ℕ, ◌+◌, ◌-◌, ◌*◌, ◌/◌, ◌%◌, ◌<◌, ◌≤◌, true, List, length, sym, ap, ◌∙◌, arith, inl, inr}
use Rattle.std.specs.Prelude.{slice_range}
use Rattle.std.proofs.lemmas.Bool.{cases_Bool, false≢true}
use Rattle.std.proofs.lemmas.Nat.{div-mul-add, mod-mul-add}
use Rattle.row_image.specs.declared.layout.CellKind.{CellKind}
use Rattle.row_image.specs.declared.image.ImageKind.TheVariants.{Rows}
use Rattle.row_image.specs.Bytes.{number_at}
use Rattle.row_image.specs.Layout.{offset_of, row_place}
use Rattle.row_image.specs.Cells.{StoredCell, NullCell, NumberCell, ShortCell, LongCell}
use Rattle.row_image.specs.Image.{row_count, part_count, part_at, part_for, stored_cell, cell_in}
use Rattle.row_image.specs.Parts.{is_long}
use Rattle.row_image.specs.Rules.{IsAccepted}
use Rattle.row_image.specs.Flat.{is_long_in, flat, flattened}
use Rattle.row_image.specs.Texts.{TextValue, value_of}
use Rattle.row_image.specs.Followed.{LiesIn, IsOnHeap, IsFollowed}
use Rattle.row_image.proofs.AcceptedLemmas.{Sound, sound_of}
use Rattle.row_image.proofs.PartFacts.{facts_of, part_for_is, Covers, covered}
use Rattle.row_image.proofs.GrownLemmas.{all_rows}
use Rattle.row_image.proofs.Rebased.{long_fits}
use Rattle.row_image.proofs.ByteLemmas.{SameOn, number_at_same}
use Rattle.row_image.proofs.MoveLemmas.{long_kind}
use Rattle.row_image.proofs.FlatPieces.{RowsLie, flat_length, flat_at_head}
use Rattle.row_image.proofs.FlatStored.{not_long_cell, long_in, flat_cell_in}
use Rattle.row_image.proofs.FlatParts.{flat_part_at}
use Rattle.row_image.proofs.WrittenAccepted.{parts_most, parts_there, text_column}
use Rattle.row_image.proofs.WrittenFlat.{rows_lie, offsets_fit}

-- a long cell isn't one of the others
is_long_cell : (kinds : List CellKind) (image : List ℕ) (at column : ℕ) (prefix : List ℕ) (size address : ℕ) → cell_in kinds image at column ≡ LongCell prefix size address → is_long_in kinds image at column ≡ true
is_long_cell kinds image at column prefix size address e =
    elim (cases_Bool (is_long_in kinds image at column)) [
      | inl long ↦ long
      | inr short ↦ absurd (false≢true (sym (not_long_cell kinds image at column short) ∙ ap is_long e))
    ]

abbrev size_of : StoredCell → ℕ
size_of NullCell = 0
size_of (NumberCell z) = 0
size_of (ShortCell text) = 0
size_of (LongCell prefix size address) = size

abbrev address_of : StoredCell → ℕ
address_of NullCell = 0
address_of (NumberCell z) = 0
address_of (ShortCell text) = 0
address_of (LongCell prefix size address) = address

-- the parts of the flat image have the same rows
lies_flat : (kinds : List CellKind) (image : List ℕ) (row part : ℕ) → RowsLie kinds image → part_count image ≤ 4 → LiesIn image row part → LiesIn (flat (Rows kinds) image) row part
lies_flat kinds image row part lies few h =
    let head : SameOn image (flat (Rows kinds) image) 0 32 = record { long = flat_length kinds image lies; same = λ k low high. flat_at_head kinds image k lies high } in
    let count : part_count (flat (Rows kinds) image) ≡ part_count image = number_at_same image (flat (Rows kinds) image) 0 32 head 12 4 (omega arith) (omega arith) in
    let same = flat_part_at kinds image part lies (omega (arith, h.counted)) h.counted in
    let first = ap (λ p. p.first) same in
    let rows = ap (λ p. p.rows) same in
    record {
      counted = omega (arith, count, h.counted);
      low = omega (arith, first, h.low);
      high = omega (arith, first, rows, h.high);
    }

-- the part of a row whose cell is long
part_of_long : (kinds : List CellKind) (image : List ℕ) (row column : ℕ) → Sound kinds image → row < row_count image → column < length kinds → is_long_in kinds image (row_place kinds row) column ≡ true → Covers image (part_count image) row
part_of_long kinds image row column s below inside long =
    let texts = text_column kinds column inside (long_kind kinds image (row_place kinds row) column long) in
    covered image (part_count image) row (omega (arith, all_rows image (parts_there kinds image s.parts texts) (λ k there. facts_of image k (s.part k there)), below))

-- a long text lies on the heap page of its row's part
pub long_lies : (kinds : List CellKind) (image : List ℕ) (row column : ℕ) (prefix : List ℕ) (size address : ℕ) → IsAccepted (Rows kinds) image → 4096 ≤ length image → length image ≤ 262144 → row < row_count image → column < length kinds → stored_cell kinds image row column ≡ LongCell prefix size address → (12 < size) × (part : ℕ) × IsOnHeap kinds image row column prefix size address part
long_lies kinds image row column prefix size address accepted page small below inside cell =
    let s = sound_of kinds image accepted in
    let at = row_place kinds row in
    let long = is_long_cell kinds image at column prefix size address cell in
    let is = sym (long_in kinds image at column long) ∙ cell in
    let sized : number_at image (at + offset_of kinds column) 4 ≡ size = ap size_of is in
    let placed : number_at image (at + offset_of kinds column + 8) 8 ≡ address = ap address_of is in
    let fits = long_fits kinds image row column (s.cell row column below inside) long in
    let c = part_of_long kinds image row column s below inside long in
    let facts = λ (k : ℕ) (there : k < part_count image). facts_of image k (s.part k there) in
    let part_is = part_for_is image c.part row facts c.inside c.low c.high in
    let base = ap (λ p. p.base) part_is in
    let first = (facts c.part c.inside).first in
    let lies : LiesIn image row c.part = record { counted = c.inside; low = omega (arith, first, c.low); high = omega (arith, first, c.high) } in
    let rows = rows_lie kinds image accepted page in
    let offsets = offsets_fit kinds image accepted small in (
      omega (arith, fits.0, sized),
      c.part,
      record {
        lies = lies;
        lies_flat = lies_flat kinds image row c.part rows (parts_most kinds image s.parts) lies;
        heap = λ none. fits.2.heap (ap (λ p. p.heap) part_is ∙ none);
        low = omega (arith, fits.2.low, base, placed);
        high = omega (arith, fits.2.high, base, placed, sized);
        offset = flat_cell_in kinds image row column rows below inside (offsets.fit row column below inside)
            ∙ ap (flattened (part_for image row).base) cell
            ∙ ap (λ b. LongCell prefix size (address - b)) base;
      },
    )

-- Where the base of the part is the place of a frame, the address names that frame, and the text at its rest is the
-- one that the flat images stand for.
pub text_followed : (kinds : List CellKind) (image heap : List ℕ) (row column : ℕ) (prefix : List ℕ) (size address part frame : ℕ) → 12 < size → IsOnHeap kinds image row column prefix size address part → (part_at image part).base ≡ frame * length image → IsFollowed kinds image heap row column size address frame
text_followed kinds image heap row column prefix size address part frame some on placed =
    let page = length image in
    let base = (part_at image part).base in
    let rest = address - base in
    let whole : address ≡ frame * page + rest = omega (arith, on.low, placed) in
    let less : rest < page = omega (arith, on.low, on.high, some) in
    let at : address % page ≡ rest = ap (λ n. n % page) whole ∙ mod-mul-add frame page rest less in
    record {
      frame_is = ap (λ n. n / page) whole ∙ div-mul-add frame page rest less;
      text = ap (λ from. TextValue (slice_range heap from (from + size))) at ∙ sym (ap (value_of heap) on.offset);
    }
