-- The values of an accepted page fit its columns.
use Rattle.std.proofs.Common.{◌≡◌, ℕ, zero, suc, ◌+◌, ◌-◌, ◌*◌, ◌^◌, ◌<◌, ◌≤◌, ◌≤ℤ◌, pos, negsuc, cond, leb, List, [], ◌∷◌, length, get_or, take, drop, map, None, refl, sym, ap, subst, inl, inr, ◌∙◌, arith, to_z}
use Rattle.std.specs.Prelude.{slice_range, slice_index}
use Rattle.std.specs.List.{range_with_len}
use Rattle.std.specs.Int.{w32, w64, w128, cast_signed}
use Rattle.std.specs.Int.RustNames.{FitsSigned}
use Rattle.std.proofs.lemmas.Bool.{cases_lt, le-ltb, leb-true, cases_Bool}
use Rattle.std.proofs.lemmas.Int.{to_z_pos, ints}
use mir.Syntax.{Width}
use mir.Val.{SFits, bits, hbits, sel}
use Rattle.row_image.specs.declared.layout.CellKind.{CellKind}
use Rattle.row_image.specs.declared.layout.CellKind.TheVariants.{Bit, Four, Eight, Sixteen, Text}
use Rattle.row_image.specs.declared.image.Part.{Part}
use Rattle.row_image.specs.declared.image.ImageKind.TheVariants.{Rows}
use Rattle.row_image.specs.Bytes.{IsPage, number_at}
use Rattle.row_image.specs.Layout.{row_place, offset_of}
use Rattle.row_image.specs.Flat.{flat, flattened}
use Rattle.row_image.specs.Image.{row_count, is_null, cell_at, text_at, cell_in, stored_cell, part_for}
use Rattle.row_image.specs.Rules.{first_damage, text_limit, bit_rule, size_rule, text_rule, kind_rules, cell_rules, IsAccepted}
use Rattle.row_image.specs.Texts.{CellValue, value_of}
use Rattle.row_image.proofs.RuleLemmas.{sound_cons}
use Rattle.row_image.proofs.AcceptedLemmas.{sound_of}
use Rattle.rebase_pins.specs.Fits.{Fits, RowFits}
use Rattle.rebase_pins.specs.Rows.{part_number, value_in}
use Rattle.rebase_pins.proofs.Values.{value_flat}

-- bits that are read as a signed number fit its width
signed_fits : (w : Width) → 2 ^ bits w ≡ 2 * 2 ^ hbits w → 1 ≤ 2 ^ hbits w → (n : ℕ) → FitsSigned w (cast_signed w n)
signed_fits w twice some n = elim (cases_lt n (2 ^ hbits w)) [
  | inl low ↦ subst (SFits w) (sym (to_z_pos w n low)) (record { sfits = low })
  | inr high ↦
      let e : to_z w n ≡ negsuc (2 ^ bits w - suc n) = ap (λ b. sel b (pos n) (negsuc (2 ^ bits w - suc n))) (le-ltb n (2 ^ hbits w) high) in
      let below : 2 ^ bits w - suc n < 2 ^ hbits w = omega (arith, high, twice, some) in
      subst (SFits w) (sym e) (record { sfits = below })
]

-- a part of a list isn't longer than its places say
front_most : (n : ℕ) (xs : List ℕ) → length (take n xs) ≤ n
front_most zero xs = omega arith
front_most (suc n) [] = omega arith
front_most (suc n) (x ∷ xs) = let r = front_most n xs in omega (arith, r)

range_most : (xs : List ℕ) (from size : ℕ) → length (slice_range xs from (from + size)) ≤ size
range_most xs from size = let r = front_most (from + size - from) (drop from xs) in let e : from + size - from ≡ size = omega arith in omega (arith, r, e)

-- a text that was read is within the limit
text_fits : (heap image : List ℕ) (base at size limit : ℕ) → size ≤ limit → Fits Text limit (value_of heap (flattened base (text_at image at size)))
text_fits heap image base at size limit most = elim (cases_Bool (leb size 12)) [
  | inl short ↦ rw short (let r = range_most image (at + 4) size in omega (arith, r, most))
  | inr long ↦ rw long (let r = range_most heap (number_at image (at + 8) 8 - base) size in omega (arith, r, most))
]

-- the value of a cell that keeps the rules of its kind fits it
kind_fits : (kind : CellKind) (heap image : List ℕ) (base at : ℕ) (part : Part) → first_damage (kind_rules kind image at part) ≡ None → Fits kind (text_limit (length image)) (value_of heap (flattened base (cell_at kind image at)))
unfolding kind_rules cell_at
kind_fits Bit heap image base at part sound =
    let most = leb-true _ _ (sound_cons (bit_rule (slice_index image at)) [] sound).0 in
    let low : pos 0 ≤ℤ pos (slice_index image at) = omega (arith, ints) in
    let high : pos (slice_index image at) ≤ℤ pos 1 = omega (arith, ints, most) in
    (low, high)
kind_fits Four heap image base at part sound = signed_fits w32 refl (omega arith) (number_at image at 4)
kind_fits Eight heap image base at part sound = signed_fits w64 refl (omega arith) (number_at image at 8)
kind_fits Sixteen heap image base at part sound = signed_fits w128 refl (omega arith) (number_at image at 16)
kind_fits Text heap image base at part sound =
    let size = number_at image at 4 in
    let most = leb-true size (text_limit (length image)) (sound_cons (size_rule (length image) size) (text_rule image at size part ∷ []) sound).0 in
    text_fits heap image base at size (text_limit (length image)) most

-- the value of a cell that keeps the rules of its column fits the column
cell_fits : (kinds : List CellKind) (heap image : List ℕ) (base row column : ℕ) → first_damage (cell_rules kinds image row column) ≡ None → Fits (get_or kinds column Bit) (text_limit (length image)) (value_of heap (flattened base (stored_cell kinds image row column)))
unfolding cell_rules cell_in
cell_fits kinds heap image base row column sound = elim (cases_Bool (is_null image (row_place kinds row) column)) [
  | inl null ↦ rw null tt
  | inr there ↦
      let at = row_place kinds row + offset_of kinds column in
      let kind = get_or kinds column Bit in
      let rule = kind_rules kind image at (part_for image row) in
      let kept : first_damage rule ≡ None = sym (ap (λ b. first_damage (cond b [] rule)) there) ∙ sound in
      rw there (kind_fits kind heap image base at (part_for image row) kept)
]

-- a value of an accepted page fits its column
pub value_fits : (kinds : List CellKind) (image : List ℕ) (heaps : List (List ℕ)) (row column : ℕ) → IsPage (length image) → IsAccepted (Rows kinds) image → row < row_count image → column < length kinds → Fits (get_or kinds column Bit) (text_limit (length image)) (value_in kinds (flat (Rows kinds) image) heaps row column)
value_fits kinds image heaps row column page accepted below inside =
    subst (Fits (get_or kinds column Bit) (text_limit (length image))) (sym (value_flat kinds image page accepted heaps row column below inside))
    (cell_fits kinds (get_or heaps (part_number image row) []) image (part_for image row).base row column ((sound_of kinds image accepted).cell row column below inside))

-- a row fits where each of its values fits its column
each_fits : (kinds : List CellKind) (limit a : ℕ) (at : ℕ → CellValue) → ((k : ℕ) → k < length kinds → Fits (get_or kinds k Bit) limit (at (a + k))) → RowFits kinds limit (map at (range_with_len a (length kinds)))
each_fits [] limit a at each = tt
each_fits (kind ∷ kinds) limit a at each = (
  subst (λ n. Fits kind limit (at n)) (let e : a + 0 ≡ a = omega arith in e) (each 0 (omega arith)),
  each_fits kinds limit (a + 1) at (λ k less. subst (λ n. Fits (get_or kinds k Bit) limit (at n)) (let e : a + suc k ≡ a + 1 + k = omega arith in e) (each (suc k) (omega (arith, less)))),
)

-- a row of an accepted page fits its columns
pub row_fits : (kinds : List CellKind) (image : List ℕ) (heaps : List (List ℕ)) (row : ℕ) → IsPage (length image) → IsAccepted (Rows kinds) image → row < row_count image → RowFits kinds (text_limit (length image)) (map (λ column. value_in kinds (flat (Rows kinds) image) heaps row column) (range_with_len 0 (length kinds)))
row_fits kinds image heaps row page accepted below =
    each_fits kinds (text_limit (length image)) 0 (λ column. value_in kinds (flat (Rows kinds) image) heaps row column)
    (λ k less. subst (λ n. Fits (get_or kinds k Bit) (text_limit (length image)) (value_in kinds (flat (Rows kinds) image) heaps row n)) (let e : k ≡ 0 + k = omega arith in e) (value_fits kinds image heaps row k page accepted below less))
