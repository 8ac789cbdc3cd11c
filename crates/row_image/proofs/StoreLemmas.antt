-- The bytes of a cell that was written.
use Rattle.std.proofs.Common.{◌≡◌, ℕ, zero, suc, ◌+◌, ◌*◌, ◌/◌, ◌%◌, ◌<◌, ◌≤◌, List, length, refl, ap, inl, inr, ◌∙◌, arith, pos, to_z}
use Rattle.std.specs.Prelude.{slice_range, slice_index}
use Rattle.std.specs.Int.{bit_at, w32, w64, w128}
use Rattle.std.proofs.lemmas.Bool.{le-leb, lt-leb}
use Rattle.std.proofs.lemmas.Bool.Decides.{leb_tells}
use Rattle.std.proofs.lemmas.Grind.{same_number_lists}
use Rattle.std.proofs.lemmas.List.Edits.{length-between, get_or-between}
use Rattle.std.proofs.lemmas.Nat.Bits.{bit_at_lowest, bit_at-suc}
use Rattle.row_image.specs.declared.layout.CellKind.{CellKind}
use Rattle.row_image.specs.declared.layout.CellKind.TheVariants.{Bit, Four, Eight, Sixteen, Text}
use Rattle.row_image.specs.Bytes.{number_at}
use Rattle.row_image.specs.Layout.{cell_width}
use Rattle.row_image.specs.Cells.{StoredCell, NullCell, NumberCell, ShortCell, LongCell, Takes}
use Rattle.row_image.specs.Image.{cell_at, text_at}
use Rattle.row_image.specs.Stores.{StoresAt}
use Rattle.row_image.proofs.ByteLemmas.{SameOn, number_at_same, slice_range_same}

-- one bit more at the low end
pub more_bits : (x n m : ℕ) (f : ℕ → ℕ) → n ≤ 1 → n ≡ f 0 → ((k : ℕ) → k < m → bit_at x k ≡ f (suc k)) → (k : ℕ) → k < suc m → bit_at (2 * x + n) k ≡ f k
more_bits x n m f small first others zero h = bit_at_lowest (2 * x + n) ∙ (let low : (2 * x + n) % 2 ≡ n = omega arith in low) ∙ first
more_bits x n m f small first others (suc k) h =
    let half : (2 * x + n) / 2 ≡ x = omega arith in
    bit_at-suc (2 * x + n) k ∙ ap (λ y. bit_at y k) half ∙ others k (omega arith)

-- a part of a list of bytes, by its bytes
pub slice_range_is : (image : List ℕ) (from to : ℕ) (text : List ℕ) → to ≡ from + length text → to ≤ length image → ((k : ℕ) → k < length text → slice_index image (from + k) ≡ slice_index text k) → slice_range image from to ≡ text
slice_range_is image from to text e fits same =
    let long : length (slice_range image from to) ≡ length text = length-between image from to fits ∙ omega arith in
    same_number_lists (slice_range image from to) text long
    (λ k h. get_or-between image from to k 0 (omega arith) ∙ same k (omega arith))

pub takes_short : (kind : CellKind) (limit : ℕ) (text : List ℕ) → Takes kind limit (ShortCell text) → (kind ≡ Text) × (length text ≤ 12)
takes_short Bit limit text h = absurd h
takes_short Four limit text h = absurd h
takes_short Eight limit text h = absurd h
takes_short Sixteen limit text h = absurd h
takes_short Text limit text h = (refl, h)

pub takes_long : (kind : CellKind) (limit : ℕ) (prefix : List ℕ) (size address : ℕ) → Takes kind limit (LongCell prefix size address) → (kind ≡ Text) × (13 ≤ size) × (size ≤ limit)
takes_long Bit limit prefix size address h = absurd h
takes_long Four limit prefix size address h = absurd h
takes_long Eight limit prefix size address h = absurd h
takes_long Sixteen limit prefix size address h = absurd h
takes_long Text limit prefix size address h = (refl, h.0, h.1)

pub cell_at_short : (image : List ℕ) (at : ℕ) (text : List ℕ) → number_at image at 4 ≡ length text → length text ≤ 12 → at + 16 ≤ length image → ((k : ℕ) → k < length text → slice_index image (at + 4 + k) ≡ slice_index text k) → cell_at Text image at ≡ ShortCell text
unfolding cell_at
cell_at_short image at text e short fits same =
    ap (text_at image at) e ∙ rw (le-leb (length text) 12 short) (ap ShortCell (slice_range_is image (at + 4) (at + 4 + length text) text refl (omega arith) same))

pub cell_at_long : (image : List ℕ) (at : ℕ) (prefix : List ℕ) (size address : ℕ) → number_at image at 4 ≡ size → 13 ≤ size → slice_range image (at + 4) (at + 8) ≡ prefix → number_at image (at + 8) 8 ≡ address → cell_at Text image at ≡ LongCell prefix size address
unfolding cell_at
cell_at_long image at prefix size address e long first place =
    ap (text_at image at) e ∙ rw (lt-leb size 12 (omega arith)) (ap (λ p. LongCell p size (number_at image (at + 8) 8)) first ∙ ap (LongCell prefix size) place)

text_at_same : (old new : List ℕ) (at size : ℕ) → SameOn old new at (at + 16) → at + 16 ≤ length old → text_at new at size ≡ text_at old at size
text_at_same old new at size h fits =
    elim (leb_tells size 12) [
      | inl short ↦ rw short.0 (ap ShortCell (slice_range_same old new at (at + 16) h (at + 4) (at + 4 + size) (omega arith) (omega (arith, short.1)) (omega (arith, short.1))))
      | inr long ↦ rw long.0 (ap (λ p. LongCell p size (number_at new (at + 8) 8)) (slice_range_same old new at (at + 16) h (at + 4) (at + 8) (omega arith) (omega arith) (omega arith))
          ∙ ap (LongCell (slice_range old (at + 4) (at + 8)) size) (number_at_same old new at (at + 16) h (at + 8) 8 (omega arith) (omega arith)))
    ]

-- what stands before a write, or behind it, is kept
pub cell_at_same : (kind : CellKind) (old new : List ℕ) (at : ℕ) → SameOn old new at (at + cell_width kind) → at + cell_width kind ≤ length old → cell_at kind new at ≡ cell_at kind old at
unfolding cell_at
cell_at_same Bit old new at h fits = ap (λ n. NumberCell (pos n)) (h.same at (omega arith) (omega arith))
cell_at_same Four old new at h fits = ap (λ n. NumberCell (to_z w32 n)) (number_at_same old new at (at + 4) h at 4 (omega arith) (omega arith))
cell_at_same Eight old new at h fits = ap (λ n. NumberCell (to_z w64 n)) (number_at_same old new at (at + 8) h at 8 (omega arith) (omega arith))
cell_at_same Sixteen old new at h fits = ap (λ n. NumberCell (to_z w128 n)) (number_at_same old new at (at + 16) h at 16 (omega arith) (omega arith))
cell_at_same Text old new at h fits = ap (text_at new at) (number_at_same old new at (at + 16) h at 4 (omega arith) (omega arith)) ∙ text_at_same old new at (number_at old at 4) h fits

pub stores_same : (kind : CellKind) (old new : List ℕ) (at : ℕ) (cell : StoredCell) → SameOn old new at (at + cell_width kind) → at + cell_width kind ≤ length old → StoresAt kind old at cell → StoresAt kind new at cell
unfolding cell_at
stores_same kind old new at NullCell h fits s = λ k low high. h.same k low high ∙ s k low high
stores_same kind old new at (NumberCell z) h fits s = cell_at_same kind old new at h fits ∙ s
stores_same Bit old new at (ShortCell text) h fits s = absurd (let e : ⊥ = cc (s.0) in e)
stores_same Four old new at (ShortCell text) h fits s = absurd (let e : ⊥ = cc (s.0) in e)
stores_same Eight old new at (ShortCell text) h fits s = absurd (let e : ⊥ = cc (s.0) in e)
stores_same Sixteen old new at (ShortCell text) h fits s = absurd (let e : ⊥ = cc (s.0) in e)
stores_same Text old new at (ShortCell text) h fits s = (cell_at_same Text old new at h fits ∙ s.0, λ k low high. h.same k (omega arith) (omega arith) ∙ s.1 k low high)
stores_same kind old new at (LongCell prefix size address) h fits s = cell_at_same kind old new at h fits ∙ s
