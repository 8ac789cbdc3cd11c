-- The cells of a row whose heap page moves.
use Rattle.std.proofs.Common.{◌≡◌, ℕ, ◌+◌, ◌-◌, ◌/◌, ◌%◌, ◌<◌, ◌≤◌, Bool, true, not, List, length, get_or, refl, sym, ap, ◌∙◌, arith, inl, inr}
use Rattle.std.specs.Prelude.{◌&&◌, nat_lt, ◌==◌}
use Rattle.std.specs.Int.{bit_at}
use Rattle.std.proofs.lemmas.Bool.{and_parts, cases_Bool, false≢true}
use Rattle.row_image.specs.declared.layout.CellKind.{CellKind}
use Rattle.row_image.specs.declared.layout.CellKind.TheVariants.{Bit, Four, Eight, Sixteen, Text}
use Rattle.row_image.specs.Bytes.{number_at}
use Rattle.row_image.specs.Layout.{cell_width, is_text, mask_bytes, offset_of, width_of}
use Rattle.row_image.specs.Image.{is_null}
use Rattle.row_image.specs.Flat.{is_long_in}
use Rattle.row_image.specs.Moves.{MovesCell, MovesRow, IsReached}
use Rattle.row_image.proofs.ByteLemmas.{SameOn, number_at_same, same_within}
use Rattle.row_image.proofs.LayoutLemmas.{width_of_least, cell_ends, mask_holds}

pub text_kind : (kind : CellKind) → is_text kind ≡ true → kind ≡ Text
text_kind Bit h = absurd (false≢true h)
text_kind Four h = absurd (false≢true h)
text_kind Eight h = absurd (false≢true h)
text_kind Sixteen h = absurd (false≢true h)
text_kind Text h = refl

-- a cell that lies on a heap page is of texts, and takes 16 bytes
pub long_kind : (kinds : List CellKind) (image : List ℕ) (at column : ℕ) → is_long_in kinds image at column ≡ true → get_or kinds column Bit ≡ Text
unfolding is_long_in
long_kind kinds image at column h =
    let kind = get_or kinds column Bit in
    let size = nat_lt 12 (number_at image (at + offset_of kinds column) 4) in
    text_kind kind (and_parts (is_text kind) size (and_parts (not (is_null image at column)) (is_text kind && size) h).1).0

pub long_ends : (kinds : List CellKind) (image : List ℕ) (at column : ℕ) → is_long_in kinds image at column ≡ true → column < length kinds → offset_of kinds column + 16 ≤ width_of kinds
long_ends kinds image at column h inside = omega (arith, cell_ends kinds column inside, ap cell_width (long_kind kinds image at column h))

pub is_long_same : (kinds : List CellKind) (old new : List ℕ) (at column : ℕ) → SameOn old new at (at + mask_bytes kinds) → SameOn old new (at + offset_of kinds column) (at + offset_of kinds column + cell_width (get_or kinds column Bit)) → column < length kinds → is_long_in kinds new at column ≡ is_long_in kinds old at column
unfolding is_long_in is_null
is_long_same kinds old new at column mask cell inside =
    let kind = get_or kinds column Bit in
    let place = at + offset_of kinds column in
    let byte = mask.same (at + column / 8) (omega arith) (omega (arith, mask_holds kinds column inside)) in
    let sizes : (is_text kind && nat_lt 12 (number_at new place 4)) ≡ (is_text kind && nat_lt 12 (number_at old place 4)) =
    elim (cases_Bool (is_text kind)) [
      | inl text ↦ ap (λ n. is_text kind && nat_lt 12 n) (number_at_same old new place (place + cell_width kind) cell place 4 (omega arith) (omega (arith, ap cell_width (text_kind kind text))))
      | inr other ↦ ap (λ b. b && nat_lt 12 (number_at new place 4)) other ∙ sym (ap (λ b. b && nat_lt 12 (number_at old place 4)) other)
    ] in
    ap (λ b. not (null_of b) && (is_text kind && nat_lt 12 (number_at new place 4))) byte ∙ ap (λ s. not (is_null old at column) && s) sizes
  where
    null_of : ℕ → Bool
    null_of byte = bit_at byte (column % 8) == 1

-- a write elsewhere, after a cell moved
pub moves_then : (kinds : List CellKind) (a b c : List ℕ) (at from to column : ℕ) → MovesCell kinds a b at from to column → SameOn b c (at + offset_of kinds column) (at + offset_of kinds column + cell_width (get_or kinds column Bit)) → MovesCell kinds a c at from to column
moves_then kinds a b c at from to column m h =
    let wide : is_long_in kinds a at column ≡ true → cell_width (get_or kinds column Bit) ≡ 16 = λ long. ap cell_width (long_kind kinds a at column long) in
    record {
      other = λ short k low high. h.same k low high ∙ m.other short k low high;
      size = λ long k low high. h.same k low (omega (arith, wide long)) ∙ m.size long k low high;
      address = λ long. number_at_same b c (at + offset_of kinds column) (at + offset_of kinds column + cell_width (get_or kinds column Bit)) h (at + offset_of kinds column + 8) 8 (omega arith) (omega (arith, wide long)) ∙ m.address long;
    }

-- a write elsewhere, before a cell moved
pub then_moves : (kinds : List CellKind) (a b c : List ℕ) (at from to column : ℕ) → SameOn a b at (at + mask_bytes kinds) → SameOn a b (at + offset_of kinds column) (at + offset_of kinds column + cell_width (get_or kinds column Bit)) → column < length kinds → MovesCell kinds b c at from to column → MovesCell kinds a c at from to column
then_moves kinds a b c at from to column mask h inside m =
    let same = is_long_same kinds a b at column mask h inside in
    let wide : is_long_in kinds a at column ≡ true → cell_width (get_or kinds column Bit) ≡ 16 = λ long. ap cell_width (long_kind kinds a at column long) in
    record {
      other = λ short k low high. m.other (same ∙ short) k low high ∙ h.same k low high;
      size = λ long k low high. m.size (same ∙ long) k low high ∙ h.same k low (omega (arith, wide long));
      address = λ long. m.address (same ∙ long) ∙ ap (λ n. n - from + to) (number_at_same a b (at + offset_of kinds column) (at + offset_of kinds column + cell_width (get_or kinds column Bit)) h (at + offset_of kinds column + 8) 8 (omega arith) (omega (arith, wide long)));
    }

pub cell_of_row : (kinds : List CellKind) (old new : List ℕ) (at column : ℕ) → SameOn old new at (at + width_of kinds) → column < length kinds → SameOn old new (at + offset_of kinds column) (at + offset_of kinds column + cell_width (get_or kinds column Bit))
cell_of_row kinds old new at column h inside = same_within old new at (at + width_of kinds) (at + offset_of kinds column) (at + offset_of kinds column + cell_width (get_or kinds column Bit)) h (omega arith) (omega (arith, cell_ends kinds column inside))

pub row_moves_then : (kinds : List CellKind) (a b c : List ℕ) (at from to : ℕ) → MovesRow kinds a b at from to → SameOn b c at (at + width_of kinds) → MovesRow kinds a c at from to
row_moves_then kinds a b c at from to m h = record {
  head = λ k low high. h.same k low (omega (arith, width_of_least kinds)) ∙ m.head k low high;
  cells = λ column inside. moves_then kinds a b c at from to column (m.cells column inside) (cell_of_row kinds b c at column h inside);
}

pub then_row_moves : (kinds : List CellKind) (a b c : List ℕ) (at from to : ℕ) → SameOn a b at (at + width_of kinds) → MovesRow kinds b c at from to → MovesRow kinds a c at from to
then_row_moves kinds a b c at from to h m = record {
  head = λ k low high. m.head k low high ∙ h.same k low (omega (arith, width_of_least kinds));
  cells = λ column inside. then_moves kinds a b c at from to column (same_within a b at (at + width_of kinds) at (at + mask_bytes kinds) h (omega arith) (omega (arith, width_of_least kinds))) (cell_of_row kinds a b at column h inside) inside (m.cells column inside);
}

pub reached_same : (kinds : List CellKind) (old new : List ℕ) (at base column : ℕ) → SameOn old new at (at + mask_bytes kinds) → SameOn old new (at + offset_of kinds column) (at + offset_of kinds column + cell_width (get_or kinds column Bit)) → column < length kinds → IsReached kinds old at base column → IsReached kinds new at base column
reached_same kinds old new at base column mask h inside r =
    let same = is_long_same kinds old new at column mask h inside in
    let number : is_long_in kinds old at column ≡ true → number_at new (at + offset_of kinds column + 8) 8 ≡ number_at old (at + offset_of kinds column + 8) 8 =
    λ long. number_at_same old new (at + offset_of kinds column) (at + offset_of kinds column + cell_width (get_or kinds column Bit)) h (at + offset_of kinds column + 8) 8 (omega arith) (omega (arith, ap cell_width (long_kind kinds old at column long))) in
    record {
      low = λ long. let was = sym same ∙ long in omega (arith, r.low was, number was);
      high = λ long. let was = sym same ∙ long in omega (arith, r.high was, number was);
    }
