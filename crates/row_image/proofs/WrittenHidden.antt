-- A row more, and the bytes that it doesn't show.
use Rattle.std.proofs.Common.{◌≡◌, ℕ, ◌+◌, ◌<◌, ◌≤◌, List, sym, ap, ◌∙◌, arith}
use Rattle.std.specs.Prelude.{slice_index}
use Rattle.row_image.specs.declared.layout.CellKind.{CellKind}
use Rattle.row_image.specs.Bytes.{number_at, ChangesOnly}
use Rattle.row_image.specs.Layout.{width_of, row_place}
use Rattle.row_image.specs.Image.{row_count, part_count, part_place}
use Rattle.row_image.specs.Stores.{KeepsEntries, KeepsHidden}
use Rattle.row_image.proofs.LayoutLemmas.{first_place}

number_same : (a b : List ℕ) (low high : ℕ) → ((k : ℕ) → low ≤ k → k < high → slice_index b k ≡ slice_index a k) → (at : ℕ) → low ≤ at → at + 4 ≤ high → number_at b at 4 ≡ number_at a at 4
unfolding number_at
number_same a b low high same at p q = omega (arith, same at (omega arith) (omega arith), same (at + 1) (omega arith) (omega arith), same (at + 1 + 1) (omega arith) (omega arith), same (at + 1 + 1 + 1) (omega arith) (omega arith))

-- the row is counted in the parts, and then written
pub hidden_kept : (kinds : List CellKind) (old mid new : List ℕ) → row_count mid ≡ row_count old → ChangesOnly old mid 12 128 → KeepsEntries old mid → part_count mid ≤ 4
    → ((k : ℕ) → k < 8 → slice_index new k ≡ slice_index mid k) → ((k : ℕ) → 12 ≤ k → k < row_place kinds (row_count mid) → slice_index new k ≡ slice_index mid k) → ((k : ℕ) → row_place kinds (row_count mid) + width_of kinds ≤ k → slice_index new k ≡ slice_index mid k)
    → KeepsHidden kinds old new
hidden_kept kinds old mid new same counted entries few kind parts free =
    let place : row_place kinds (row_count mid) ≡ row_place kinds (row_count old) = ap (row_place kinds) same in
    let first = first_place kinds (row_count old) in
    let head : (k : ℕ) → 12 ≤ k → k < 128 → slice_index new k ≡ slice_index mid k = λ k low high. parts k low (omega (arith, place, first, high)) in
    let count : part_count new ≡ part_count mid = number_same mid new 12 128 head 12 (omega arith) (omega arith) in
    record {
      kind = λ k below. kind k below ∙ counted.before k (omega arith);
      entries = record {
        gap = λ k low high. head k (omega arith) (omega arith) ∙ entries.gap k low high;
        others = λ part four other k low high. head k (omega arith) (omega arith) ∙ entries.others part four (λ e. other (e ∙ sym count)) k low high;
        zeros = λ part is. number_same mid new 12 128 head (part_place part + 12) (omega arith) (omega (arith, is, count, few)) ∙ entries.zeros part (is ∙ count);
      };
      rows = λ k low high. parts k (omega arith) (omega (arith, place, high)) ∙ counted.after k low;
      free = λ k past. free k (omega (arith, place, past)) ∙ counted.after k (omega (arith, first, past));
    }
