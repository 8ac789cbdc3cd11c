-- Texts on a heap page.
use Rattle.std.specs.Prelude.{◌≡◌, ℕ, ◌+◌, ◌<◌, ◌≤◌, List, length, slice_index, slice_range}
use Rattle.row_image.specs.declared.limits.TheConstants.{HEAP_HEAD}
use Rattle.row_image.specs.Bytes.{number_at}

-- how many bytes of texts there are, behind the head
abbrev pub used : List ℕ → ℕ
used page = number_at page 4 4

-- a text was put behind the others, at this offset, and the bytes around it are the same but for the count
pub record Puts (old new text : List ℕ) (at : ℕ) : Type 0 where
  pub at_end : at ≡ HEAP_HEAD + used old
  pub counted : used new ≡ used old + length text
  pub stored : slice_range new at (at + length text) ≡ text
  pub kind : (k : ℕ) → k < 4 → slice_index new k ≡ slice_index old k
  pub before : (k : ℕ) → 8 ≤ k → k < at → slice_index new k ≡ slice_index old k
  pub behind : (k : ℕ) → at + length text ≤ k → slice_index new k ≡ slice_index old k

-- the texts of a page stay where they are, and there may be more
pub record KeepsTexts (old new : List ℕ) : Type 0 where
  pub long : length new ≡ length old
  pub more : used old ≤ used new
  pub same : (from to : ℕ) → HEAP_HEAD ≤ from → to ≤ HEAP_HEAD + used old → slice_range new from to ≡ slice_range old from to
