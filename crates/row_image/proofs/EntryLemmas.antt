-- The bytes of the head that say nothing of the part that was written.
use Rattle.std.proofs.Common.{◌≡◌, ◌≢◌, ℕ, ◌+◌, ◌*◌, ◌<◌, ◌≤◌, List, refl, ap, ◌∙◌, arith, inl, inr}
use Rattle.std.specs.Prelude.{slice_index}
use Rattle.std.proofs.lemmas.Bool.{cases_lt}
use Rattle.row_image.specs.Bytes.{number_at}
use Rattle.row_image.specs.Image.{part_count, part_place}
use Rattle.row_image.specs.Stores.{KeepsEntries}

-- the entry of the last part was written, with its word of zeros
pub entry_kept : (old new : List ℕ) (last : ℕ) → part_count new ≡ last + 1 → ((k : ℕ) → 16 ≤ k → k < 32 + 24 * last → slice_index new k ≡ slice_index old k) → ((k : ℕ) → 56 + 24 * last ≤ k → slice_index new k ≡ slice_index old k) → number_at new (32 + 24 * last + 12) 4 ≡ 0 → KeepsEntries old new
entry_kept old new last count before after zeros = record {
  gap = λ k low high. before k low (omega arith);
  others = λ part four other k low high.
      elim (cases_lt part last) [
        | inl less ↦ before k (omega arith) (omega arith)
        | inr more ↦ let ne : part ≢ last = λ e. other (omega (arith, e, count)) in after k (omega (arith, ne, more, low))
      ];
  zeros = λ part is. ap (λ p. number_at new (part_place p + 12) 4) (let e : part ≡ last = omega (arith, is, count) in e) ∙ zeros;
}

-- nothing was written, and there are no parts
pub entries_same : (old : List ℕ) → part_count old ≡ 0 → KeepsEntries old old
entries_same old none = record {
  gap = λ k low high. refl;
  others = λ part four other k low high. refl;
  zeros = λ part is. absurd (omega (arith, is, none));
}
