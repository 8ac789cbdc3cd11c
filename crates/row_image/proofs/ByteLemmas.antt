-- Numbers in bytes: two halves, and what a write elsewhere leaves alone.
use Rattle.std.proofs.Common.{◌≡◌, ℕ, zero, suc, ◌+◌, ◌*◌, ◌-◌, ◌^◌, ◌<◌, ◌≤◌, List, length, refl, sym, ap, ◌∙◌, arith}
use Rattle.std.proofs.Math.Nat.{pow-suc}
use Rattle.std.specs.Prelude.{slice_index, slice_range}
use Rattle.std.proofs.lemmas.Grind.{same_number_lists}
use Rattle.std.proofs.lemmas.List.Edits.{length-between, get_or-between}
use Rattle.row_image.specs.Bytes.{number_at, ChangesOnly}

number_at_moved : (image : List ℕ) (a b n : ℕ) → a ≡ b → number_at image a n ≡ number_at image b n
number_at_moved image a b n e = ap (λ at. number_at image at n) e

-- n bytes more, behind the first m
number_at_split : (image : List ℕ) (at m n j : ℕ) → j ≡ m + n → number_at image at j ≡ number_at image at m + 256 ^ m * number_at image (at + m) n
unfolding number_at
number_at_split image at zero n j e = ap (number_at image at) (let same : j ≡ n = omega arith in same) ∙ (number_at_moved image at (at + 0) n (omega arith) ∙ omega arith)
number_at_split image at (suc m) n zero e = absurd (omega arith)
number_at_split image at (suc m) n (suc j) e =
    let rest : number_at image (at + 1) j ≡ number_at image (at + 1) m + 256 ^ m * number_at image (at + 1 + m) n = number_at_split image (at + 1) m n j (omega arith) in
    let moved : number_at image (at + 1 + m) n ≡ number_at image (at + suc m) n = number_at_moved image (at + 1 + m) (at + suc m) n (omega arith) in
    rw (pow-suc 256 m, ← moved) (omega (arith, rest))

pub number_at_halves : (image : List ℕ) (at : ℕ) → number_at image at 16 ≡ number_at image at 8 + 2 ^ 64 * number_at image (at + 8) 8
number_at_halves image at = number_at_split image at 8 8 16 refl

pub number_at_before : (old new : List ℕ) (from to : ℕ) → ChangesOnly old new from to → (at n : ℕ) → at + n ≤ from → number_at new at n ≡ number_at old at n
unfolding number_at
number_at_before old new from to h at zero below = refl
number_at_before old new from to h at (suc n) below = omega (arith, h.before at (omega arith), number_at_before old new from to h (at + 1) n (omega arith))

pub number_at_after : (old new : List ℕ) (from to : ℕ) → ChangesOnly old new from to → (at n : ℕ) → to ≤ at → number_at new at n ≡ number_at old at n
unfolding number_at
number_at_after old new from to h at zero past = refl
number_at_after old new from to h at (suc n) past = omega (arith, h.after at (omega arith), number_at_after old new from to h (at + 1) n (omega arith))

-- one write after another
pub changes_joined : (a b c : List ℕ) (from to from' to' low high : ℕ) → ChangesOnly a b from to → ChangesOnly b c from' to' → low ≤ from → low ≤ from' → to ≤ high → to' ≤ high → ChangesOnly a c low high
changes_joined a b c from to from' to' low high first second p q r s = record {
  before = λ k below. second.before k (omega arith) ∙ first.before k (omega arith);
  after = λ k past. second.after k (omega arith) ∙ first.after k (omega arith);
}

pub changes_none : (a : List ℕ) (from to : ℕ) → ChangesOnly a a from to
changes_none a from to = record { before = λ k below. refl; after = λ k past. refl }

-- the bytes from one place up to another are the same
pub record SameOn (old new : List ℕ) (low high : ℕ) : Type 0 where
  pub long : length new ≡ length old
  pub same : (k : ℕ) → low ≤ k → k < high → slice_index new k ≡ slice_index old k

pub same_before : (old new : List ℕ) (from to low high : ℕ) → length new ≡ length old → ChangesOnly old new from to → high ≤ from → SameOn old new low high
same_before old new from to low high long h p = record { long = long; same = λ k a b. h.before k (omega arith) }

pub same_after : (old new : List ℕ) (from to low high : ℕ) → length new ≡ length old → ChangesOnly old new from to → to ≤ low → SameOn old new low high
same_after old new from to low high long h p = record { long = long; same = λ k a b. h.after k (omega arith) }

pub same_within : (old new : List ℕ) (low high low' high' : ℕ) → SameOn old new low high → low ≤ low' → high' ≤ high → SameOn old new low' high'
same_within old new low high low' high' h p q = record { long = h.long; same = λ k a b. h.same k (omega arith) (omega arith) }

pub number_at_same : (old new : List ℕ) (low high : ℕ) → SameOn old new low high → (at n : ℕ) → low ≤ at → at + n ≤ high → number_at new at n ≡ number_at old at n
unfolding number_at
number_at_same old new low high h at zero p q = refl
number_at_same old new low high h at (suc n) p q = omega (arith, h.same at (omega arith) (omega arith), number_at_same old new low high h (at + 1) n (omega arith) (omega arith))

pub slice_range_same : (old new : List ℕ) (low high : ℕ) → SameOn old new low high → (from to : ℕ) → low ≤ from → to ≤ high → to ≤ length old → slice_range new from to ≡ slice_range old from to
slice_range_same old new low high h from to p q fits =
    let a : length (slice_range new from to) ≡ to - from = length-between new from to (omega (arith, h.long)) in
    let b : length (slice_range old from to) ≡ to - from = length-between old from to fits in
    same_number_lists (slice_range new from to) (slice_range old from to) (a ∙ sym b)
    (λ k below. get_or-between new from to k 0 (omega arith) ∙ h.same (from + k) (omega arith) (omega arith) ∙ sym (get_or-between old from to k 0 (omega arith)))

pub number_at_zeros : (image : List ℕ) (low high : ℕ) → ((k : ℕ) → low ≤ k → k < high → slice_index image k ≡ 0) → (at n : ℕ) → low ≤ at → at + n ≤ high → number_at image at n ≡ 0
unfolding number_at
number_at_zeros image low high h at zero p q = refl
number_at_zeros image low high h at (suc n) p q = omega (arith, h at (omega arith) (omega arith), number_at_zeros image low high h (at + 1) n (omega arith) (omega arith))
