-- How the text ahead stays the same while bytes of the file are taken.
use Rattle.std.proofs.Common.{◌≡◌, ◌≤◌, ℕ, ◌+◌, ◌-◌, ◌++◌, inl, inr, Bool, Option, Some, None, List, [], take, length, refl, sym, ap, subst, ◌∙◌, arith, append_assoc, length-append, take_all}
use Rattle.std.proofs.lemmas.Bool.{le-leb, lt-leb}
use Rattle.std.proofs.lemmas.Bool.Decides.{leb_tells}
use Rattle.std.proofs.Math.Seq.{take-append-add}
use Rattle.std.specs.Prelude.{nat_le, slice_range}
use Rattle.csv_records.proofs.Ranges.{range-grown, length-range}
use Rattle.std.specs.Io.KnownBytes.{Consumes, IsAtEnd}
use Rattle.csv_records.specs.Ahead.{Same, told_text}
use Rattle.csv_records.specs.Buffer.{IsLast}

nat_le-same : (a b c d : ℕ) → (a ≤ b → c ≤ d) → (c ≤ d → a ≤ b) → nat_le a b ≡ nat_le c d
nat_le-same a b c d there back = elim (leb_tells a b) [
  | inl h ↦ h.0 ∙ sym (le-leb c d (there h.1))
  | inr h ↦ h.0 ∙ sym (lt-leb c d (elim (leb_tells c d) [ inl k ↦ absurd (omega (arith, back k.1, h.1)) | inr k ↦ k.1 ]))
]

take-rest : (piece ys : List ℕ) (allowed : ℕ) → length piece ≤ allowed → piece ++ take (allowed - length piece) ys ≡ take allowed (piece ++ ys)
take-rest piece ys allowed low =
    let e : allowed ≡ length piece + (allowed - length piece) = omega arith in
    sym (ap (λ n. take n (piece ++ ys)) e ∙ take-append-add piece ys (allowed - length piece))

-- bytes that were taken of the file and put behind those that are carried
pub text-grown : (begun : Bool) (carried piece : List ℕ) (allowed : ℕ) (left after : Option (List ℕ)) → length piece ≤ allowed → Consumes left after piece
    → Same (told_text (record { begun = begun; carried = carried; allowed = allowed }) left) (told_text (record { begun = begun; carried = carried ++ piece; allowed = allowed - length piece }) after)
text-grown begun carried piece allowed None after low h = tt
text-grown begun carried piece allowed (Some bytes) None low h = absurd h
text-grown begun carried piece allowed (Some bytes) (Some ys) low h =
    let text : (carried ++ piece) ++ take (allowed - length piece) ys ≡ carried ++ take allowed bytes =
    append_assoc carried piece (take (allowed - length piece) ys) ∙ ap (λ x. carried ++ x) (take-rest piece ys allowed low ∙ ap (take allowed) (sym h)) in
    let size : length bytes ≡ length piece + length ys = ap length h ∙ length-append piece ys in
    let long : nat_le (allowed - length piece) (length ys) ≡ nat_le allowed (length bytes) =
    nat_le-same (allowed - length piece) (length ys) allowed (length bytes) (λ g. omega arith) (λ g. omega arith) in
    rw (text, long) refl

-- the same in a buffer
pub buffer-grown : (begun : Bool) (old new : List ℕ) (at filled n allowed : ℕ) (left after : Option (List ℕ)) → at ≤ filled → filled + n ≤ length new → n ≤ allowed → take filled new ≡ take filled old
    → Consumes left after (slice_range new filled (filled + n))
    → Same (told_text (record { begun = begun; carried = slice_range old at filled; allowed = allowed }) left)
    (told_text (record { begun = begun; carried = slice_range new at (filled + n); allowed = allowed - n }) after)
buffer-grown begun old new at filled n allowed left after low high few front h =
    let piece = slice_range new filled (filled + n) in
    let size : length piece ≡ n = omega (arith, length-range new filled (filled + n)) in
    let some : length piece ≤ allowed = omega arith in
    let all : allowed - length piece ≡ allowed - n = ap (λ k. allowed - k) size in
    rw (range-grown old new at filled n low front)
    (subst (λ k. Same (told_text (record { begun = begun; carried = slice_range old at filled; allowed = allowed }) left)
    (told_text (record { begun = begun; carried = slice_range old at filled ++ piece; allowed = k }) after)) all
    (text-grown begun (slice_range old at filled) piece allowed left after some h))

-- no more bytes are allowed, or none are left
pub last-allowed : (allowed : ℕ) (left : Option (List ℕ)) → allowed ≡ 0 → IsLast allowed left
last-allowed allowed None none = tt
last-allowed allowed (Some bytes) none = rw none refl

pub take-none : (n : ℕ) (bytes : List ℕ) → bytes ≡ [] → take n bytes ≡ []
take-none n bytes none = take_all n bytes (omega (arith, ap length none)) ∙ none

pub last-left : (allowed : ℕ) (left : Option (List ℕ)) → IsAtEnd left → IsLast allowed left
last-left allowed None end = tt
last-left allowed (Some bytes) end = take-none allowed bytes end

pub then-same : {A : Type 0} (a b c : Option A) → Same a b → Same b c → Same a c
then-same None b c s t = tt
then-same {A} (Some x) b c s t = by b s t
  where
    by : (b : Option A) → b ≡ Some x → Same b c → c ≡ Some x
    by None s t = cc s
    by (Some y) s t = t ∙ s

pub same-refl : {A : Type 0} (a : Option A) → Same a a
same-refl None = tt
same-refl (Some x) = refl
