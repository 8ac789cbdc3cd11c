-- Parts of a list.
use Rattle.std.proofs.Common.{◌≡◌, ◌≤◌, ◌<◌, ℕ, ◌+◌, ◌-◌, ◌++◌, List, [], ◌∷◌, take, drop, length, sym, ap, ◌∙◌, arith, append_assoc, length-take, length-drop, take-add}
use Rattle.std.proofs.lemmas.List.{take-take, drop-drop, drop-take}
use Rattle.std.specs.Prelude.{slice_range, slice_index}
use Rattle.csv_records.proofs.Cutting.{range-more}

-- two parts that meet
pub range-join : (l : List ℕ) (a b c : ℕ) → a ≤ b → b ≤ c → slice_range l a c ≡ slice_range l a b ++ slice_range l b c
range-join l a b c low high =
    let size : c - a ≡ (b - a) + (c - b) = omega arith in
    let at : a + (b - a) ≡ b = omega arith in
    ap (λ n. take n (drop a l)) size ∙ take-add (b - a) (c - b) (drop a l) ∙ ap (λ x. take (b - a) (drop a l) ++ take (c - b) x) (drop-drop (b - a) a l ∙ ap (λ n. drop n l) at)

-- a part of the front
pub range-front : (l : List ℕ) (a b n : ℕ) → a ≤ b → b ≤ n → slice_range (take n l) a b ≡ slice_range l a b
range-front l a b n low h =
    let e : n ≡ a + (n - a) = omega arith in
    ap (λ m. take (b - a) (drop a (take m l))) e ∙ ap (take (b - a)) (drop-take a (n - a) l) ∙ take-take (b - a) (n - a) (drop a l) (omega arith)

-- the byte at a place, with what is before and after it
pub range-at : (l : List ℕ) (a b c : ℕ) → a ≤ b → b < c → c ≤ length l → slice_range l a c ≡ slice_range l a b ++ slice_index l b ∷ slice_range l (b + 1) c
range-at l a b c low high end =
    let lt : b < length l = omega arith in
    range-join l a (b + 1) c (omega arith) (omega arith) ∙ ap (λ x. x ++ slice_range l (b + 1) c) (range-more l a b low lt)
    ∙ append_assoc (slice_range l a b) (slice_index l b ∷ []) (slice_range l (b + 1) c)

pub length-range : (l : List ℕ) (a b : ℕ) → a ≤ b → b ≤ length l → length (slice_range l a b) ≡ b - a
length-range l a b low high = omega (arith, length-take (b - a) (drop a l), length-drop a l)

-- a part without its first bytes
pub range-later : (l : List ℕ) (a b n : ℕ) → a + n ≤ b → slice_range l (a + n) b ≡ drop n (slice_range l a b)
range-later l a b n h =
    let e : b - a ≡ n + (b - (a + n)) = omega arith in
    sym (ap (λ m. drop n (take m (drop a l))) e ∙ drop-take n (b - (a + n)) (drop a l) ∙ ap (take (b - (a + n))) (drop-drop n a l))

-- a part of a front that stayed
pub range-kept : (old new : List ℕ) (a filled : ℕ) → a ≤ filled → take filled new ≡ take filled old → slice_range new a filled ≡ slice_range old a filled
range-kept old new a filled low front = sym (range-front new a filled filled low (omega arith)) ∙ ap (λ l. slice_range l a filled) front ∙ range-front old a filled filled low (omega arith)

-- bytes that were put behind a part
pub range-grown : (old new : List ℕ) (a filled n : ℕ) → a ≤ filled → take filled new ≡ take filled old → slice_range new a (filled + n) ≡ slice_range old a filled ++ slice_range new filled (filled + n)
range-grown old new a filled n low front = range-join new a filled (filled + n) low (omega arith) ∙ ap (λ x. x ++ slice_range new filled (filled + n)) (range-kept old new a filled low front)

pub range-empty : (l : List ℕ) (a b : ℕ) → b ≤ a → slice_range l a b ≡ []
range-empty l a b h = let e : b - a ≡ 0 = omega arith in ap (λ n. take n (drop a l)) e
