-- The parts of a flat image: those of the image, at base 0.
use Rattle.std.proofs.Common.{◌≡◌, ℕ, zero, suc, ◌+◌, ◌*◌, ◌-◌, ◌<◌, ◌≤◌, Bool, true, false, cond, ltb, List, ◌++◌, length, get_or, take, drop, map, replicate, Option, Some, refl, ap, ◌∙◌, arith, length-append}
use Rattle.std.specs.Prelude.{slice_index, slice_range, find, unwrap_or}
use Rattle.std.specs.List.{range_with_len, flat_map}
use Rattle.std.proofs.lemmas.Bool.{lt-ltb}
use Rattle.std.proofs.lemmas.List.{length-take, get_or-append-add, get_or_append_left, get_or-replicate}
use Rattle.std.proofs.lemmas.List.Edits.{length-between, get_or-between}
use Rattle.row_image.specs.declared.layout.CellKind.{CellKind}
use Rattle.row_image.specs.declared.image.Part.{Part}
use Rattle.row_image.specs.declared.image.ImageKind.TheVariants.{Rows}
use Rattle.row_image.specs.Image.{row_count, part_count, part_place, part_at, parts_of, part_for, no_part}
use Rattle.row_image.specs.Flat.{flat_row, flat_part, flat}
use Rattle.row_image.specs.Moves.{based}
use Rattle.row_image.proofs.ByteLemmas.{SameOn, number_at_same, number_at_zeros}
use Rattle.row_image.proofs.PieceLemmas.{pieces_at}
use Rattle.row_image.specs.Layout.{row_place}
use Rattle.row_image.proofs.FlatPieces.{RowsLie, flat_length, flat_at_head, head_length, parts_laid, flat_part_length}

flat_at_part : (kinds : List CellKind) (image : List ℕ) (k j : ℕ) → RowsLie kinds image → k < 4 → j < 24 → slice_index (flat (Rows kinds) image) (32 + (24 * k + j)) ≡ get_or (flat_part image k) j 0
unfolding flat
flat_at_part kinds image k j h k_few inside =
    let front = take 32 image in
    let parts = flat_map (λ part. flat_part image part) (range_with_len 0 4) in
    let rows = flat_map (λ row. flat_row kinds image row) (range_with_len 0 (row_count image)) in
    let rest = drop (row_place kinds (row_count image)) image in
    let head = head_length image h.page in
    let front_long : length front ≡ 32 = omega (arith, length-take 32 image, h.page) in
    get_or_append_left (front ++ parts ++ rows) rest 0 (32 + (24 * k + j)) (omega (arith, length-append (front ++ parts) rows, head))
    ∙ get_or_append_left (front ++ parts) rows 0 (32 + (24 * k + j)) (omega (arith, head))
    ∙ ap (λ i. get_or (front ++ parts) i 0) (let e : 32 + (24 * k + j) ≡ length front + (24 * k + j) = omega (arith, front_long) in e)
    ∙ get_or-append-add front parts (24 * k + j) 0
    ∙ pieces_at (λ part. flat_part image part) (λ part. 24 * part) 4 (parts_laid image h.page) k j 0 k_few (omega (arith, flat_part_length image k h.page k_few))

part_front : (image : List ℕ) (k j : ℕ) → 128 ≤ length image → k < 4 → j < 16 → get_or (flat_part image k) j 0 ≡ get_or image (part_place k + j) 0
unfolding flat_part
part_front image k j page k_few inside =
    let at = part_place k in
    get_or_append_left (slice_range image at (at + 16)) (cond (ltb k (part_count image)) (replicate 8 0) (slice_range image (at + 16) (at + 24))) 0 j (omega (arith, length-between image at (at + 16) (omega arith)))
    ∙ get_or-between image at (at + 16) j 0 (omega arith)

part_base : (image : List ℕ) (k j : ℕ) → 128 ≤ length image → k < 4 → k < part_count image → j < 8 → get_or (flat_part image k) (16 + j) 0 ≡ 0
unfolding flat_part
part_base image k j page k_few there inside =
    let at = part_place k in
    let front = slice_range image at (at + 16) in
    let back = slice_range image (at + 16) (at + 24) in
    let long : length front ≡ 16 = length-between image at (at + 16) (omega arith) ∙ omega arith in
    ap (λ b. get_or (front ++ cond b (replicate 8 0) back) (16 + j) 0) (lt-ltb k (part_count image) there)
    ∙ ap (λ i. get_or (front ++ replicate 8 0) i 0) (let e : 16 + j ≡ length front + j = omega (arith, long) in e)
    ∙ get_or-append-add front (replicate 8 0) j 0 ∙ get_or-replicate 8 j 0 0 inside

pub flat_part_at : (kinds : List CellKind) (image : List ℕ) (k : ℕ) → RowsLie kinds image → k < 4 → k < part_count image → part_at (flat (Rows kinds) image) k ≡ based (part_at image k) 0
unfolding part_at
flat_part_at kinds image k h k_few there =
    let new = flat (Rows kinds) image in
    let same : SameOn image new (32 + 24 * k) (48 + 24 * k) = record {
      long = flat_length kinds image h;
      same = λ i low high.
          let e : i ≡ 32 + (24 * k + (i - (32 + 24 * k))) = omega arith in
          ap (slice_index new) e ∙ flat_at_part kinds image k (i - (32 + 24 * k)) h k_few (omega arith) ∙ part_front image k (i - (32 + 24 * k)) h.page k_few (omega arith) ∙ ap (slice_index image) (let f : part_place k + (i - (32 + 24 * k)) ≡ i = omega arith in f);
    } in
    let first = number_at_same image new (32 + 24 * k) (48 + 24 * k) same (32 + 24 * k) 4 (omega arith) (omega arith) in
    let rows = number_at_same image new (32 + 24 * k) (48 + 24 * k) same (32 + 24 * k + 4) 4 (omega arith) (omega arith) in
    let heap = number_at_same image new (32 + 24 * k) (48 + 24 * k) same (32 + 24 * k + 8) 4 (omega arith) (omega arith) in
    let base = number_at_zeros new (32 + 24 * k + 16) (32 + 24 * k + 24) (λ i low high.
    let e : i ≡ 32 + (24 * k + (16 + (i - (48 + 24 * k)))) = omega arith in
    ap (slice_index new) e ∙ flat_at_part kinds image k (16 + (i - (48 + 24 * k))) h k_few (omega arith) ∙ part_base image k (i - (48 + 24 * k)) h.page k_few there (omega arith)) (32 + 24 * k + 16) 8 (omega arith) (omega arith) in
    λ i. record { first = first i; rows = rows i; heap = heap i; base = base i }

-- the first that passes, of two lists that differ only in what the test and the heap number don't see
found_heap : (p : Part → Bool) (f g : ℕ → Part) (a n : ℕ) (d : Part) → ((k : ℕ) → a ≤ k → k < a + n → p (f k) ≡ p (g k)) → ((k : ℕ) → a ≤ k → k < a + n → (f k).heap ≡ (g k).heap) → (unwrap_or (find p (map f (range_with_len a n))) d).heap ≡ (unwrap_or (find p (map g (range_with_len a n))) d).heap
found_heap p f g a zero d tests heaps = refl
found_heap p f g a (suc n) d tests heaps =
    ap (λ b. (unwrap_or (cond b (Some (f a)) (find p (map f (range_with_len (a + 1) n)))) d).heap) (tests a (omega arith) (omega arith))
    ∙ by_test (p (g a)) (f a) (g a) (find p (map f (range_with_len (a + 1) n))) (find p (map g (range_with_len (a + 1) n))) d (heaps a (omega arith) (omega arith))
    (found_heap p f g (a + 1) n d (λ k low high. tests k (omega arith) (omega arith)) (λ k low high. heaps k (omega arith) (omega arith)))
  where
    by_test : (b : Bool) (x y : Part) (xs ys : Option Part) (d : Part) → x.heap ≡ y.heap → (unwrap_or xs d).heap ≡ (unwrap_or ys d).heap → (unwrap_or (cond b (Some x) xs) d).heap ≡ (unwrap_or (cond b (Some y) ys) d).heap
    by_test true x y xs ys d h r = h
    by_test false x y xs ys d h r = r

-- a row has the same heap page in the flat image
pub flat_heap : (kinds : List CellKind) (image : List ℕ) (row : ℕ) → RowsLie kinds image → part_count image ≤ 4 → (part_for (flat (Rows kinds) image) row).heap ≡ (part_for image row).heap
unfolding part_for parts_of
flat_heap kinds image row h few =
    let new = flat (Rows kinds) image in
    let head : SameOn image new 0 32 = record { long = flat_length kinds image h; same = λ k low high. flat_at_head kinds image k h high } in
    let count = number_at_same image new 0 32 head 12 4 (omega arith) (omega arith) in
    let p = λ (part : Part). ltb row (part.first + part.rows) in
    ap (λ n. (unwrap_or (find p (map (λ k. part_at new k) (range_with_len 0 n))) no_part).heap) count
    ∙ found_heap p (λ k. part_at new k) (λ k. part_at image k) 0 (part_count image) no_part
    (λ k low high. ap p (flat_part_at kinds image k h (omega arith) (omega arith)))
    (λ k low high. ap (λ part. part.heap) (flat_part_at kinds image k h (omega arith) (omega arith)))
