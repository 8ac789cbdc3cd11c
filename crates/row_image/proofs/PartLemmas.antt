-- The parts of a page, one by one.
use Rattle.std.proofs.Common.{◌≡◌, ◌≢◌, ℕ, ◌+◌, ◌*◌, ◌-◌, ◌<◌, ◌≤◌, true, false, not, eqb, List, [], ◌∷◌, ◌++◌, length, get_or, set, map, Option, sym, ap, ◌∙◌, arith, inl, inr}
use Rattle.std.specs.List.{range_with_len}
use Rattle.std.proofs.lemmas.Bool.{cases_eq, cases_lt, lt-ltb, ne_eqb, false≢true, and_right}
use Rattle.std.proofs.lemmas.List.{same_lists, length-set, get_or-set_same, get_or-set_other}
use Rattle.std.proofs.lemmas.List.FromFn.{length-map-range_with_len, get_or-map-range_with_len, map-range_with_len_more}
use Rattle.row_image.specs.declared.image.Part.{Part}
use Rattle.row_image.specs.Bytes.{ChangesOnly}
use Rattle.row_image.specs.Image.{part_count, part_at, parts_of, no_part}
use Rattle.std.specs.Prelude.{◌&&◌, nat_lt}
use Rattle.row_image.specs.Parts.{last_part, takes_row, joins, grown, begun, parts_with, begins_fifth}
use Rattle.row_image.proofs.ByteLemmas.{SameOn, number_at_same, same_before, same_after}
use Rattle.row_image.proofs.ListLemmas.{map_same}

pub parts_length : (image : List ℕ) → length (parts_of image) ≡ part_count image
unfolding parts_of
parts_length image = length-map-range_with_len (λ part. part_at image part) 0 (part_count image)

pub parts_at : (image : List ℕ) (k : ℕ) (d : Part) → k < part_count image → get_or (parts_of image) k d ≡ part_at image k
unfolding parts_of
parts_at image k d inside = get_or-map-range_with_len (λ part. part_at image part) 0 (part_count image) k k d inside (omega arith)

pub last_is : (image : List ℕ) → 0 < part_count image → last_part (parts_of image) ≡ part_at image (part_count image - 1)
last_is image some = ap (λ n. get_or (parts_of image) (n - 1) no_part) (parts_length image) ∙ parts_at image (part_count image - 1) no_part (omega arith)

pub part_at_same : (old new : List ℕ) (k low high : ℕ) → SameOn old new low high → low ≤ 32 + 24 * k → 56 + 24 * k ≤ high → part_at new k ≡ part_at old k
unfolding part_at
part_at_same old new k low high h p q =
    let first = number_at_same old new low high h (32 + 24 * k) 4 (omega arith) (omega arith) in
    let rows = number_at_same old new low high h (32 + 24 * k + 4) 4 (omega arith) (omega arith) in
    let heap = number_at_same old new low high h (32 + 24 * k + 8) 4 (omega arith) (omega arith) in
    let base = number_at_same old new low high h (32 + 24 * k + 16) 8 (omega arith) (omega arith) in
    λ i. record { first = first i; rows = rows i; heap = heap i; base = base i }

-- another part's entry was written
pub part_at_other : (old new : List ℕ) (k j : ℕ) → length new ≡ length old → ChangesOnly old new (32 + 24 * k) (56 + 24 * k) → j ≢ k → part_at new j ≡ part_at old j
part_at_other old new k j long h other =
    elim (cases_lt j k) [
      | inl less ↦ part_at_same old new j (32 + 24 * j) (56 + 24 * j) (same_before old new (32 + 24 * k) (56 + 24 * k) (32 + 24 * j) (56 + 24 * j) long h (omega arith)) (omega arith) (omega arith)
      | inr more ↦ part_at_same old new j (32 + 24 * j) (56 + 24 * j) (same_after old new (32 + 24 * k) (56 + 24 * k) (32 + 24 * j) (56 + 24 * j) long h (omega arith)) (omega arith) (omega arith)
    ]

-- one part's entry was written, and the count stays
pub parts_set : (old new : List ℕ) (k : ℕ) (value : Part) → part_count new ≡ part_count old → k < part_count old → part_at new k ≡ value → ((j : ℕ) → j ≢ k → part_at new j ≡ part_at old j) → parts_of new ≡ set (parts_of old) k value
parts_set old new k value count inside here others =
    same_lists (parts_of new) (set (parts_of old) k value) (parts_length new ∙ count ∙ sym (length-set (parts_of old) k value ∙ parts_length old))
    (λ j d below.
    let within : j < part_count new = omega (arith, parts_length new) in
    elim (cases_eq j k) [
      | inl e ↦ parts_at new j d within ∙ ap (part_at new) e ∙ here ∙ (let room : k < length (parts_of old) = omega (arith, parts_length old) in sym (ap (λ i. get_or (set (parts_of old) k value) i d) e ∙ get_or-set_same (parts_of old) k value d room))
      | inr ne ↦ parts_at new j d within ∙ others j ne ∙ sym (get_or-set_other (parts_of old) k j value d ne ∙ parts_at old j d (omega arith))
    ])

-- a part's entry was written behind the others
pub parts_more : (old new : List ℕ) (value : Part) → part_count new ≡ part_count old + 1 → part_at new (part_count old) ≡ value → ((j : ℕ) → j < part_count old → part_at new j ≡ part_at old j) → parts_of new ≡ parts_of old ++ value ∷ []
unfolding parts_of
parts_more old new value count here others =
    ap (λ n. map (λ part. part_at new part) (range_with_len 0 n)) count
    ∙ map-range_with_len_more (λ part. part_at new part) 0 (part_count old) (part_count old) (omega arith)
    ∙ ap (λ v. map (λ part. part_at new part) (range_with_len 0 (part_count old)) ++ v ∷ []) here
    ∙ ap (λ front. front ++ value ∷ []) (map_same (λ part. part_at new part) (λ part. part_at old part) (part_count old) others)

pub joins_some : (image : List ℕ) (want : Option (ℕ × ℕ)) → 0 < part_count image → joins (parts_of image) want ≡ takes_row (part_at image (part_count image - 1)) want
unfolding joins
joins_some image want some =
    let there : 0 < length (parts_of image) = omega (arith, parts_length image) in
    ap (λ b. b && takes_row (last_part (parts_of image)) want) (lt-ltb 0 (length (parts_of image)) there) ∙ ap (λ p. takes_row p want) (last_is image some)

pub joins_none : (image : List ℕ) (want : Option (ℕ × ℕ)) → part_count image ≡ 0 → joins (parts_of image) want ≡ false
unfolding joins
joins_none image want none =
    ap (λ n. nat_lt 0 n && takes_row (last_part (parts_of image)) want) (parts_length image ∙ none)

-- the current part takes the row
pub joins_counted : (image : List ℕ) (want : Option (ℕ × ℕ)) → joins (parts_of image) want ≡ true → 0 < part_count image
joins_counted image want h = elim (cases_eq (part_count image) 0) [ inl none ↦ absurd (false≢true (sym (joins_none image want none) ∙ h)) | inr some ↦ omega arith ]

pub fifth_not : (image : List ℕ) (want : Option (ℕ × ℕ)) → joins (parts_of image) want ≡ true → begins_fifth (parts_of image) want ≡ false
unfolding begins_fifth
fifth_not image want h = rw h

pub fifth_few : (image : List ℕ) (want : Option (ℕ × ℕ)) → part_count image ≢ 4 → begins_fifth (parts_of image) want ≡ false
unfolding begins_fifth
fifth_few image want few = and_right (not (joins (parts_of image) want)) (eqb (length (parts_of image)) 4) (ne_eqb (length (parts_of image)) 4 (λ e. few (sym (parts_length image) ∙ e)))

pub fifth_is : (image : List ℕ) (want : Option (ℕ × ℕ)) → joins (parts_of image) want ≡ false → part_count image ≡ 4 → begins_fifth (parts_of image) want ≡ true
unfolding begins_fifth
fifth_is image want h four = rw (h, parts_length image, four)

pub with_joined : (old new : List ℕ) (row : ℕ) (want : Option (ℕ × ℕ)) → joins (parts_of old) want ≡ true → length new ≡ length old → part_count new ≡ part_count old → part_at new (part_count old - 1) ≡ grown (part_at old (part_count old - 1)) want → ChangesOnly old new (32 + 24 * (part_count old - 1)) (56 + 24 * (part_count old - 1)) → parts_of new ≡ parts_with (parts_of old) row want
unfolding parts_with
with_joined old new row want h long count here others =
    let some = joins_counted old want h in
    parts_set old new (part_count old - 1) (grown (part_at old (part_count old - 1)) want) count (omega arith) here (λ j ne. part_at_other old new (part_count old - 1) j long others ne)
    ∙ sym (rw (h, last_is old some, parts_length old))

pub with_begun : (old new : List ℕ) (row : ℕ) (want : Option (ℕ × ℕ)) → joins (parts_of old) want ≡ false → part_count new ≡ part_count old + 1 → part_at new (part_count old) ≡ begun row want → ((j : ℕ) → j < part_count old → part_at new j ≡ part_at old j) → parts_of new ≡ parts_with (parts_of old) row want
unfolding parts_with
with_begun old new row want h count here others = parts_more old new (begun row want) count here others ∙ sym (rw h)

-- the parts of two images with the same entries
pub parts_same : (old new : List ℕ) → SameOn old new 12 128 → part_count old ≤ 4 → parts_of new ≡ parts_of old
unfolding parts_of
parts_same old new h few =
    ap (λ n. map (λ part. part_at new part) (range_with_len 0 n)) (number_at_same old new 12 128 h 12 4 (omega arith) (omega arith))
    ∙ map_same (λ part. part_at new part) (λ part. part_at old part) (part_count old) (λ k inside. part_at_same old new k 12 128 h (omega arith) (omega arith))
