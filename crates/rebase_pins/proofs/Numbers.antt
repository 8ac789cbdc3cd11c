-- The number of a row's part.
use Rattle.std.proofs.Common.{◌≡◌, ℕ, zero, suc, ◌+◌, ◌<◌, ◌≤◌, Bool, cond, List, length, get_or, Some, refl, ap, subst, inl, inr, ◌∙◌, arith}
use Rattle.std.specs.Prelude.{find, unwrap_or, nat_lt}
use Rattle.std.specs.List.{range_with_len}
use Rattle.std.proofs.lemmas.Bool.{lt-ltb, le-ltb, cases_lt}
use Rattle.std.proofs.lemmas.List.FromFn.{get_or-range_with_len, length-range_with_len}
use Rattle.row_image.specs.declared.layout.CellKind.{CellKind}
use Rattle.row_image.specs.declared.image.ImageKind.TheVariants.{Rows}
use Rattle.row_image.specs.Image.{part_count, part_at}
use Rattle.row_image.specs.Flat.{flat}
use Rattle.row_image.specs.Followed.{LiesIn}
use Rattle.row_image.specs.Rules.{IsAccepted}
use Rattle.row_image.proofs.AcceptedLemmas.{sound_of}
use Rattle.row_image.proofs.ByteLemmas.{SameOn, number_at_same}
use Rattle.row_image.proofs.ListLemmas.{find_at, find_none}
use Rattle.row_image.proofs.PartFacts.{PartFacts, facts_of, before_next, before_mono}
use Rattle.row_image.proofs.FlatPieces.{flat_length, flat_at_head}
use Rattle.row_image.proofs.FlatParts.{flat_part_at}
use Rattle.row_image.proofs.WrittenAccepted.{parts_most}
use Rattle.row_image.proofs.WrittenFlat.{rows_lie}
use Rattle.rebase_pins.specs.Rows.{part_number}

abbrev ends : List ℕ → ℕ → ℕ
ends image k = (part_at image k).first + (part_at image k).rows

-- the first part that ends behind a row
pub number_is : (image : List ℕ) (k row : ℕ) → k < part_count image → ((j : ℕ) → j < k → ends image j ≤ row) → row < ends image k → part_number image row ≡ k
unfolding part_number
number_is image k row inside before here =
    let all = range_with_len 0 (part_count image) in
    let p : ℕ → Bool = λ j. nat_lt row (ends image j) in
    let at : (j : ℕ) → j < part_count image → get_or all j 0 ≡ j = λ j less. get_or-range_with_len 0 (part_count image) j 0 less ∙ omega arith in
    let found = find_at p all k 0 (omega (arith, inside, length-range_with_len 0 (part_count image)))
    (λ j less. ap p (at j (omega arith)) ∙ le-ltb row (ends image j) (before j less))
    (ap p (at k inside) ∙ lt-ltb row (ends image k) here) in
    ap (λ o. unwrap_or o 4) found ∙ at k inside

pub number_none : (image : List ℕ) (row : ℕ) → ((j : ℕ) → j < part_count image → ends image j ≤ row) → part_number image row ≡ 4
unfolding part_number
number_none image row before =
    let all = range_with_len 0 (part_count image) in
    let p : ℕ → Bool = λ j. nat_lt row (ends image j) in
    ap (λ o. unwrap_or o 4) (find_none p all 0 (λ j less. ap p (get_or-range_with_len 0 (part_count image) j 0 (omega (arith, less, length-range_with_len 0 (part_count image))) ∙ (let e : 0 + j ≡ j = omega arith in e)) ∙ le-ltb row (ends image j) (before j (omega (arith, less, length-range_with_len 0 (part_count image))))))

-- a row that stands in a part
pub lies_number : (kinds : List CellKind) (image : List ℕ) (row part : ℕ) → IsAccepted (Rows kinds) image → LiesIn image row part → part_number image row ≡ part
lies_number kinds image row part accepted lies =
    let s = sound_of kinds image accepted in
    let facts : (j : ℕ) → j < part_count image → PartFacts image j = λ j there. facts_of image j (s.part j there) in
    let counted = lies.counted in
    let low = lies.low in
    let first = (facts part counted).first in
    number_is image part row counted
    (λ j less. let f = (facts j (omega (arith, less, counted))).first in omega (arith, f, first, low, before_next image j, before_mono image (j + 1) part (omega arith)))
    lies.high

find_same : (p q : ℕ → Bool) (a n : ℕ) → ((k : ℕ) → a ≤ k → k < a + n → p k ≡ q k) → find p (range_with_len a n) ≡ find q (range_with_len a n)
find_same p q a zero h = refl
find_same p q a (suc n) h =
    ap (λ b. cond b (Some a) (find p (range_with_len (a + 1) n))) (h a (omega arith) (omega arith))
    ∙ ap (λ o. cond (q a) (Some a) o) (find_same p q (a + 1) n (λ k low high. h k (omega arith) (omega arith)))

-- the parts of the flat image have the same rows
pub number_flat : (kinds : List CellKind) (image : List ℕ) (row : ℕ) → IsAccepted (Rows kinds) image → 4096 ≤ length image → part_number (flat (Rows kinds) image) row ≡ part_number image row
unfolding part_number
number_flat kinds image row accepted page =
    let lies = rows_lie kinds image accepted page in
    let few = parts_most kinds image (sound_of kinds image accepted).parts in
    let f = flat (Rows kinds) image in
    let head : SameOn image f 0 32 = record { long = flat_length kinds image lies; same = λ k low high. flat_at_head kinds image k lies high } in
    let count : part_count f ≡ part_count image = number_at_same image f 0 32 head 12 4 (omega arith) (omega arith) in
    ap (λ n. unwrap_or (find (λ k. nat_lt row (ends f k)) (range_with_len 0 n)) 4) count
    ∙ ap (λ o. unwrap_or o 4) (find_same (λ k. nat_lt row (ends f k)) (λ k. nat_lt row (ends image k)) 0 (part_count image)
    (λ k low high. let same = flat_part_at kinds image k lies (omega (arith, few, high)) (omega (arith, high)) in ap (nat_lt row) (let a = ap (λ p. p.first) same in let b = ap (λ p. p.rows) same in omega (arith, a, b))))

-- the parts before a row's part end before the row, and its own behind it
before_each : (image : List ℕ) (row stop : ℕ) → stop ≤ part_count image → ((j : ℕ) → j < stop → row < ends image j → ((i : ℕ) → i < j → ends image i ≤ row) → ⊥) → (j : ℕ) → j < stop → ends image j ≤ row
before_each image row zero within never j less = absurd (omega (arith, less))
before_each image row (suc stop) within never j less =
    let below : (i : ℕ) → i < stop → ends image i ≤ row = before_each image row stop (omega (arith, within)) (λ i s. never i (omega (arith, s))) in
    elim (cases_lt row (ends image stop)) [
      | inl here ↦ absurd (never stop (omega arith) here below)
      | inr past ↦ elim (cases_lt j stop) [ inl s ↦ below j s | inr e ↦ let same : stop ≡ j = omega (arith, e, less) in subst (λ i. ends image i ≤ row) same past ]
    ]

pub before_number : (image : List ℕ) (row : ℕ) → part_number image row < part_count image → (j : ℕ) → j < part_number image row → ends image j ≤ row
before_number image row known = before_each image row (part_number image row) (omega (arith, known))
    (λ j less here below. let same = number_is image j row (omega (arith, less, known)) below here in omega (arith, same, less))

pub behind_number : (image : List ℕ) (row : ℕ) → part_count image ≤ 4 → part_number image row < part_count image → row < ends image (part_number image row)
behind_number image row few known = elim (cases_lt row (ends image (part_number image row))) [
  | inl here ↦ here
  | inr past ↦
      let all = before_each image row (part_count image) (omega arith)
      (λ j less here below. let same = number_is image j row less below here in let p : ends image j ≤ row = subst (λ i. ends image i ≤ row) same past in omega (arith, p, here)) in
      absurd (omega (arith, number_none image row all, known, few))
]
