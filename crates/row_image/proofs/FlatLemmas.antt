-- A page one of whose heap pages moved says the same.
use Rattle.std.proofs.Common.{◌≡◌, ◌≢◌, ℕ, ◌+◌, ◌-◌, ◌%◌, ◌^◌, ◌<◌, ◌≤◌, true, cond, ltb, List, ◌++◌, length, get_or, take, drop, replicate, refl, sym, ap, ◌∙◌, arith, inl, inr}
use Rattle.std.specs.Prelude.{slice_index, slice_range}
use Rattle.std.specs.List.{range_with_len, flat_map}
use Rattle.std.proofs.lemmas.Bool.{lt-ltb, cases_lt, cases_Bool}
use Rattle.std.proofs.lemmas.Grind.{same_number_lists}
use Rattle.std.proofs.lemmas.List.{length-drop, get_or-drop}
use Rattle.row_image.specs.declared.layout.CellKind.{CellKind}
use Rattle.row_image.specs.declared.layout.CellKind.TheVariants.{Bit}
use Rattle.row_image.specs.declared.image.ImageKind.TheVariants.{Rows, Heap}
use Rattle.row_image.specs.Bytes.{number_at, number_bytes}
use Rattle.row_image.specs.Layout.{cell_width, mask_bytes, offset_of, width_of, row_place}
use Rattle.row_image.specs.Image.{row_count, part_count, part_at, part_for, part_place, no_heap}
use Rattle.row_image.specs.Flat.{is_long_in, flat_cell, flat_row, flat_part, flat}
use Rattle.row_image.specs.Moves.{MovesRow}
use Rattle.row_image.specs.Rules.{IsAccepted}
use Rattle.row_image.proofs.ByteLemmas.{SameOn, number_at_same, slice_range_same, same_within}
use Rattle.row_image.proofs.LayoutLemmas.{width_of_least, cell_ends, first_place}
use Rattle.row_image.proofs.ListLemmas.{flat_map_same}
use Rattle.row_image.proofs.AcceptedLemmas.{sound_of, row_lies}
use Rattle.row_image.proofs.PartFacts.{PartFacts, facts_of}
use Rattle.row_image.proofs.WrittenAccepted.{parts_most}
use Rattle.row_image.proofs.MoveLemmas.{is_long_same, long_kind}
use Rattle.row_image.proofs.Rebased.{Rebased, counts_same, moved_facts, RowAfter, moves, stays, row_after, row_place_mono, long_fits}
use Rattle.row_image.proofs.RebasedAccepted.{moved_long}

-- a cell whose bytes, and whose heap page, are as they were
pub flat_cell_same : (kinds : List CellKind) (old new : List ℕ) (at base column : ℕ) → SameOn old new at (at + width_of kinds) → at + width_of kinds ≤ length old → column < length kinds → flat_cell kinds new at base column ≡ flat_cell kinds old at base column
unfolding flat_cell
flat_cell_same kinds old new at base column h fits inside =
    let place = at + offset_of kinds column in
    let width = cell_width (get_or kinds column Bit) in
    let ends = cell_ends kinds column inside in
    let cell : SameOn old new place (place + width) = same_within old new at (at + width_of kinds) place (place + width) h (omega arith) (omega (arith, ends)) in
    let is = is_long_same kinds old new at column (same_within old new at (at + width_of kinds) at (at + mask_bytes kinds) h (omega arith) (omega (arith, width_of_least kinds))) cell inside in
    elim (cases_Bool (is_long_in kinds old at column)) [
      | inl long ↦
          let wide = ap cell_width (long_kind kinds old at column long) in
          rw (is, long) (ap (λ front. front ++ number_bytes 8 (number_at new (place + 8) 8 - base)) (slice_range_same old new place (place + width) cell place (place + 8) (omega arith) (omega (arith, wide)) (omega (arith, wide, ends)))
          ∙ ap (λ n. slice_range old place (place + 8) ++ number_bytes 8 (n - base)) (number_at_same old new place (place + width) cell (place + 8) 8 (omega arith) (omega (arith, wide))))
      | inr short ↦ rw (is, short) (slice_range_same old new place (place + width) cell place (place + width) (omega arith) (omega arith) (omega (arith, ends)))
    ]

-- a cell whose heap page moved
flat_cell_moved : (kinds : List CellKind) (old new : List ℕ) (at from to column : ℕ) → length new ≡ length old → MovesRow kinds old new at from to → at + width_of kinds ≤ length old → column < length kinds → (is_long_in kinds old at column ≡ true → from ≤ number_at old (at + offset_of kinds column + 8) 8) → flat_cell kinds new at to column ≡ flat_cell kinds old at from column
unfolding flat_cell
flat_cell_moved kinds old new at from to column long_same m fits inside low =
    let place = at + offset_of kinds column in
    let width = cell_width (get_or kinds column Bit) in
    let ends = cell_ends kinds column inside in
    let cell = m.cells column inside in
    let is = moved_long kinds old new at from to column long_same m inside in
    elim (cases_Bool (is_long_in kinds old at column)) [
      | inl long ↦
          let wide = ap cell_width (long_kind kinds old at column long) in
          let offset : number_at new (place + 8) 8 - to ≡ number_at old (place + 8) 8 - from = omega (arith, cell.address long, low long) in
          rw (is, long) (ap (λ front. front ++ number_bytes 8 (number_at new (place + 8) 8 - to)) (slice_range_same old new place (place + 8) (record { long = long_same; same = cell.size long }) place (place + 8) (omega arith) (omega arith) (omega (arith, wide, ends)))
          ∙ ap (λ n. slice_range old place (place + 8) ++ number_bytes 8 n) offset)
      | inr short ↦ rw (is, short) (slice_range_same old new place (place + width) (record { long = long_same; same = cell.other short }) place (place + width) (omega arith) (omega arith) (omega (arith, ends)))
    ]

flat_row_after : (kinds : List CellKind) (old new : List ℕ) (part to row : ℕ) → Rebased kinds old new part to → row_place kinds row + width_of kinds ≤ length old → ((column : ℕ) → column < length kinds → part_for old row ≡ part_at old part → is_long_in kinds old (row_place kinds row) column ≡ true → (part_at old part).base ≤ number_at old (row_place kinds row + offset_of kinds column + 8) 8) → RowAfter kinds old new part to row → flat_row kinds new row ≡ flat_row kinds old row
unfolding flat_row
flat_row_after kinds old new part to row r fits low (moves low_row high_row was now) =
    let at = row_place kinds row in
    let n = length kinds in
    let from = (part_at old part).base in
    let m = r.rows row low_row high_row in
    let head = slice_range_same old new at (at + (mask_bytes kinds + 8)) (record { long = r.long; same = λ k a b. m.head k a (omega arith) }) at (at + (mask_bytes kinds + 8)) (omega arith) (omega arith) (omega (arith, width_of_least kinds)) in
    let cells : flat_map (λ column. flat_cell kinds new at to column) (range_with_len 0 n) ≡ flat_map (λ column. flat_cell kinds old at from column) (range_with_len 0 n) =
    flat_map_same (λ column. flat_cell kinds new at to column) (λ column. flat_cell kinds old at from column) n (λ column inside. flat_cell_moved kinds old new at from to column r.long m fits inside (low column inside was)) in
    ap (λ front. front ++ flat_map (λ column. flat_cell kinds new at (part_for new row).base column) (range_with_len 0 n)) head
    ∙ ap (λ p. slice_range old at (at + (mask_bytes kinds + 8)) ++ flat_map (λ column. flat_cell kinds new at p.base column) (range_with_len 0 n)) now
    ∙ ap (λ cs. slice_range old at (at + (mask_bytes kinds + 8)) ++ cs) cells
    ∙ sym (ap (λ p. slice_range old at (at + (mask_bytes kinds + 8)) ++ flat_map (λ column. flat_cell kinds old at p.base column) (range_with_len 0 n)) was)
flat_row_after kinds old new part to row r fits low (stays same is) =
    let at = row_place kinds row in
    let n = length kinds in
    let base = (part_for old row).base in
    let head = slice_range_same old new at (at + width_of kinds) same at (at + (mask_bytes kinds + 8)) (omega arith) (omega (arith, width_of_least kinds)) (omega (arith, width_of_least kinds)) in
    let cells : flat_map (λ column. flat_cell kinds new at base column) (range_with_len 0 n) ≡ flat_map (λ column. flat_cell kinds old at base column) (range_with_len 0 n) =
    flat_map_same (λ column. flat_cell kinds new at base column) (λ column. flat_cell kinds old at base column) n (λ column inside. flat_cell_same kinds old new at base column same fits inside) in
    ap (λ front. front ++ flat_map (λ column. flat_cell kinds new at (part_for new row).base column) (range_with_len 0 n)) head
    ∙ ap (λ p. slice_range old at (at + (mask_bytes kinds + 8)) ++ flat_map (λ column. flat_cell kinds new at p.base column) (range_with_len 0 n)) is
    ∙ ap (λ cs. slice_range old at (at + (mask_bytes kinds + 8)) ++ cs) cells

flat_part_same : (kinds : List CellKind) (old new : List ℕ) (part to k : ℕ) → Rebased kinds old new part to → 4096 ≤ length old → part < part_count old → part < 4 → k < 4 → flat_part new k ≡ flat_part old k
unfolding flat_part
flat_part_same kinds old new part to k r page inside few k_few =
    let counts = counts_same kinds old new part to r in
    let at = part_place k in
    let front : SameOn old new at (at + 16) =
    elim (cases_lt part k) [
      | inl later ↦ record { long = r.long; same = λ j a b. r.between j (omega arith) (omega (arith, first_place kinds (part_at old part).first)) }
      | inr earlier ↦ record { long = r.long; same = λ j a b. r.before j (omega arith) }
    ] in
    ap (λ bytes. bytes ++ cond (ltb k (part_count new)) (replicate 8 0) (slice_range new (at + 16) (at + 24))) (slice_range_same old new at (at + 16) front at (at + 16) (omega arith) (omega arith) (omega arith))
    ∙ ap (λ n. slice_range old at (at + 16) ++ cond (ltb k n) (replicate 8 0) (slice_range new (at + 16) (at + 24))) counts.1
    ∙ ap (λ bytes. slice_range old at (at + 16) ++ bytes) (elim (cases_lt k (part_count old)) [
      | inl there ↦ ap (λ b. cond b (replicate 8 0) (slice_range new (at + 16) (at + 24))) (lt-ltb k (part_count old) there) ∙ sym (ap (λ b. cond b (replicate 8 0) (slice_range old (at + 16) (at + 24))) (lt-ltb k (part_count old) there))
      | inr past ↦ ap (λ bytes. cond (ltb k (part_count old)) (replicate 8 0) bytes) (slice_range_same old new (at + 16) (at + 24) (record { long = r.long; same = λ j a b. r.between j (omega arith) (omega (arith, first_place kinds (part_at old part).first)) }) (at + 16) (at + 24) (omega arith) (omega arith) (omega arith))
    ])

drop_same : (old new : List ℕ) (n : ℕ) → length new ≡ length old → ((k : ℕ) → n ≤ k → slice_index new k ≡ slice_index old k) → drop n new ≡ drop n old
drop_same old new n long h =
    same_number_lists (drop n new) (drop n old) (length-drop n new ∙ ap (λ m. m - n) long ∙ sym (length-drop n old))
    (λ k below. get_or-drop n new k 0 ∙ h (n + k) (omega arith) ∙ sym (get_or-drop n old k 0))

pub rebased_flat : (kinds : List CellKind) (old new : List ℕ) (part to : ℕ) → Rebased kinds old new part to → IsAccepted (Rows kinds) old → 4096 ≤ length old → part < part_count old → (part_at old part).heap ≢ no_heap → to % length old ≡ 0 → to < 2 ^ 48 → flat (Rows kinds) new ≡ flat (Rows kinds) old
unfolding flat
rebased_flat kinds old new part to r accepted page inside heap aligned low =
    let s = sound_of kinds old accepted in
    let counts = counts_same kinds old new part to r in
    let few = parts_most kinds old s.parts in
    let facts : (k : ℕ) → k < part_count old → PartFacts old k = λ k k_inside. facts_of old k (s.part k k_inside) in
    let facts' = moved_facts kinds old new part to r few inside heap aligned low facts in
    let n = row_count old in
    let f = facts part inside in
    let head : take 32 new ≡ take 32 old = slice_range_same old new 0 32 (record { long = r.long; same = λ k a b. r.before k (omega arith) }) 0 32 (omega arith) (omega arith) (omega arith) in
    let parts : flat_map (λ k. flat_part new k) (range_with_len 0 4) ≡ flat_map (λ k. flat_part old k) (range_with_len 0 4) =
    flat_map_same (λ k. flat_part new k) (λ k. flat_part old k) 4 (λ k k_few. flat_part_same kinds old new part to k r page inside (omega (arith, few)) k_few) in
    let rows : flat_map (λ row. flat_row kinds new row) (range_with_len 0 n) ≡ flat_map (λ row. flat_row kinds old row) (range_with_len 0 n) =
    flat_map_same (λ row. flat_row kinds new row) (λ row. flat_row kinds old row) n (λ row below.
    flat_row_after kinds old new part to row r (row_lies kinds old row accepted (omega arith) below)
    (λ column c was long. let a = (long_fits kinds old row column (s.cell row column below c) long).2 in omega (arith, a.low, ap (λ p. p.base) was))
    (row_after kinds old new part to row r few inside (λ some. omega (arith, inside)) facts facts' below)) in
    let rest : drop (row_place kinds n) new ≡ drop (row_place kinds n) old = drop_same old new (row_place kinds n) r.long (λ k past. r.after k (omega (arith, row_place_mono kinds ((part_at old part).first + (part_at old part).rows) n (omega (arith, f.first, f.most))))) in
    ap (λ xs. xs ++ flat_map (λ k. flat_part new k) (range_with_len 0 4) ++ flat_map (λ row. flat_row kinds new row) (range_with_len 0 (row_count new)) ++ drop (row_place kinds (row_count new)) new) head
    ∙ ap (λ xs. take 32 old ++ xs ++ flat_map (λ row. flat_row kinds new row) (range_with_len 0 (row_count new)) ++ drop (row_place kinds (row_count new)) new) parts
    ∙ ap (λ m. take 32 old ++ flat_map (λ k. flat_part old k) (range_with_len 0 4) ++ flat_map (λ row. flat_row kinds new row) (range_with_len 0 m) ++ drop (row_place kinds m) new) counts.0
    ∙ ap (λ xs. take 32 old ++ flat_map (λ k. flat_part old k) (range_with_len 0 4) ++ xs ++ drop (row_place kinds n) new) rows
    ∙ ap (λ xs. take 32 old ++ flat_map (λ k. flat_part old k) (range_with_len 0 4) ++ flat_map (λ row. flat_row kinds old row) (range_with_len 0 n) ++ xs) rest

-- a heap page says the same wherever it lies
pub heap_flat : (image : List ℕ) → flat Heap image ≡ image
unfolding flat
heap_flat image = refl
