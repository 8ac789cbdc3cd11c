-- A page one of whose heap pages moved is accepted.
use Rattle.std.proofs.Common.{◌≡◌, ◌≢◌, ℕ, ◌+◌, ◌/◌, ◌%◌, ◌^◌, ◌<◌, ◌≤◌, true, false, not, cond, eqb, leb, ltb, List, [], length, get_or, None, sym, ap, subst, ◌∙◌, arith, inl, inr}
use Rattle.std.specs.Prelude.{◌&&◌, ◌==◌}
use Rattle.std.specs.Int.{bit_at}
use Rattle.std.proofs.lemmas.Bool.{cases_Bool}
use Rattle.row_image.specs.declared.layout.CellKind.{CellKind}
use Rattle.row_image.specs.declared.layout.CellKind.TheVariants.{Bit}
use Rattle.row_image.specs.declared.image.Part.{Part}
use Rattle.row_image.specs.declared.image.ImageKind.TheVariants.{Rows}
use Rattle.row_image.specs.Bytes.{number_at}
use Rattle.row_image.specs.Layout.{cell_width, is_text, offset_of, width_of, has_texts, rows_that_fit, row_place}
use Rattle.row_image.specs.Image.{row_count, part_count, is_null, part_at, part_for, no_heap}
use Rattle.row_image.specs.Rules.{first_damage, text_limit, kind_rules, cell_rules, needs_parts, IsAccepted}
use Rattle.row_image.specs.Flat.{is_long_in}
use Rattle.row_image.specs.Moves.{based, MovesRow}
use Rattle.row_image.proofs.ByteLemmas.{SameOn, number_at_same}
use Rattle.row_image.proofs.LayoutLemmas.{cell_ends, mask_holds}
use Rattle.row_image.proofs.AcceptedLemmas.{HasParts, sound_of, accepted_of, row_lies}
use Rattle.row_image.proofs.CellRuleLemmas.{AddressFits, rules_long, short_rules, kind_rules_same}
use Rattle.row_image.proofs.PartFacts.{PartFacts, facts_of, facts_sound}
use Rattle.row_image.proofs.WrittenAccepted.{old_cell, parts_most}
use Rattle.row_image.proofs.MoveLemmas.{text_kind, long_kind}
use Rattle.row_image.proofs.Rebased.{Rebased, counts_same, moved_facts, RowAfter, moves, stays, row_after, long_fits}

-- the mask of a row that moved
pub moved_null : (kinds : List CellKind) (old new : List ℕ) (at from to column : ℕ) → MovesRow kinds old new at from to → column < length kinds → is_null new at column ≡ is_null old at column
unfolding is_null
moved_null kinds old new at from to column m inside = ap (λ byte. bit_at byte (column % 8) == 1) (m.head (at + column / 8) (omega arith) (omega (arith, mask_holds kinds column inside)))

-- the length of a text in a row that moved
moved_size : (kinds : List CellKind) (old new : List ℕ) (at from to column : ℕ) → length new ≡ length old → MovesRow kinds old new at from to → column < length kinds → is_text (get_or kinds column Bit) ≡ true → number_at new (at + offset_of kinds column) 4 ≡ number_at old (at + offset_of kinds column) 4
moved_size kinds old new at from to column long m inside text =
    let place = at + offset_of kinds column in
    let wide = ap cell_width (text_kind (get_or kinds column Bit) text) in
    let cell = m.cells column inside in
    elim (cases_Bool (is_long_in kinds old at column)) [
      | inl yes_long ↦ number_at_same old new place (place + 8) (record { long = long; same = cell.size yes_long }) place 4 (omega arith) (omega arith)
      | inr short ↦ number_at_same old new place (place + cell_width (get_or kinds column Bit)) (record { long = long; same = cell.other short }) place 4 (omega arith) (omega (arith, wide))
    ]

pub moved_long : (kinds : List CellKind) (old new : List ℕ) (at from to column : ℕ) → length new ≡ length old → MovesRow kinds old new at from to → column < length kinds → is_long_in kinds new at column ≡ is_long_in kinds old at column
unfolding is_long_in
moved_long kinds old new at from to column long m inside =
    let kind = get_or kinds column Bit in
    let place = at + offset_of kinds column in
    let sizes : (is_text kind && ltb 12 (number_at new place 4)) ≡ (is_text kind && ltb 12 (number_at old place 4)) =
    elim (cases_Bool (is_text kind)) [
      | inl text ↦ ap (λ n. is_text kind && ltb 12 n) (moved_size kinds old new at from to column long m inside text)
      | inr other ↦ ap (λ b. b && ltb 12 (number_at new place 4)) other ∙ sym (ap (λ b. b && ltb 12 (number_at old place 4)) other)
    ] in
    ap (λ b. not b && (is_text kind && ltb 12 (number_at new place 4))) (moved_null kinds old new at from to column m inside) ∙ ap (λ s. not (is_null old at column) && s) sizes

not_long : (kinds : List CellKind) (image : List ℕ) (at column : ℕ) → is_long_in kinds image at column ≡ false → is_null image at column ≡ false → (is_text (get_or kinds column Bit) && ltb 12 (number_at image (at + offset_of kinds column) 4)) ≡ false
unfolding is_long_in
not_long kinds image at column h null = sym (ap (λ b. not b && (is_text (get_or kinds column Bit) && ltb 12 (number_at image (at + offset_of kinds column) 4))) null) ∙ h

moved_cell : (kinds : List CellKind) (old new : List ℕ) (part : Part) (to row column : ℕ) → length new ≡ length old → MovesRow kinds old new (row_place kinds row) part.base to → row_place kinds row + width_of kinds ≤ length old → column < length kinds → part_for old row ≡ part → part_for new row ≡ based part to → first_damage (cell_rules kinds old row column) ≡ None → first_damage (cell_rules kinds new row column) ≡ None
unfolding cell_rules
moved_cell kinds old new part to row column long m fits inside was now sound =
    let at = row_place kinds row in
    let kind = get_or kinds column Bit in
    let place = at + offset_of kinds column in
    let cell = m.cells column inside in
    let null = moved_null kinds old new at part.base to column m inside in
    let ends = cell_ends kinds column inside in
    let start : first_damage (cond (is_null old at column) [] (kind_rules kind old place part)) ≡ None = ap (λ p. first_damage (cond (is_null old at column) [] (kind_rules kind old place p))) (sym was) ∙ sound in
    let goal : first_damage (cond (is_null old at column) [] (kind_rules kind new place (based part to))) ≡ None =
    elim (cases_Bool (is_null old at column)) [
      | inl none ↦ ap (λ b. first_damage (cond b [] (kind_rules kind new place (based part to)))) none
      | inr there ↦
          let rules : first_damage (kind_rules kind old place part) ≡ None = sym (ap (λ b. first_damage (cond b [] (kind_rules kind old place part))) there) ∙ start in
          ap (λ b. first_damage (cond b [] (kind_rules kind new place (based part to)))) there ∙
          elim (cases_Bool (is_long_in kinds old at column)) [
            | inl is_long ↦
                let text = long_kind kinds old at column is_long in
                let size = moved_size kinds old new at part.base to column long m inside (ap is_text text) in
                let fine = long_fits kinds old row column sound is_long in
                let a : AddressFits (length old) (number_at old place 4) (number_at old (place + 8) 8) part = let P : Part → Type 0 = λ p. AddressFits (length old) (number_at old place 4) (number_at old (place + 8) 8) p in subst P was fine.2 in
                let moved = cell.address is_long in
                let P : CellKind → Type 0 = λ k. first_damage (kind_rules k new place (based part to)) ≡ None in
                subst P (sym text) (rules_long new place (based part to) (omega (arith, fine.0, size)) (omega (arith, fine.1, size, ap text_limit long)) (record {
                  heap = a.heap;
                  low = omega (arith, moved, a.low);
                  high = omega (arith, moved, a.low, a.high, size, long);
                }))
            | inr short ↦
                ap first_damage (kind_rules_same kind old new place (based part to) (record { long = long; same = cell.other short }) (omega (arith, ends))
                ∙ short_rules kind old place part (based part to) (not_long kinds old at column short there)) ∙ rules
          ]
    ] in
    ap (λ b. first_damage (cond b [] (kind_rules kind new place (part_for new row)))) null ∙ ap (λ p. first_damage (cond (is_null old at column) [] (kind_rules kind new place p))) now ∙ goal

has_parts_same : (kinds : List CellKind) (old new : List ℕ) → row_count new ≡ row_count old → part_count new ≡ part_count old → HasParts kinds old → HasParts kinds new
unfolding needs_parts
has_parts_same kinds old new rows parts h =
    ap (λ n. cond (has_texts kinds && ltb 0 n) (leb 1 (part_count new) && leb (part_count new) 4) (eqb (part_count new) 0)) rows
    ∙ ap (λ n. cond (has_texts kinds && ltb 0 (row_count old)) (leb 1 n && leb n 4) (eqb n 0)) parts ∙ h

pub rebased_accepted : (kinds : List CellKind) (old new : List ℕ) (part to : ℕ) → Rebased kinds old new part to → IsAccepted (Rows kinds) old → 4096 ≤ length old → part < part_count old → (part_at old part).heap ≢ no_heap → to % length old ≡ 0 → to < 2 ^ 48 → IsAccepted (Rows kinds) new
rebased_accepted kinds old new part to r accepted page inside heap aligned low =
    let s = sound_of kinds old accepted in
    let counts = counts_same kinds old new part to r in
    let few = parts_most kinds old s.parts in
    let facts : (k : ℕ) → k < part_count old → PartFacts old k = λ k k_inside. facts_of old k (s.part k k_inside) in
    let facts' = moved_facts kinds old new part to r few inside heap aligned low facts in
    let head : SameOn old new 0 8 = record { long = r.long; same = λ k a b. r.before k (omega arith) } in
    accepted_of kinds new (record {
      kind = number_at_same old new 0 8 head 0 4 (omega arith) (omega arith) ∙ s.kind;
      width = number_at_same old new 0 8 head 4 4 (omega arith) (omega arith) ∙ s.width;
      rows = omega (arith, counts.0, s.rows, ap (rows_that_fit kinds) r.long);
      parts = has_parts_same kinds old new counts.0 counts.1 s.parts;
      part = λ k k_inside. facts_sound new k (facts' k k_inside);
      cell = λ row column below c.
          let below_old : row < row_count old = omega (arith, counts.0) in
          let fits = row_lies kinds old row accepted (omega arith) below_old in
          by_row row column below_old c fits (row_after kinds old new part to row r few inside (λ rows. omega (arith, inside)) facts facts' below_old) (s.cell row column below_old c);
    })
  where
    by_row : (row column : ℕ) → row < row_count old → column < length kinds → row_place kinds row + width_of kinds ≤ length old → RowAfter kinds old new part to row → first_damage (cell_rules kinds old row column) ≡ None → first_damage (cell_rules kinds new row column) ≡ None
    by_row row column below c fits (moves low_row high_row was now) sound = moved_cell kinds old new (part_at old part) to row column r.long (r.rows row low_row high_row) fits c was now sound
    by_row row column below c fits (stays same is) sound = old_cell kinds old new row column (record { heap = λ there. ap (λ p. p.heap) is; base = λ there. ap (λ p. p.base) is }) same fits c sound
