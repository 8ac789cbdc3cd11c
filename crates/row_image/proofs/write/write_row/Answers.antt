use Rattle.std.proofs.Common.{◌≡◌, ◌≢◌, length, false, arith, ap, refl, sym, inl, inr, ◌∙◌}
use Rattle.std.proofs.lemmas.Bool.{false≢true, cases_Bool}
use Rattle.row_image.specs.Layout.{row_place, rows_that_fit}
use Rattle.row_image.specs.Image.{row_count, parts_of}
use Rattle.row_image.specs.Parts.{wanted, begins_fifth}
use Rattle.row_image.specs.Rules.{text_limit}
use Rattle.row_image.proofs.ByteLemmas.{number_at_before}
use Rattle.row_image.proofs.LayoutLemmas.{width_of_least}
use Rattle.row_image.proofs.AcceptedLemmas.{sound_of, row_fits}
use Rattle.row_image.proofs.WrittenLemmas.{written_of, written_rows}
use Rattle.row_image.proofs.WrittenAccepted.{written_accepted, fit_most}
use Rattle.row_image.proofs.WrittenFlat.{written_flat}
use Rattle.row_image.proofs.WrittenTexts.{written_texts}
use Rattle.row_image.proofs.WrittenHidden.{hidden_kept}
use Rattle.row_image.proofs.write.write_row.Goals as goal

pub returns-then-not-count_in_parts-clause-parts_full : goal.returns-then-not-count_in_parts-clause-parts_full
returns-then-not-count_in_parts-clause-parts_full c =
    let s = sound_of c.args.layout.now c.args.image.now c.requires.accepted in
    let ne : row_count c.args.image.now ≢ rows_that_fit c.args.layout.now (length c.args.image.now) = λ e. c.if-row-rows_that_fit.false (c.row_count-row.ensures ∙ e ∙ sym c.rows_that_fit.ensures) in
    (λ _. (omega (arith, s.rows, ne), sym (ap (begins_fifth (parts_of c.args.image.now)) c.wanted.ensures) ∙ c.count_in_parts.ensures.full.0 c.if-not-count_in_parts.true), λ _. refl)

pub append-requires-clause-room : goal.append-requires-clause-room
append-requires-clause-room c =
    let kinds = c.args.layout.now in
    let old = c.args.image.now in
    let s = sound_of kinds old c.requires.accepted in
    let ne : row_count old ≢ rows_that_fit kinds (length old) = λ e. c.if-row-rows_that_fit.false (c.row_count-row.ensures ∙ e ∙ sym c.rows_that_fit.ensures) in
    let same = number_at_before old c.count_in_parts.new.image 12 128 c.count_in_parts.ensures.others 8 4 (omega arith) in
    omega (arith, ap (row_place kinds) same, row_fits kinds (length old) (row_count old) (omega (arith, c.requires.page.least)) (omega (arith, width_of_least kinds)) (omega (arith, s.rows, ne)))

pub append-requires-clause-small : goal.append-requires-clause-small
append-requires-clause-small c =
    let s = sound_of c.args.layout.now c.args.image.now c.requires.accepted in
    omega (arith, number_at_before c.args.image.now c.count_in_parts.new.image 12 128 c.count_in_parts.ensures.others 8 4 (omega arith), s.rows, fit_most c.args.layout.now (length c.args.image.now), c.requires.page.most)

pub returns-clause-accepted : goal.returns-clause-accepted
returns-clause-accepted c =
    let kinds = c.args.layout.now in
    let old = c.args.image.now in
    let s = sound_of kinds old c.requires.accepted in
    let ne : row_count old ≢ rows_that_fit kinds (length old) = λ e. c.if-row-rows_that_fit.false (c.row_count-row.ensures ∙ e ∙ sym c.rows_that_fit.ensures) in
    let w = written_of kinds old c.count_in_parts.new.image c.append.new.image c.args.cells.now c.args.hash c.args.heap c.wanted.result c.wanted.ensures (omega arith) (omega arith) c.count_in_parts.ensures.others (c.count_in_parts.ensures.put c.if-not-count_in_parts.false) c.count_in_parts.ensures.few c.append.ensures.count c.append.ensures.row c.append.ensures.kind c.append.ensures.parts in
    let room : begins_fifth (parts_of old) (wanted c.args.cells.now c.args.heap) ≡ false =
    elim (cases_Bool (begins_fifth (parts_of old) (wanted c.args.cells.now c.args.heap))) [
      | inl full ↦ absurd (false≢true (sym (c.count_in_parts.ensures.full.1 (ap (begins_fifth (parts_of old)) c.wanted.ensures ∙ full)) ∙ c.if-not-count_in_parts.false))
      | inr free ↦ free
    ] in
    written_accepted kinds old c.append.new.image c.args.cells.now c.args.hash c.args.heap w c.requires.accepted c.requires.meets c.requires.heap room (omega (arith, s.rows, ne)) c.requires.page.least

pub returns-clause-rows : goal.returns-clause-rows
returns-clause-rows c = λ _.
    let kinds = c.args.layout.now in
    let old = c.args.image.now in
    let s = sound_of kinds old c.requires.accepted in
    let ne : row_count old ≢ rows_that_fit kinds (length old) = λ e. c.if-row-rows_that_fit.false (c.row_count-row.ensures ∙ e ∙ sym c.rows_that_fit.ensures) in
    let w = written_of kinds old c.count_in_parts.new.image c.append.new.image c.args.cells.now c.args.hash c.args.heap c.wanted.result c.wanted.ensures (omega arith) (omega arith) c.count_in_parts.ensures.others (c.count_in_parts.ensures.put c.if-not-count_in_parts.false) c.count_in_parts.ensures.few c.append.ensures.count c.append.ensures.row c.append.ensures.kind c.append.ensures.parts in
    written_rows kinds (text_limit (length old)) old c.append.new.image c.args.cells.now c.args.hash c.args.heap w c.requires.meets (omega (arith, row_fits kinds (length old) (row_count old) (omega (arith, c.requires.page.least)) (omega (arith, width_of_least kinds)) (omega (arith, s.rows, ne))))

pub returns-clause-parts : goal.returns-clause-parts
returns-clause-parts c = λ _.
    (written_of c.args.layout.now c.args.image.now c.count_in_parts.new.image c.append.new.image c.args.cells.now c.args.hash c.args.heap c.wanted.result c.wanted.ensures (omega arith) (omega arith) c.count_in_parts.ensures.others (c.count_in_parts.ensures.put c.if-not-count_in_parts.false) c.count_in_parts.ensures.few c.append.ensures.count c.append.ensures.row c.append.ensures.kind c.append.ensures.parts).parts

pub returns-clause-bytes : goal.returns-clause-bytes
returns-clause-bytes c = λ _.
    (written_of c.args.layout.now c.args.image.now c.count_in_parts.new.image c.append.new.image c.args.cells.now c.args.hash c.args.heap c.wanted.result c.wanted.ensures (omega arith) (omega arith) c.count_in_parts.ensures.others (c.count_in_parts.ensures.put c.if-not-count_in_parts.false) c.count_in_parts.ensures.few c.append.ensures.count c.append.ensures.row c.append.ensures.kind c.append.ensures.parts).row

pub returns-clause-flat : goal.returns-clause-flat
returns-clause-flat c = λ _.
    let kinds = c.args.layout.now in
    let old = c.args.image.now in
    let s = sound_of kinds old c.requires.accepted in
    let ne : row_count old ≢ rows_that_fit kinds (length old) = λ e. c.if-row-rows_that_fit.false (c.row_count-row.ensures ∙ e ∙ sym c.rows_that_fit.ensures) in
    let w = written_of kinds old c.count_in_parts.new.image c.append.new.image c.args.cells.now c.args.hash c.args.heap c.wanted.result c.wanted.ensures (omega arith) (omega arith) c.count_in_parts.ensures.others (c.count_in_parts.ensures.put c.if-not-count_in_parts.false) c.count_in_parts.ensures.few c.append.ensures.count c.append.ensures.row c.append.ensures.kind c.append.ensures.parts in
    let room : begins_fifth (parts_of old) (wanted c.args.cells.now c.args.heap) ≡ false =
    elim (cases_Bool (begins_fifth (parts_of old) (wanted c.args.cells.now c.args.heap))) [
      | inl full ↦ absurd (false≢true (sym (c.count_in_parts.ensures.full.1 (ap (begins_fifth (parts_of old)) c.wanted.ensures ∙ full)) ∙ c.if-not-count_in_parts.false))
      | inr free ↦ free
    ] in
    let accepted = written_accepted kinds old c.append.new.image c.args.cells.now c.args.hash c.args.heap w c.requires.accepted c.requires.meets c.requires.heap room (omega (arith, s.rows, ne)) c.requires.page.least in
    written_flat kinds old c.append.new.image c.args.cells.now c.args.hash c.args.heap w c.requires.accepted accepted c.requires.meets c.requires.heap room c.requires.page.least c.requires.page.most

pub returns-clause-texts : goal.returns-clause-texts
returns-clause-texts c = λ _ heaps.
    let kinds = c.args.layout.now in
    let old = c.args.image.now in
    let s = sound_of kinds old c.requires.accepted in
    let ne : row_count old ≢ rows_that_fit kinds (length old) = λ e. c.if-row-rows_that_fit.false (c.row_count-row.ensures ∙ e ∙ sym c.rows_that_fit.ensures) in
    let w = written_of kinds old c.count_in_parts.new.image c.append.new.image c.args.cells.now c.args.hash c.args.heap c.wanted.result c.wanted.ensures (omega arith) (omega arith) c.count_in_parts.ensures.others (c.count_in_parts.ensures.put c.if-not-count_in_parts.false) c.count_in_parts.ensures.few c.append.ensures.count c.append.ensures.row c.append.ensures.kind c.append.ensures.parts in
    let room : begins_fifth (parts_of old) (wanted c.args.cells.now c.args.heap) ≡ false =
    elim (cases_Bool (begins_fifth (parts_of old) (wanted c.args.cells.now c.args.heap))) [
      | inl full ↦ absurd (false≢true (sym (c.count_in_parts.ensures.full.1 (ap (begins_fifth (parts_of old)) c.wanted.ensures ∙ full)) ∙ c.if-not-count_in_parts.false))
      | inr free ↦ free
    ] in
    let accepted = written_accepted kinds old c.append.new.image c.args.cells.now c.args.hash c.args.heap w c.requires.accepted c.requires.meets c.requires.heap room (omega (arith, s.rows, ne)) c.requires.page.least in
    written_texts kinds old c.append.new.image c.args.cells.now c.args.hash c.args.heap heaps w c.requires.accepted accepted c.requires.meets c.requires.heap room c.requires.page.least c.requires.page.most

pub returns-clause-hidden : goal.returns-clause-hidden
returns-clause-hidden c = λ _.
    let kinds = c.args.layout.now in
    let old = c.args.image.now in
    let mid = c.count_in_parts.new.image in
    let new = c.append.new.image in
    let same = number_at_before old mid 12 128 c.count_in_parts.ensures.others 8 4 (omega arith) in
    hidden_kept kinds old mid new same c.count_in_parts.ensures.others (c.count_in_parts.ensures.entries c.if-not-count_in_parts.false) c.count_in_parts.ensures.few c.append.ensures.kind c.append.ensures.parts c.append.ensures.free
