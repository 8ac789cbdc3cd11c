use Rattle.std.proofs.Common.{length, arith, sym, ◌∙◌}
use Rattle.std.proofs.lemmas.Bool.{false≢true}
use Rattle.row_image.proofs.AcceptedLemmas.{sound_of}
use Rattle.row_image.proofs.PartLemmas.{fifth_few}
use Rattle.row_image.proofs.PartFacts.{facts_of}
use Rattle.row_image.proofs.WrittenAccepted.{parts_most, parts_none, fit_most}
use Rattle.row_image.proofs.EntryLemmas.{entries_same}
use Rattle.row_image.proofs.write.count_in_parts.Goals as goal

pub put_part-requires-clause-parts : goal.put_part-requires-clause-parts
put_part-requires-clause-parts c = parts_most c.args.layout.now c.args.image.now (sound_of c.args.layout.now c.args.image.now c.requires.accepted).parts

pub put_part-requires-clause-row : goal.put_part-requires-clause-row
put_part-requires-clause-row c = omega (arith, c.row_count-row.ensures, (sound_of c.args.layout.now c.args.image.now c.requires.accepted).rows, fit_most c.args.layout.now (length c.args.image.now), c.requires.page.most)

pub put_part-requires-clause-rows : goal.put_part-requires-clause-rows
put_part-requires-clause-rows c = λ k inside.
    let s = sound_of c.args.layout.now c.args.image.now c.requires.accepted in
    omega (arith, (facts_of c.args.image.now k (s.part k inside)).most, s.rows, fit_most c.args.layout.now (length c.args.image.now), c.requires.page.most)

pub returns-else-has_texts-clause-full : goal.returns-else-has_texts-clause-full
returns-else-has_texts-clause-full c =
    let none = parts_none c.args.layout.now c.args.image.now (sound_of c.args.layout.now c.args.image.now c.requires.accepted).parts (sym c.has_texts.ensures ∙ c.if-has_texts.false) in
    let not_full = fifth_few c.args.image.now c.args.want (λ e. absurd (omega (arith, none, e))) in
    (λ e. absurd (false≢true (sym e)), λ h. absurd (false≢true (sym not_full ∙ h)))

pub returns-else-has_texts-clause-few : goal.returns-else-has_texts-clause-few
returns-else-has_texts-clause-few c = parts_most c.args.layout.now c.args.image.now (sound_of c.args.layout.now c.args.image.now c.requires.accepted).parts

pub returns-else-has_texts-clause-entries : goal.returns-else-has_texts-clause-entries
returns-else-has_texts-clause-entries c = λ _.
    entries_same c.args.image.now (parts_none c.args.layout.now c.args.image.now (sound_of c.args.layout.now c.args.image.now c.requires.accepted).parts (sym c.has_texts.ensures ∙ c.if-has_texts.false))
