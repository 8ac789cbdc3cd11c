use Rattle.std.proofs.Common.{◌≡◌, ◌≢◌, ◌-◌, ◌+◌, ◌*◌, ℕ, refl, arith, ap, sym, subst, ◌∙◌}
use Rattle.std.proofs.lemmas.Bool.{false≢true}
use Rattle.row_image.specs.Bytes.{ChangesOnly}
use Rattle.row_image.specs.Image.{part_at, part_count}
use Rattle.row_image.specs.Parts.{grown}
use Rattle.row_image.proofs.ByteLemmas.{number_at_before, same_after}
use Rattle.row_image.proofs.PartLemmas.{joins_counted, fifth_not, fifth_few, fifth_is, with_joined, with_begun, part_at_same, part_at_other}
use Rattle.row_image.proofs.ByteLemmas.{number_at_after}
use Rattle.row_image.proofs.EntryLemmas.{entry_kept}
use Rattle.row_image.proofs.parts.put_part.Goals as goal

pub overflow_sub-parts : goal.overflow_sub-parts
overflow_sub-parts c = omega (arith, joins_counted c.args.image.now c.args.want (sym c.joins.ensures ∙ c.if-joins.true))

pub overflow_sub-parts-then-joins : goal.overflow_sub-parts-then-joins
overflow_sub-parts-then-joins c = omega (arith, joins_counted c.args.image.now c.args.want (sym c.joins.ensures ∙ c.if-joins.true))

pub grown-requires : goal.grown-requires
grown-requires c =
    let some = joins_counted c.args.image.now c.args.want (sym c.joins.ensures ∙ c.if-joins.true) in
    omega (arith, ap (λ part. part.rows) c.part_at-last.ensures, c.requires.rows (c.part_count-parts.result - 1) (omega (arith, some)))

pub returns-then-joins-clause-full : goal.returns-then-joins-clause-full
returns-then-joins-clause-full c =
    let none = fifth_not c.args.image.now c.args.want (sym c.joins.ensures ∙ c.if-joins.true) in
    (λ e. absurd (false≢true (sym e)), λ h. absurd (false≢true (sym none ∙ h)))

pub returns-then-joins-clause-few : goal.returns-then-joins-clause-few
returns-then-joins-clause-few c = omega (arith, number_at_before c.args.image.now c.set_part.new.image (32 + 24 * (c.part_count-parts.result - 1)) (56 + 24 * (c.part_count-parts.result - 1)) c.set_part.ensures.others 12 4 (omega arith), c.requires.parts)

pub returns-then-joins-clause-put : goal.returns-then-joins-clause-put
returns-then-joins-clause-put c = λ _.
    let join = sym c.joins.ensures ∙ c.if-joins.true in
    let some = joins_counted c.args.image.now c.args.want join in
    let place = ap (λ n. n - 1) c.part_count-parts.ensures in
    with_joined c.args.image.now c.set_part.new.image c.args.row c.args.want join (omega arith)
    (number_at_before c.args.image.now c.set_part.new.image (32 + 24 * (c.part_count-parts.result - 1)) (56 + 24 * (c.part_count-parts.result - 1)) c.set_part.ensures.others 12 4 (omega arith))
    (ap (part_at c.set_part.new.image) (sym place) ∙ c.set_part.ensures.stored ∙ c.grown.ensures ∙ ap (λ part. grown part c.args.want) (c.part_at-last.ensures ∙ ap (part_at c.args.image.now) place))
    (let P : ℕ → Type 0 = λ n. ChangesOnly c.args.image.now c.set_part.new.image (32 + 24 * (n - 1)) (56 + 24 * (n - 1)) in subst P c.part_count-parts.ensures c.set_part.ensures.others)

pub returns-then-parts-eq4-clause-full : goal.returns-then-parts-eq4-clause-full
returns-then-parts-eq4-clause-full c =
    (λ _. fifth_is c.args.image.now c.args.want (sym c.joins.ensures ∙ c.if-joins.false) (sym c.part_count-parts.ensures ∙ c.if-parts-eq4.true), λ _. refl)

pub returns-clause-full : goal.returns-clause-full
returns-clause-full c =
    let none = fifth_few c.args.image.now c.args.want (λ e. c.if-parts-eq4.false (c.part_count-parts.ensures ∙ e)) in
    (λ e. absurd (false≢true (sym e)), λ h. absurd (false≢true (sym none ∙ h)))

pub returns-clause-put : goal.returns-clause-put
returns-clause-put c = λ _.
    let old = c.args.image.now in
    let mid = c.set_part-2.new.image in
    let new = c.set_word.new.image in
    let n = c.part_count-parts.result in
    let entries : (j : ℕ) → part_at new j ≡ part_at mid j = λ j. part_at_same mid new j (32 + 24 * j) (56 + 24 * j) (same_after mid new 12 (12 + 4) (32 + 24 * j) (56 + 24 * j) (omega arith) c.set_word.ensures.others (omega arith)) (omega arith) (omega arith) in
    with_begun old new c.args.row c.args.want (sym c.joins.ensures ∙ c.if-joins.false) (c.set_word.ensures.stored ∙ ap (λ k. k + 1) c.part_count-parts.ensures)
    (entries (part_count old) ∙ ap (part_at mid) (sym c.part_count-parts.ensures) ∙ c.set_part-2.ensures.stored ∙ c.begun.ensures)
    (λ j below. entries j ∙ part_at_other old mid n j (omega arith) c.set_part-2.ensures.others (let ne : j ≢ n = omega arith in ne))

pub returns-then-joins-clause-entries : goal.returns-then-joins-clause-entries
returns-then-joins-clause-entries c = λ _.
    let last = c.part_count-parts.result - 1 in
    let some = joins_counted c.args.image.now c.args.want (sym c.joins.ensures ∙ c.if-joins.true) in
    let others = c.set_part.ensures.others in
    let count = number_at_before c.args.image.now c.set_part.new.image (32 + 24 * last) (56 + 24 * last) others 12 4 (omega arith) in
    entry_kept c.args.image.now c.set_part.new.image last (omega (arith, count, c.part_count-parts.ensures, some)) (λ k low high. others.before k high) others.after c.set_part.ensures.zeros

pub returns-clause-entries : goal.returns-clause-entries
returns-clause-entries c = λ _.
    let old = c.args.image.now in
    let mid = c.set_part-2.new.image in
    let new = c.set_word.new.image in
    let last = c.part_count-parts.result in
    let others = c.set_part-2.ensures.others in
    let word = c.set_word.ensures.others in
    entry_kept old new last c.set_word.ensures.stored (λ k low high. word.after k (omega arith) ∙ others.before k high) (λ k past. word.after k (omega arith) ∙ others.after k past)
    (number_at_after mid new 12 (12 + 4) word (32 + 24 * last + 12) 4 (omega arith) ∙ c.set_part-2.ensures.zeros)
