use Rattle.std.proofs.Common.{◌+◌, arith, ap, sym, ◌∙◌}
use Rattle.std.specs.Prelude.{unwrap_or, nat_lt}
use Rattle.std.proofs.lemmas.Bool.{lt-ltb, le-ltb}
use Rattle.row_image.specs.Image.{part_for, part_at, parts_of, no_part}
use Rattle.row_image.proofs.ListLemmas.{find_at, find_none}
use Rattle.row_image.proofs.PartLemmas.{parts_length, parts_at}
use Rattle.row_image.proofs.check.part_for.Goals as goal

pub returns-then-from-clause-part : goal.returns-then-from-clause-part
unfolding part_for
returns-then-from-clause-part c =
    let image = c.args.image.now in
    let row = c.args.row in
    let part = c.loop-part.part in
    let found = find_at (λ p. nat_lt row (p.first + p.rows)) (parts_of image) part no_part (omega (arith, parts_length image))
    (λ j less. ap (λ p. nat_lt row (p.first + p.rows)) (parts_at image j no_part (omega arith)) ∙ le-ltb row ((part_at image j).first + (part_at image j).rows) (c.loop-part.invariant j less))
    (ap (λ p. nat_lt row (p.first + p.rows)) (parts_at image part no_part (omega arith)) ∙ lt-ltb row ((part_at image part).first + (part_at image part).rows) (omega (arith, ap (λ p. p.first) c.part_at-this.ensures, ap (λ p. p.rows) c.part_at-this.ensures))) in
    c.part_at-this.ensures ∙ sym (ap (λ o. unwrap_or o no_part) found ∙ parts_at image part no_part (omega arith))

pub returns-clause-part : goal.returns-clause-part
unfolding part_for
returns-clause-part c =
    let image = c.args.image.now in
    let row = c.args.row in
    sym (ap (λ o. unwrap_or o no_part) (find_none (λ p. nat_lt row (p.first + p.rows)) (parts_of image) no_part
    (λ j less. ap (λ p. nat_lt row (p.first + p.rows)) (parts_at image j no_part (omega (arith, parts_length image))) ∙ le-ltb row ((part_at image j).first + (part_at image j).rows) (c.loop-part.invariant j (omega (arith, parts_length image))))))
