use Rattle.std.proofs.Common.{◌+◌, arith, ap, ◌∙◌}
use Rattle.row_image.specs.Layout.{width_of, row_place}
use Rattle.row_image.specs.Image.{row_count}
use Rattle.row_image.proofs.ByteLemmas.{number_at_before}
use Rattle.row_image.proofs.LayoutLemmas.{first_place}
use Rattle.row_image.proofs.write.append.Goals as goal

pub returns-clause-count : goal.returns-clause-count
returns-clause-count c =
    number_at_before c.set_word.new.image c.put_row.new.image c.row_place.result (c.row_place.result + width_of c.args.layout.now) c.put_row.ensures.others 8 4 (omega (arith, c.row_place.ensures, first_place c.args.layout.now c.row_count-row.result))
    ∙ c.set_word.ensures.stored ∙ ap (λ n. n + 1) c.row_count-row.ensures

pub returns-clause-kind : goal.returns-clause-kind
returns-clause-kind c = λ k below. c.put_row.ensures.others.before k (omega (arith, c.row_place.ensures, first_place c.args.layout.now c.row_count-row.result)) ∙ c.set_word.ensures.others.before k below

pub returns-clause-free : goal.returns-clause-free
returns-clause-free c = λ k past. c.put_row.ensures.others.after k (omega (arith, c.row_place.ensures, ap (row_place c.args.layout.now) c.row_count-row.ensures, past)) ∙ c.set_word.ensures.others.after k (omega (arith, past, first_place c.args.layout.now (row_count c.args.image.now)))
