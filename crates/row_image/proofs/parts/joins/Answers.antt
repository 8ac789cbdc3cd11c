use Rattle.std.proofs.Common.{◌-◌, arith, ap, sym, ◌∙◌}
use Rattle.std.proofs.lemmas.Bool.{le-ltb}
use Rattle.row_image.specs.Image.{part_at}
use Rattle.row_image.specs.Parts.{takes_row}
use Rattle.row_image.proofs.PartLemmas.{joins_some, joins_none}
use Rattle.row_image.proofs.parts.joins.Goals as goal

pub returns-then-parts-gt0 : goal.returns-then-parts-gt0
returns-then-parts-gt0 c =
    c.takes_row.ensures ∙ ap (λ part. takes_row part c.args.want) (c.part_at.ensures ∙ ap (λ n. part_at c.args.image.now (n - 1)) c.part_count-parts.ensures) ∙ sym (joins_some c.args.image.now c.args.want (omega arith))

pub returns-else-parts-gt0 : goal.returns-else-parts-gt0
returns-else-parts-gt0 c = le-ltb 0 c.part_count-parts.result (omega arith) ∙ sym (joins_none c.args.image.now c.args.want (omega arith))
