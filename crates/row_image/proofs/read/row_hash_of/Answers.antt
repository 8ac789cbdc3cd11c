use Rattle.std.proofs.Common.{arith, ap, ◌∙◌}
use Rattle.row_image.specs.Bytes.{number_at}
use Rattle.row_image.specs.Image.{stored_hash}
use Rattle.row_image.proofs.LayoutLemmas.{width_of_least}
use Rattle.row_image.proofs.AcceptedLemmas.{row_lies}
use Rattle.row_image.proofs.read.row_hash_of.Goals as goal

pub long_at-requires : goal.long_at-requires
long_at-requires c = omega (arith, row_lies c.args.layout.now c.args.image.now c.args.row c.requires.accepted (omega arith) c.requires.row, width_of_least c.args.layout.now)

pub overflow_add-at : goal.overflow_add-at
overflow_add-at c = omega (arith, row_lies c.args.layout.now c.args.image.now c.args.row c.requires.accepted (omega arith) c.requires.row, width_of_least c.args.layout.now)

pub returns : goal.returns
unfolding stored_hash
returns c = c.long_at.ensures ∙ ap (λ at. number_at c.args.image.now at 8) (omega arith)
