use Rattle.std.proofs.Common.{ap, ◌-◌, ◌/◌}
use Rattle.row_image.specs.Layout.{rows_that_fit}
use Rattle.row_image.proofs.layout.Layout.rows_that_fit.Goals as goal

pub returns : goal.returns
unfolding rows_that_fit
returns c = ap (λ w. (c.args.page - 128) / w) c.width.ensures.width
