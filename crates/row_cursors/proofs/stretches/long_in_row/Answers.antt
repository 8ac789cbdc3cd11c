use Rattle.std.proofs.Common.{length, ap, arith}
use Rattle.rebase_pins.specs.Seen.{values_seen}
use Rattle.row_sets.specs.Cells.{long_in}
use Rattle.row_sets.proofs.RowPuts.{long_fits}
use Rattle.row_cursors.proofs.stretches.long_in_row.Goals as goal

pub long_in-requires : goal.long_in-requires
long_in-requires c =
    let view = c.args.view.now in
    let fit = long_fits view.kinds (length view.image) (values_seen view c.args.row) c.requires.page c.requires.texts c.read_row.ensures.fits in
    let is = ap long_in c.read_row.ensures.values in
    let most = c.requires.page.most in
    omega (arith, fit, is, most)

pub returns-clause-fits : goal.returns-clause-fits
returns-clause-fits c =
    let view = c.args.view.now in
    let fit = long_fits view.kinds (length view.image) (values_seen view c.args.row) c.requires.page c.requires.texts c.read_row.ensures.fits in
    let is = ap long_in c.read_row.ensures.values in
    let sum = c.long_in.ensures in
    omega (arith, fit, is, sum)
