use Rattle.std.proofs.Common.{map, arith}
use Rattle.rebase_pins.specs.Seen.{value_read}
use Rattle.row_sets.proofs.RowPuts.{long_fits}
use Rattle.row_sets.proofs.adding.try_append.Goals as goal

pub long_in-long-requires : goal.long_in-long-requires
long_in-long-requires g c =
    let w = c.requires.writing in
    let fit = long_fits c.args.writer.now.layout c.args.writer.now.page_bytes (map value_read c.args.row.now) w.is_page w.columns.texts c.requires.fits in
    let most = w.is_page.most in
    omega (arith, fit, most)
