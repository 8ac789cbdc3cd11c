use Rattle.std.proofs.Common.{map, sym, subst}
use Rattle.row_image.specs.Rules.{text_limit}
use Rattle.rebase_pins.specs.Fits.{RowFits}
use Rattle.row_sets.specs.SetRows.{kept_as}
use Rattle.row_cursors.proofs.KeptValues.{kept_fits}
use Rattle.row_cursors.proofs.Appended.{appended}
use Rattle.row_cursors.proofs.appending.append_many.Goals as goal

pub append-requires-clause-fits : goal.append-requires-clause-fits
append-requires-clause-fits g c =
    let w = c.args.writer.now in
    let limit = text_limit w.page_bytes in
    let fits = kept_fits limit w.kinds c.args.row.now c.requires.meets in
    subst (RowFits w.layout limit) (sym c.fill_kept.ensures) (subst (λ kinds. RowFits kinds limit (map kept_as c.args.row.now)) (sym c.requires.writing.columns.layout_is) fits)

pub returns-clause-rows : goal.returns-clause-rows
returns-clause-rows g c =
    let w = c.args.writer.now in
    appended g.P.Pages.terms w c.append.new.writer (text_limit w.page_bytes) c.args.row.now _ c.args.hash c.append.result c.requires.meets c.fill_kept.ensures c.append.ensures.columns c.append.ensures.rows
