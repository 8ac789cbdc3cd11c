use Rattle.std.proofs.Common.{length, sym, subst}
use Rattle.row_image.specs.Rules.{text_limit}
use Rattle.rebase_pins.specs.Fits.{RowFits}
use Rattle.rebase_pins.specs.Seen.{values_seen}
use Rattle.row_cursors.specs.DayCells.{HaveDays}
use Rattle.row_cursors.proofs.KeptValues.{fits_days, fits_meet}
use Rattle.row_cursors.proofs.pinned_rows.read_values.Goals as goal

pub push_values-requires : goal.push_values-requires
push_values-requires c =
    let view = c.args.view.now in
    let limit = text_limit (length view.image) in
    let fits = subst (λ kinds. RowFits kinds limit (values_seen view c.args.row)) c.requires.kinds c.read_row.ensures.fits in
    subst (HaveDays c.args.kinds.now) (sym c.read_row.ensures.values) (fits_days limit c.args.kinds.now (values_seen view c.args.row) fits)

pub returns-clause-meets : goal.returns-clause-meets
returns-clause-meets c =
    let view = c.args.view.now in
    let limit = text_limit (length view.image) in
    fits_meet limit c.args.kinds.now (values_seen view c.args.row) (subst (λ kinds. RowFits kinds limit (values_seen view c.args.row)) c.requires.kinds c.read_row.ensures.fits)
