use Rattle.std.proofs.Common.{length, subst}
use Rattle.row_image.specs.Rules.{text_limit}
use Rattle.rebase_pins.specs.Fits.{RowFits}
use Rattle.rebase_pins.specs.Images.{Seen}
use Rattle.rebase_pins.specs.Sight.{seen_in}
use Rattle.rebase_pins.specs.Seen.{values_seen}
use Rattle.rebase_pins.proofs.Below.{row_below}
use Rattle.rebase_pins.proofs.Fits.{row_fits}
use Rattle.rebase_pins.proofs.view.RowView.row_fits.Goals as goal

pub returns : goal.returns
returns c =
    let v = c.self.inside in
    let s = c.args.self.now in
    let below = row_below v s c.args.row c.self.invariant c.self.view_is c.requires in
    subst (λ (s : Seen). RowFits s.kinds (text_limit (length s.image)) (values_seen s c.args.row)) c.self.view_is
    (row_fits v.layout.now v.image.now (seen_in v).heaps c.args.row c.self.invariant.page c.self.invariant.accepted below)
