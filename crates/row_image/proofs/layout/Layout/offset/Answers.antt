use Rattle.std.proofs.Common.{◌≤◌, length, arith, ap, sym, ◌∙◌, take, get_or, length-take}
use Rattle.row_image.specs.Layout.{offset_of}
use Rattle.row_image.proofs.LayoutLemmas.{offsets_of_at}
use Rattle.row_image.proofs.layout.Layout.offset.Goals as goal

pub returns : goal.returns
returns c =
    let most : c.args.column ≤ 65 = omega (arith, c.requires, c.self.invariant.most, c.self.invariant.whole, ap length c.self.view_is, length-take c.self.inside.count c.self.inside.kinds) in
    ap (λ l. get_or l c.args.column 0) (sym c.self.invariant.places) ∙ offsets_of_at (take c.self.inside.count c.self.inside.kinds) c.args.column most ∙ ap (λ l. offset_of l c.args.column) c.self.view_is
