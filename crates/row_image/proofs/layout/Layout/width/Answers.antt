use Rattle.std.proofs.Common.{arith, ◌∙◌}
use Rattle.row_image.proofs.LayoutLemmas.{offset_of_past, width_of_most, width_of_least}
use Rattle.row_image.proofs.layout.Layout.width.Goals as goal

pub returns-clause-width : goal.returns-clause-width
returns-clause-width c = c.offset.ensures ∙ offset_of_past c.args.self.now c.columns.result (omega arith)

pub returns-clause-most : goal.returns-clause-most
returns-clause-most c = omega (arith, c.offset.ensures, offset_of_past c.args.self.now c.columns.result (omega arith), width_of_most c.args.self.now (omega arith))

pub returns-clause-least : goal.returns-clause-least
returns-clause-least c = omega (arith, c.offset.ensures, offset_of_past c.args.self.now c.columns.result (omega arith), width_of_least c.args.self.now)
