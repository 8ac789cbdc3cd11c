use Rattle.std.proofs.Common.{◌≡◌, ◌+◌, length, arith, ap, sym, subst, ◌∙◌}
use Rattle.row_image.specs.declared.layout.CellKind.{CellKind}
use Rattle.std.specs.Prelude.{slice_range}
use Rattle.row_image.specs.Layout.{cell_width}
use Rattle.row_image.specs.Cells.{LongCell}
use Rattle.row_image.specs.Image.{cell_at}
use Rattle.row_image.specs.Rules.{text_limit}
use Rattle.row_image.proofs.ByteLemmas.{number_at_before, same_before, slice_range_same}
use Rattle.row_image.proofs.StoreLemmas.{takes_long, cell_at_long}
use Rattle.row_image.proofs.put.put_long.Goals as goal

pub returns-clause-stored : goal.returns-clause-stored
returns-clause-stored c =
    let kind = takes_long c.args.kind (text_limit (length c.args.image.now)) c.args.prefix c.args.size c.args.address c.requires.takes in
    let later = number_at_before c.put_prefix.new.image c.set_long.new.image (c.args.at + 8) (c.args.at + 8 + 8) c.set_long.ensures.others c.args.at 4 (omega arith) in
    let size = number_at_before c.set_word.new.image c.put_prefix.new.image (c.args.at + 4) (c.args.at + 4 + 4) c.put_prefix.ensures.others c.args.at 4 (omega arith) in
    let same = slice_range_same c.put_prefix.new.image c.set_long.new.image 0 (c.args.at + 8) (same_before c.put_prefix.new.image c.set_long.new.image (c.args.at + 8) (c.args.at + 8 + 8) 0 (c.args.at + 8) (omega arith) c.set_long.ensures.others (omega arith)) (c.args.at + 4) (c.args.at + 8) (omega arith) (omega arith) (omega (arith, c.requires.room, ap cell_width kind.0)) in
    let P : CellKind → Type 0 = λ k. cell_at k c.set_long.new.image c.args.at ≡ LongCell c.args.prefix c.args.size c.args.address in
    subst P (sym kind.0)
    (cell_at_long c.set_long.new.image c.args.at c.args.prefix c.args.size c.args.address (later ∙ size ∙ c.set_word.ensures.stored) kind.1 (same ∙ ap (λ to. slice_range c.put_prefix.new.image (c.args.at + 4) to) (omega arith) ∙ c.put_prefix.ensures.text) c.set_long.ensures.stored)
