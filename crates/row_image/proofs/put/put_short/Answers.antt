use Rattle.std.proofs.Common.{◌+◌, length, arith, ap, sym, subst, ◌∙◌}
use Rattle.row_image.specs.declared.layout.CellKind.{CellKind}
use Rattle.row_image.specs.Layout.{cell_width}
use Rattle.row_image.specs.Cells.{ShortCell}
use Rattle.row_image.specs.Rules.{text_limit}
use Rattle.row_image.specs.Stores.{StoresAt}
use Rattle.row_image.proofs.ByteLemmas.{number_at_before}
use Rattle.row_image.proofs.StoreLemmas.{takes_short, cell_at_short}
use Rattle.row_image.proofs.put.put_short.Goals as goal

pub returns-clause-stored : goal.returns-clause-stored
returns-clause-stored c =
    let kind = takes_short c.args.kind (text_limit (length c.args.image.now)) c.args.text.now c.requires.takes in
    let size = number_at_before c.set_word.new.image c.put_text.new.image (c.args.at + 4) (c.args.at + 4 + 12) c.put_text.ensures.others c.args.at 4 (omega arith) in
    let P : CellKind → Type 0 = λ k. StoresAt k c.put_text.new.image c.args.at (ShortCell c.args.text.now) in
    subst P (sym kind.0) (
      cell_at_short c.put_text.new.image c.args.at c.args.text.now (size ∙ c.set_word.ensures.stored) kind.1 (omega (arith, c.requires.room, ap cell_width kind.0)) c.put_text.ensures.text,
      λ k from to. c.put_text.ensures.zeros k from (omega arith),
    )
