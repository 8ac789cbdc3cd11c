use Rattle.std.proofs.Common.{◌≡◌, ◌+◌, true, false, get_or, arith, ap, sym, ◌∙◌}
use Rattle.row_image.specs.declared.layout.CellKind.TheVariants.{Bit}
use Rattle.row_image.specs.Layout.{row_place, cell_width}
use Rattle.row_image.specs.Image.{cell_in, is_null, cell_at}
use Rattle.row_image.proofs.LayoutLemmas.{width_of_least, mask_holds, cell_ends}
use Rattle.row_image.proofs.AcceptedLemmas.{row_lies}
use Rattle.row_image.proofs.read.read_cell.Goals as goal

pub is_null-requires : goal.is_null-requires
is_null-requires c = omega (arith, row_lies c.args.layout.now c.args.image.now c.args.row c.requires.accepted (omega arith) c.requires.row, width_of_least c.args.layout.now, mask_holds c.args.layout.now c.args.column c.requires.column)

pub returns-then-is_null : goal.returns-then-is_null
unfolding cell_in
returns-then-is_null c =
    let null : is_null c.args.image.now (row_place c.args.layout.now c.args.row) c.args.column ≡ true = ap (λ at. is_null c.args.image.now at c.args.column) (sym c.row_place-at.ensures) ∙ sym c.is_null.ensures ∙ c.if-is_null.true in
    rw null

pub overflow_add-at : goal.overflow_add-at
overflow_add-at c = omega (arith, row_lies c.args.layout.now c.args.image.now c.args.row c.requires.accepted (omega arith) c.requires.row, cell_ends c.args.layout.now c.args.column c.requires.column)

pub cell_at-requires : goal.cell_at-requires
cell_at-requires c = omega (arith, row_lies c.args.layout.now c.args.image.now c.args.row c.requires.accepted (omega arith) c.requires.row, cell_ends c.args.layout.now c.args.column c.requires.column, ap cell_width c.kind.ensures)

pub returns : goal.returns
unfolding cell_in
returns c =
    let null : is_null c.args.image.now (row_place c.args.layout.now c.args.row) c.args.column ≡ false = ap (λ at. is_null c.args.image.now at c.args.column) (sym c.row_place-at.ensures) ∙ sym c.is_null.ensures ∙ c.if-is_null.false in
    rw null (c.cell_at.ensures ∙ ap (λ kind. cell_at kind c.args.image.now (c.row_place-at.result + c.offset.result)) c.kind.ensures ∙ ap (cell_at (get_or c.args.layout.now c.args.column Bit) c.args.image.now) (omega arith))
