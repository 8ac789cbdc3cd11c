use Rattle.std.proofs.Common.{◌≡◌, ◌<◌, ◌+◌, ◌/◌, ◌%◌, ℕ, length, get_or, arith, ap, ◌∙◌, below_more, subst}
use Rattle.std.specs.Prelude.{slice_index, ◌==◌}
use Rattle.std.specs.Int.{bit_at}
use Rattle.row_image.specs.declared.layout.CellKind.{CellKind}
use Rattle.row_image.specs.declared.layout.CellKind.TheVariants.{Bit}
use Rattle.row_image.specs.declared.cell.CellIn.TheVariants.{Null}
use Rattle.row_image.specs.Bytes.{number_at}
use Rattle.row_image.specs.Layout.{cell_width, mask_bytes, offset_of, width_of}
use Rattle.row_image.specs.Cells.{given_cell, null_bit}
use Rattle.row_image.specs.Image.{is_null}
use Rattle.row_image.specs.Stores.{StoresAt}
use Rattle.row_image.proofs.ByteLemmas.{changes_joined, number_at_before, same_before}
use Rattle.row_image.proofs.LayoutLemmas.{width_of_least, offset_of_least, offset_of_most, offset_of_next, cell_ends, cells_apart, mask_holds}
use Rattle.row_image.proofs.StoreLemmas.{stores_same}
use Rattle.row_image.proofs.put.put_row.Goals as goal

pub put_mask-requires : goal.put_mask-requires
put_mask-requires c = record { room = omega (arith, width_of_least c.args.layout.now, c.requires.room) }

pub set_long-requires : goal.set_long-requires
set_long-requires c = omega (arith, width_of_least c.args.layout.now, c.requires.room)

pub overflow_add-at-in-loop-column : goal.overflow_add-at-in-loop-column
overflow_add-at-in-loop-column c = omega (arith, offset_of_most c.args.layout.now c.loop-column.column, c.requires.room)

pub put_cell-requires-clause-room : goal.put_cell-requires-clause-room
put_cell-requires-clause-room c = omega (arith, cell_ends c.args.layout.now c.loop-column.column (omega arith), c.requires.room, ap cell_width c.kind.ensures)

pub loop-column-preserved : goal.loop-column-preserved
loop-column-preserved c =
    let kinds = c.args.layout.now in
    let column = c.loop-column.column in
    let at = c.args.at in
    let inside : column < length kinds = omega arith in
    let width : cell_width c.kind.result ≡ cell_width (get_or kinds column Bit) = ap cell_width c.kind.ensures in (
      changes_joined c.set_long.new.image c.loop-column.image c.put_cell.new.image (at + mask_bytes kinds + 8) (at + offset_of kinds column) (at + c.offset.result) (at + c.offset.result + cell_width c.kind.result) (at + mask_bytes kinds + 8) (at + offset_of kinds (column + 1))
          c.loop-column.invariant.0 c.put_cell.ensures.others (omega arith) (omega (arith, offset_of_least kinds column, c.offset.ensures)) (omega (arith, offset_of_next kinds column inside)) (omega (arith, offset_of_next kinds column inside, c.offset.ensures)),
      below_more _ _
          (λ k below. stores_same (get_or kinds k Bit) c.loop-column.image c.put_cell.new.image (at + offset_of kinds k) (given_cell (get_or c.args.cells.now k Null))
          (same_before c.loop-column.image c.put_cell.new.image (at + c.offset.result) (at + c.offset.result + cell_width c.kind.result) (at + offset_of kinds k) (at + offset_of kinds k + cell_width (get_or kinds k Bit)) (omega arith) c.put_cell.ensures.others (omega (arith, cells_apart kinds k column below (omega arith), c.offset.ensures)))
          (omega (arith, cells_apart kinds k column below (omega arith), offset_of_most kinds column, c.requires.room))
          (c.loop-column.invariant.1 k below))
          (let P : CellKind → Type 0 = λ kind. StoresAt kind c.put_cell.new.image (at + c.offset.result) (given_cell (get_or c.args.cells.now column Null)) in
          let Q : ℕ → Type 0 = λ place. StoresAt (get_or kinds column Bit) c.put_cell.new.image (at + place) (given_cell (get_or c.args.cells.now column Null)) in
          subst Q c.offset.ensures (subst P c.kind.ensures c.put_cell.ensures.stored)),
    )

pub returns-clause-others : goal.returns-clause-others
returns-clause-others c =
    let kinds = c.args.layout.now in
    let at = c.args.at in
    let first = changes_joined c.args.image.now c.put_mask.new.image c.set_long.new.image at (at + mask_bytes kinds) (at + c.mask_bytes.result) (at + c.mask_bytes.result + 8) at (at + width_of kinds) c.put_mask.ensures.others c.set_long.ensures.others (omega arith) (omega arith) (omega (arith, width_of_least kinds)) (omega (arith, width_of_least kinds, c.mask_bytes.ensures.count)) in
    changes_joined c.args.image.now c.set_long.new.image c.loop-column.image at (at + width_of kinds) (at + mask_bytes kinds + 8) (at + offset_of kinds c.loop-column.column) at (at + width_of kinds) first c.loop-column.invariant.0 (omega arith) (omega arith) (omega arith) (omega (arith, offset_of_most kinds c.loop-column.column))

pub returns-clause-row : goal.returns-clause-row
unfolding is_null
returns-clause-row c =
    let kinds = c.args.layout.now in
    let at = c.args.at in
    let column_end = at + offset_of kinds c.loop-column.column in
    record {
      hash_is = number_at_before c.set_long.new.image c.loop-column.image (at + mask_bytes kinds + 8) column_end c.loop-column.invariant.0 (at + mask_bytes kinds) 8 (omega arith) ∙ ap (λ place. number_at c.set_long.new.image place 8) (omega arith) ∙ c.set_long.ensures.stored;
      nulls = λ column inside.
          let kept : slice_index c.loop-column.image (at + column / 8) ≡ slice_index c.put_mask.new.image (at + column / 8) =
          c.loop-column.invariant.0.before (at + column / 8) (omega (arith, mask_holds kinds column inside)) ∙ c.set_long.ensures.others.before (at + column / 8) (omega (arith, mask_holds kinds column inside, c.mask_bytes.ensures.count)) in
          ap (λ byte. bit_at byte (column % 8) == 1) kept ∙ ap (λ b. b == 1) (c.put_mask.ensures.bits (column / 8) (column % 8) (mask_holds kinds column inside) (omega arith) ∙ ap (null_bit c.args.cells.now) (omega arith));
      stored = λ column inside. c.loop-column.invariant.1 column (omega arith);
    }
