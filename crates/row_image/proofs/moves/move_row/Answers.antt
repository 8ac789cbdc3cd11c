use Rattle.std.proofs.Common.{◌+◌, ◌<◌, get_or, length, arith, below_more}
use Rattle.row_image.specs.declared.layout.CellKind.TheVariants.{Bit}
use Rattle.row_image.specs.Layout.{cell_width, mask_bytes, offset_of}
use Rattle.row_image.proofs.ByteLemmas.{changes_joined, same_before, same_after}
use Rattle.row_image.proofs.LayoutLemmas.{offset_of_least, offset_of_next, offset_of_most, cells_apart}
use Rattle.row_image.proofs.MoveLemmas.{moves_then, then_moves, reached_same}
use Rattle.row_image.proofs.moves.move_row.Goals as goal

pub move_cell-requires-clause-reach : goal.move_cell-requires-clause-reach
move_cell-requires-clause-reach c =
    let kinds = c.args.layout.now in
    let column = c.loop-column.column in
    let at = c.args.at in
    let low = at + mask_bytes kinds + 8 in
    let high = at + offset_of kinds column in
    reached_same kinds c.args.image.now c.loop-column.image at c.args.from column
    (same_before c.args.image.now c.loop-column.image low high at (at + mask_bytes kinds) (omega arith) c.loop-column.invariant.0 (omega arith))
    (same_after c.args.image.now c.loop-column.image low high high (high + cell_width (get_or kinds column Bit)) (omega arith) c.loop-column.invariant.0 (omega arith))
    (omega arith) (c.requires.reach column (omega arith))

pub loop-column-preserved : goal.loop-column-preserved
loop-column-preserved c =
    let kinds = c.args.layout.now in
    let column = c.loop-column.column in
    let at = c.args.at in
    let low = at + mask_bytes kinds + 8 in
    let high = at + offset_of kinds column in
    let inside : column < length kinds = omega arith in (
      changes_joined c.args.image.now c.loop-column.image c.move_cell.new.image low high high (at + offset_of kinds (column + 1)) low (at + offset_of kinds (column + 1))
          c.loop-column.invariant.0 c.move_cell.ensures.others (omega arith) (omega (arith, offset_of_least kinds column)) (omega (arith, offset_of_next kinds column inside)) (omega arith),
      below_more _ _
          (λ k below. moves_then kinds c.args.image.now c.loop-column.image c.move_cell.new.image at c.args.from c.args.to k (c.loop-column.invariant.1 k below)
          (same_before c.loop-column.image c.move_cell.new.image high (at + offset_of kinds (column + 1)) (at + offset_of kinds k) (at + offset_of kinds k + cell_width (get_or kinds k Bit)) (omega arith) c.move_cell.ensures.others (omega (arith, cells_apart kinds k column below (omega arith)))))
          (then_moves kinds c.args.image.now c.loop-column.image c.move_cell.new.image at c.args.from c.args.to column
          (same_before c.args.image.now c.loop-column.image low high at (at + mask_bytes kinds) (omega arith) c.loop-column.invariant.0 (omega arith))
          (same_after c.args.image.now c.loop-column.image low high high (high + cell_width (get_or kinds column Bit)) (omega arith) c.loop-column.invariant.0 (omega arith))
          inside c.move_cell.ensures.cell),
    )

pub returns-clause-others : goal.returns-clause-others
returns-clause-others c =
    let kinds = c.args.layout.now in
    record {
      before = λ k below. c.loop-column.invariant.0.before k (omega arith);
      after = λ k past. c.loop-column.invariant.0.after k (omega (arith, offset_of_most kinds c.loop-column.column));
    }
