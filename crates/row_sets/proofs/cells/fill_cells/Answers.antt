use Rattle.std.proofs.Common.{◌≡◌, ◌<◌, length, get_or, map, ap, sym, ◌∙◌, arith, rules}
use Rattle.std.proofs.lemmas.List.{length-map, get_or-map}
use Rattle.row_image.specs.Cells.{NullCell, given_cell}
use Rattle.row_image.specs.declared.cell.CellIn.TheVariants.{Null}
use Rattle.row_image.specs.Texts.{NullValue}
use Rattle.rebase_pins.specs.declared.cell_read.CellRead.TheVariants as read
use Rattle.rebase_pins.specs.Seen.{value_read}
use Rattle.row_sets.specs.Cells.{cell_of, cells_of, long_of}
use Rattle.row_sets.proofs.RowCells.{long_next, long_part, cells_long, cells_at, read_alike, fill_next}
use Rattle.row_sets.proofs.cells.fill_cells.Goals as goal

pub cell_of-requires : goal.cell_of-requires
cell_of-requires c =
    let row = c.args.row.now in
    let k = c.loop-column.column in
    let vs = map value_read row in
    let inside : k < length vs = omega (arith, c.loop-column-test.true, length-map row value_read) in
    let part = long_part vs k inside in
    let is = ap long_of (get_or-map value_read row k read.Null NullValue c.loop-column-test.true) in
    omega (arith, part, is, c.requires.small)

pub overflow_add-at : goal.overflow_add-at
overflow_add-at c =
    let row = c.args.row.now in
    let k = c.loop-column.column in
    let vs = map value_read row in
    let inside : k < length vs = omega (arith, c.loop-column-test.true, length-map row value_read) in
    let part = long_part vs k inside in
    let is = ap long_of (get_or-map value_read row k read.Null NullValue c.loop-column-test.true) in
    omega (arith, part, is, c.requires.small, c.requires.low, c.loop-column.invariant.at, c.long_of-at.ensures)

pub loop-column-preserved : goal.loop-column-preserved
loop-column-preserved c =
    let row = c.args.row.now in
    let k = c.loop-column.column in
    let vs = map value_read row in
    let inside : k < length vs = omega (arith, c.loop-column-test.true, length-map row value_read) in
    let is = get_or-map value_read row k read.Null NullValue c.loop-column-test.true in
    let same = ap long_of is in
    let next = long_next vs k inside in
    record {
      long = search rules;
      at = omega (arith, c.loop-column.invariant.at, c.long_of-at.ensures, same, next);
      cells = fill_next (λ j x. given_cell x ≡ get_or (cells_of vs c.args.at) j NullCell) c.loop-column.into k c.cell_of.result Null (let long = c.loop-column.invariant.long in omega (arith, long, c.loop-column-test.true)) c.loop-column.invariant.cells
          (c.cell_of.ensures ∙ ap (λ v. cell_of v c.loop-column.at) (sym is) ∙ ap (cell_of (get_or vs k NullValue)) c.loop-column.invariant.at ∙ sym (cells_at vs c.args.at k NullCell inside));
    }

pub returns : goal.returns
returns c =
    let row = c.args.row.now in
    let vs = map value_read row in
    read_alike given_cell c.loop-column.into (cells_of vs c.args.at) Null NullCell
    (c.loop-column.invariant.long ∙ sym (cells_long vs c.args.at ∙ length-map row value_read))
    (λ k less. c.loop-column.invariant.cells k (let long = c.loop-column.invariant.long in omega (arith, less, long)))
