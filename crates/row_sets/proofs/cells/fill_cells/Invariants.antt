use Rattle.std.proofs.Common.{◌≡◌, ◌+◌, ◌<◌, ℕ, length, get_or, take, map}
use Rattle.row_image.specs.Cells.{NullCell, given_cell}
use Rattle.row_image.specs.declared.cell.CellIn.TheVariants.{Null}
use Rattle.rebase_pins.specs.Seen.{value_read}
use Rattle.row_sets.specs.Cells.{cells_of, long_in}
use Rattle.row_sets.proofs.cells.fill_cells.Given as goal

abbrev pub invariant-loop-column : goal.invariant-loop-column
invariant-loop-column l = record {
  long : length l.into ≡ length l.row;
  at : l.at ≡ l.initial.at + long_in (take l.column (map value_read l.row));
  cells : (k : ℕ) → k < l.column → given_cell (get_or l.into k Null) ≡ get_or (cells_of (map value_read l.row) l.initial.at) k NullCell;
}
