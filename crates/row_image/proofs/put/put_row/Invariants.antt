use Rattle.std.proofs.Common.{◌<◌, ◌+◌, ℕ, get_or}
use Rattle.row_image.specs.declared.layout.CellKind.TheVariants.{Bit}
use Rattle.row_image.specs.declared.cell.CellIn.TheVariants.{Null}
use Rattle.row_image.specs.Bytes.{ChangesOnly}
use Rattle.row_image.specs.Layout.{mask_bytes, offset_of}
use Rattle.row_image.specs.Cells.{given_cell}
use Rattle.row_image.specs.Stores.{StoresAt}
use Rattle.row_image.proofs.put.put_row.Given as goal

abbrev pub invariant-loop-column : goal.invariant-loop-column
invariant-loop-column l =
    ChangesOnly l.initial.image l.image (l.at + mask_bytes l.layout + 8) (l.at + offset_of l.layout l.column)
    × ((k : ℕ) → k < l.column → StoresAt (get_or l.layout k Bit) l.image (l.at + offset_of l.layout k) (given_cell (get_or l.cells k Null)))
