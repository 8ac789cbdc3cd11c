use Rattle.std.proofs.Common.{map}
use Rattle.csv_load.specs.FieldReads.{value_in}
use Rattle.csv_load.proofs.Given.{outcome-row}
use Rattle.csv_load.proofs.RowsOf.{row-is-of}
use Rattle.rebase_pins.specs.Seen.{value_read}
use Rattle.row_image.specs.Rules.{text_limit}
use Rattle.csv_tables.proofs.Loaded.{cells-fit}
use Rattle.csv_tables.proofs.rows.append_read.Goals as goal

pub append-requires-clause-fits : goal.append-requires-clause-fits
append-requires-clause-fits g c =
    let s = c.args.rows.now in
    let w = c.args.writer.now in
    let row = map value_in c.read_row.new.into in
    let gives = outcome-row s.reading s.number s.current row c.in-Ok.ensures in
    cells-fit w.layout w.kinds s.reading.columns s.reading.limit (text_limit w.page_bytes) (map value_read c.fill_cells.new.into) row
    c.requires.writing.columns.layout_is c.requires.kinds c.requires.limit c.fill_cells.ensures (row-is-of s.reading s.current row c.requires.typed gives)
