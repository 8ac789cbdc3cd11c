use Rattle.std.proofs.Common.{◌≡◌, length, map, take}
use Rattle.csv_load.specs.FieldReads.{value_in}
use Rattle.rebase_pins.specs.Seen.{value_read}
use Rattle.row_sets.specs.SetRows.{kept_as}
use Rattle.csv_tables.proofs.cells.fill_cells.Given as goal

abbrev pub invariant-loop-column : goal.invariant-loop-column
invariant-loop-column l = (length l.into ≡ length l.fields) × (take l.column (map value_read l.into) ≡ take l.column (map kept_as (map value_in l.fields)))
