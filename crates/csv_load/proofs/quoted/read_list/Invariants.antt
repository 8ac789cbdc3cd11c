use Rattle.std.proofs.Common.{◌≡◌, ◌+◌, take, drop, map}
use Rattle.csv_load.specs.Rows.{column_values}
use Rattle.csv_load.specs.FieldReads.{value_in}
use Rattle.csv_load.specs.Formats.{reading_in}
use Rattle.csv_load.proofs.Columns.{onto_values}
use Rattle.csv_load.proofs.quoted.read_list.Given as goal

abbrev pub invariant-loop-i : goal.invariant-loop-i
invariant-loop-i l =
    column_values (reading_in l.format) l.columns 1 l.fields
    ≡ onto_values (take l.i (map value_in l.into)) (column_values (reading_in l.format) (drop l.i l.columns) (l.i + 1) (drop l.i l.fields))
