use Rattle.std.proofs.Common.{◌≡◌, ◌+◌, ◌==◌, take, drop, length, map}
use Rattle.std.specs.List.{slice_split}
use Rattle.csv_load.specs.Parts.{rest_fields}
use Rattle.csv_load.specs.Rows.{column_values}
use Rattle.csv_load.specs.FieldReads.{value_in}
use Rattle.csv_load.specs.Formats.{reading_in}
use Rattle.csv_load.proofs.Columns.{onto_values}
use Rattle.csv_load.proofs.plain.read_plain.Given as goal

abbrev pub invariant-loop-i : goal.invariant-loop-i
invariant-loop-i l = record {
  count : length (slice_split (λ b. b == l.format.delimiter) l.bytes) ≡ l.i + length (rest_fields l.format.delimiter l.bytes l.from);
  so_far : column_values (reading_in l.format) l.columns 1 (slice_split (λ b. b == l.format.delimiter) l.bytes)
      ≡ onto_values (take l.i (map value_in l.into)) (column_values (reading_in l.format) (drop l.i l.columns) (l.i + 1) (rest_fields l.format.delimiter l.bytes l.from));
}
