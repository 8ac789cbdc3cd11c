use Rattle.std.proofs.Common.{◌≡◌, ◌≤◌, [], drop, length}
use Rattle.std.specs.Prelude.{IsSome}
use Rattle.csv.specs.Machine.{next_record}
use Rattle.csv.specs.Records.{fields_of, partial_of}
use Rattle.csv.specs.declared.parser.State.TheVariants as st
use Rattle.csv_records.specs.Table.{state_after}
use Rattle.csv_records.specs.Fields.{csv_config}
use Rattle.csv_records.specs.Unquoting.{csv_state}
use Rattle.csv_records.proofs.fields.split_fields.Given as goal

abbrev pub invariant-loop-byte : goal.invariant-loop-byte
invariant-loop-byte l = record {
  read : next_record (csv_config l.delimiter) st.StartField [] [] l.bytes ≡ next_record (csv_config l.delimiter) (csv_state l.mark) (fields_of l.into) l.field.items (drop l.byte-index l.bytes);
  runs : IsSome (state_after l.delimiter l.mark (drop l.byte-index l.bytes));
  count : length (fields_of l.into) ≤ l.byte-index;
  partial : partial_of l.into ≡ [];
}
