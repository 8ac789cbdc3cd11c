use Rattle.std.proofs.Common.{◌≡◌, Some}
use Rattle.std.specs.Prelude.{slice_range}
use Rattle.csv_records.specs.Table.{state_after}
use Rattle.csv_records.proofs.stop.table_stop.Given as goal

abbrev pub invariant-loop-i : goal.invariant-loop-i
invariant-loop-i l = state_after l.delimiter l.fn.start (slice_range l.text l.from l.i) ≡ Some l.mark
