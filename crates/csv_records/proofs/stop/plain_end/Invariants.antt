use Rattle.std.proofs.Common.{◌≡◌, false}
use Rattle.std.specs.Prelude.{slice_range}
use Rattle.std.specs.List.{list_any}
use Rattle.csv_records.specs.Table.{is_special}
use Rattle.csv_records.proofs.stop.plain_end.Given as goal

abbrev pub invariant-loop-i : goal.invariant-loop-i
invariant-loop-i l = list_any is_special (slice_range l.text l.from l.i) ≡ false
