use Rattle.std.proofs.Common.{◌≡◌, ◌==◌, false}
use Rattle.std.specs.Prelude.{slice_range}
use Rattle.std.specs.List.{list_any}
use Rattle.csv_load.proofs.plain.field_end.Given as goal

abbrev pub invariant-loop-i : goal.invariant-loop-i
invariant-loop-i l = list_any (λ b. b == l.delimiter) (slice_range l.bytes l.from l.i) ≡ false
