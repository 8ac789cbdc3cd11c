use Rattle.std.proofs.Common.{◌≡◌, take, map, length}
use Rattle.csv_load.specs.FieldReads.{value_in}
use Rattle.csv_load.proofs.store.put_values.Given as goal

abbrev pub invariant-loop-i : goal.invariant-loop-i
invariant-loop-i l = (length l.values ≡ length l.fields) × (take l.i l.values ≡ take l.i (map value_in l.fields))
