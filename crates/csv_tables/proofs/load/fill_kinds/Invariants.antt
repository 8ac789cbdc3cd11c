use Rattle.std.proofs.Common.{◌≡◌, length, take}
use Rattle.csv_tables.specs.Stored.{kinds_of}
use Rattle.csv_tables.proofs.load.fill_kinds.Given as goal

abbrev pub invariant-loop-column : goal.invariant-loop-column
invariant-loop-column l = (length l.into ≡ length l.columns) × (take l.column l.into ≡ take l.column (kinds_of l.columns))
