use Rattle.std.proofs.Common.{◌≡◌, ◌<◌, ℕ, length, get_or}
use Rattle.ooc_types.specs.declared.schema.SqlType.TheVariants.{Boolean}
use Rattle.row_image.specs.declared.layout.CellKind.TheVariants.{Bit}
use Rattle.row_sets.specs.SetRows.{cell_kind}
use Rattle.row_sets.proofs.kinds.fill_kinds.Given as goal

abbrev pub invariant-loop-column : goal.invariant-loop-column
invariant-loop-column l = (length l.into ≡ length l.kinds) × ((k : ℕ) → k < l.column → get_or l.into k Bit ≡ cell_kind (get_or l.kinds k Boolean))
