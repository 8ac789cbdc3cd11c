use Rattle.std.proofs.Common.{◌≡◌, ◌<◌, ℕ, length, get_or}
use Rattle.ooc_types.specs.declared.value.Value.TheVariants as value
use Rattle.rebase_pins.specs.declared.cell_read.CellRead.TheVariants.{Null}
use Rattle.rebase_pins.specs.Seen.{value_read}
use Rattle.row_sets.specs.SetRows.{kept_as}
use Rattle.row_cursors.proofs.values.fill_kept.Given as goal

abbrev pub invariant-loop-column : goal.invariant-loop-column
invariant-loop-column l = (length l.into ≡ length l.row) × ((k : ℕ) → k < l.column → value_read (get_or l.into k Null) ≡ kept_as (get_or l.row k value.Null))
