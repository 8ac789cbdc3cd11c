-- What becomes of an aggregate that was kept elsewhere.
use Rattle.std.specs.Prelude.{◌≡◌, ℕ, ℤ}
use Rattle.ooc_types.specs.declared.value.Value.{Value}
use Rattle.ooc_types.specs.declared.value.Value.TheVariants.{Null}
use Rattle.ooc_types.specs.declared.schema.SqlType.{SqlType}
use Rattle.agg_states.specs.declared.kind.AggKind.{AggKind}
use Rattle.agg_states.specs.declared.kind.AggKind.TheVariants.{CountRows, Count, Sum, Min, Max}
use Rattle.agg_states.specs.Tally.{Tally, restored_rows, restored_count, restored_sum}
use Rattle.agg_states.specs.Bounds.{IsOfForm}

-- the value itself, and NULL for one of another form
abbrev pub IsRestoredValue : SqlType → Value → Value → Type 0
IsRestoredValue of kept cell = (IsOfForm of kept → cell ≡ kept) × ((IsOfForm of kept → ⊥) → cell ≡ Null)

abbrev pub IsRestoredCell : AggKind → SqlType → ℕ → Value → Value → Type 0
IsRestoredCell CountRows of rows kept cell = cell ≡ restored_count rows kept
IsRestoredCell Count of rows kept cell = cell ≡ restored_count rows kept
IsRestoredCell Sum of rows kept cell = cell ≡ restored_sum of rows kept
IsRestoredCell Min of rows kept cell = IsRestoredValue of kept cell
IsRestoredCell Max of rows kept cell = IsRestoredValue of kept cell

-- the aggregate of so many rows and a cell that were kept
pub record IsRestored (kind : AggKind) (of : SqlType) (rows : ℤ) (kept : Value) (tally : Tally) : Type 0 where
  pub same_kind : tally.kind ≡ kind
  pub same_type : tally.of ≡ of
  pub near_rows : tally.rows ≡ restored_rows rows
  pub near_cell : IsRestoredCell kind of tally.rows kept tally.cell
