-- What a file is loaded as.
use Rattle.std.specs.Prelude.{◌≡◌, ℕ, List, Option, Some, None, Result, Ok, Err, ⊤}
use Rattle.ooc_types.specs.declared.value.Value.{Value}
use Rattle.ooc_types.specs.declared.schema.Column.{Column}
use Rattle.page_body.specs.View.{PoolTerms}
use Rattle.row_sets.specs.Holds.{Holding, nothing}
use Rattle.row_sets.specs.Sets.{set_holding, set_rows}
use Rattle.row_sets.specs.declared.row_set.RowSet.{RowSet}
use Rattle.csv_load.specs.declared.options.CsvOptions.{CsvOptions}
use Rattle.csv_load.specs.declared.fault.Refusal.{Refusal}
use Rattle.csv_load.specs.Rows.{file_rows}
use Rattle.csv_tables.specs.declared.fault.LoadFault.{LoadFault}
use Rattle.csv_tables.specs.declared.fault.LoadFault.TheVariants as load
use Rattle.csv_tables.specs.Faults.{no_file}
use Rattle.csv_tables.specs.Stored.{stored, AreOf}

-- the rows of a named file, or its refusal, which is that of a missing file where none has the name
abbrev pub named_rows : List Column → CsvOptions → ℕ → Option (List ℕ) → Result (List (List Value)) Refusal
named_rows columns options limit None = Err no_file
named_rows columns options limit (Some bytes) = file_rows columns options limit bytes

-- the rows that are meant were loaded, or they are refused as they are meant to be
abbrev pub Loads : {Page Pin : Type 0} → PoolTerms Page Pin → Result (List (List Value)) Refusal → Result (RowSet Page) LoadFault → Type 0
Loads t meant (Ok set) = (rows : List (List Value)) × (meant ≡ Ok rows) × (set_rows t set ≡ stored rows)
Loads t meant (Err (load.Refused why)) = meant ≡ Err why
Loads t meant (Err load.Read) = ⊤
Loads t meant (Err (load.Pool fault)) = ⊤
Loads t meant (Err load.OutOfMemory) = ⊤

-- the rows of a set are rows of a table with these columns
pub record IsTable {Page Pin : Type 0} (t : PoolTerms Page Pin) (limit : ℕ) (columns : List Column) (set : RowSet Page) : Type 0 where
  pub rows : List (List Value)
  pub stores : set_rows t set ≡ stored rows
  pub of : AreOf limit columns rows

-- what a call that gives a set, or is refused, gives of a pool
abbrev pub load_given : {Page Pin : Type 0} → PoolTerms Page Pin → Result (RowSet Page) LoadFault → Holding
load_given t (Err fault) = nothing
load_given t (Ok set) = set_holding t set
