-- What a load makes of a table and of a catalog.
use Rattle.std.specs.Prelude.{◌≡◌, ℕ, List, [], ◌∷◌, ◌++◌, Result, Ok, Err, ⊤}
use Rattle.ooc_types.specs.declared.value.Value.{Value}
use Rattle.ooc_types.specs.declared.schema.Column.{Column}
use Rattle.page_body.specs.View.{PoolTerms, PoolView}
use Rattle.row_sets.specs.Holds.{nothing}
use Rattle.row_sets.specs.Changes.{Changes}
use Rattle.row_sets.specs.Sets.{IsHere, set_holding}
use Rattle.row_sets.specs.declared.row_set.RowSet.{RowSet}
use Rattle.csv_load.specs.declared.fault.Refusal.{Refusal}
use Rattle.csv_tables.specs.declared.fault.LoadFault.{LoadFault}
use Rattle.csv_tables.specs.declared.fault.LoadFault.TheVariants as load
use Rattle.script_says.specs.Catalog as says
use Rattle.paged_catalog.specs.Meaning.{sets_rows}
use Rattle.paged_catalog.specs.Stands.{IsSetOf}

-- ---- of a catalog

-- some rows more at the end of a table
abbrev pub AddsRows : says.Catalog → List ℕ → says.Catalog → Type 0
AddsRows old name new = (rows : List (List Value)) × (new ≡ says.with_rows old name rows)

-- the rows that are meant were added, or they are refused as they are meant to be
abbrev pub LoadsInto : Result (List (List Value)) Refusal → says.Catalog → List ℕ → says.Catalog → Result (Unit {0}) LoadFault → Type 0
LoadsInto meant old name new (Err (load.Refused why)) = meant ≡ Err why
LoadsInto meant old name new (Err load.Read) = ⊤
LoadsInto meant old name new (Err (load.Pool fault)) = ⊤
LoadsInto meant old name new (Err load.OutOfMemory) = ⊤
LoadsInto meant old name new (Ok u) = (rows : List (List Value)) × (meant ≡ Ok rows) × (new ≡ says.with_rows old name rows)

-- ---- of the sets of one table

-- one set more, which is all that came of the pool
pub record HasSetMore {Page Pin : Type 0} (t : PoolTerms Page Pin) (columns : List Column) (a b : PoolView Page Pin) (old new : List (RowSet Page)) : Type 0 where
  pub set : RowSet Page
  pub sets : new ≡ old ++ set ∷ []
  pub is : IsSetOf t a.page_bytes columns set
  pub here : IsHere b set
  pub changes : Changes t nothing (set_holding t set) a b

-- the same sets, and nothing came of the pool
pub record HasSetsStill {Page Pin : Type 0} (t : PoolTerms Page Pin) (a b : PoolView Page Pin) (old new : List (RowSet Page)) : Type 0 where
  pub sets : new ≡ old
  pub changes : Changes t nothing nothing a b

abbrev pub AddsSet : {Page Pin : Type 0} → PoolTerms Page Pin → List Column → PoolView Page Pin → PoolView Page Pin → List (RowSet Page) → List (RowSet Page) → Result (Unit {0}) LoadFault → Type 0
AddsSet t columns a b old new (Err fault) = HasSetsStill t a b old new
AddsSet t columns a b old new (Ok u) = HasSetMore t columns a b old new

-- the rows that are meant are behind the others, or they are refused as they are meant to be
abbrev pub AddsMeant : {Page Pin : Type 0} → PoolTerms Page Pin → Result (List (List Value)) Refusal → List (RowSet Page) → List (RowSet Page) → Result (Unit {0}) LoadFault → Type 0
AddsMeant t meant old new (Err (load.Refused why)) = meant ≡ Err why
AddsMeant t meant old new (Err load.Read) = ⊤
AddsMeant t meant old new (Err (load.Pool fault)) = ⊤
AddsMeant t meant old new (Err load.OutOfMemory) = ⊤
AddsMeant t meant old new (Ok u) = (rows : List (List Value)) × (meant ≡ Ok rows) × (sets_rows t new ≡ sets_rows t old ++ rows)
