-- Rows of a file behind those of a writer.
use Rattle.std.specs.Prelude.{◌≡◌, ℕ, List, [], ◌∷◌, ◌++◌, map, Option, Some, None, Result, Ok, Err, IfSome, IsSomeAnd, ⊤}
use Rattle.ooc_types.specs.declared.value.Value.{Value}
use Rattle.ooc_types.specs.declared.schema.Column.{Column}
use Rattle.ooc_types.specs.Meets.{IsOf}
use Rattle.row_image.specs.Texts.{ValueRow}
use Rattle.csv_load.specs.declared.fault.Refusal.{Refusal}
use Rattle.csv_load.specs.Rows.{gathered}
use Rattle.csv_load.specs.Ahead.{Given, GivesRow}
use Rattle.csv_tables.specs.declared.fault.LoadFault.{LoadFault}
use Rattle.csv_tables.specs.declared.fault.LoadFault.TheVariants as load
use Rattle.csv_tables.specs.Stored.{kept_row, AreOf}

-- what a record gives was added at the end, or it is refused as it is meant to be
abbrev pub PutsNext : Result (List Value) Refusal → List ValueRow → List ValueRow → Result (Unit {0}) LoadFault → Type 0
PutsNext next before now (Ok u) = (row : List Value) × (next ≡ Ok row) × (now ≡ before ++ kept_row row ∷ [])
PutsNext next before now (Err (load.Refused why)) = next ≡ Err why
PutsNext next before now (Err load.Read) = ⊥
PutsNext next before now (Err (load.Pool fault)) = ⊤
PutsNext next before now (Err load.OutOfMemory) = ⊤

-- what is known is refused in the end
abbrev pub IsRefused : Option Given → LoadFault → Type 0
IsRefused given (load.Refused why) = IfSome given (λ known. gathered known ≡ Err why)
IsRefused given load.Read = ⊤
IsRefused given (load.Pool fault) = ⊤
IsRefused given load.OutOfMemory = ⊤

-- a row was added, which was split off what is known
pub record AddsRow (limit : ℕ) (columns : List Column) (given rest : Option Given) (before now : List ValueRow) : Type 0 where
  pub row : List Value
  pub added : now ≡ before ++ kept_row row ∷ []
  pub gives : GivesRow given row rest
  pub of : IsOf limit columns row

-- all rows behind those that came before
abbrev pub onto_rows : List (List Value) → Result (List (List Value)) Refusal → Result (List (List Value)) Refusal
onto_rows done (Err why) = Err why
onto_rows done (Ok rows) = Ok (done ++ rows)

-- these rows of what is known came, and the others are ahead
abbrev pub GoesOn : Option Given → List (List Value) → Option Given → Type 0
GoesOn None done now = ⊤
GoesOn (Some given) done now = IsSomeAnd now (λ rest. gathered given ≡ onto_rows done (gathered rest))

-- rows that were added so far
pub record HasAdded (limit : ℕ) (columns : List Column) (given rest : Option Given) (before now : List ValueRow) : Type 0 where
  pub rows : List (List Value)
  pub added : now ≡ before ++ map kept_row rows
  pub goes : GoesOn given rows rest
  pub of : AreOf limit columns rows

-- all rows of what is known were added
pub record AddsAll (limit : ℕ) (columns : List Column) (given : Option Given) (before now : List ValueRow) : Type 0 where
  pub rows : List (List Value)
  pub added : now ≡ before ++ map kept_row rows
  pub all : IfSome given (λ known. gathered known ≡ Ok rows)
  pub of : AreOf limit columns rows
