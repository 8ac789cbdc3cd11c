-- The rows ahead of a reader of rows.
use Rattle.std.specs.Prelude.{◌≡◌, ℕ, ◌+◌, Bool, Option, Some, None, Result, Ok, Err, List, [], ◌∷◌, length, option_map, IfSome, IsSomeAnd, ⊤}
use Rattle.ooc_types.specs.declared.value.Value.{Value}
use Rattle.csv_records.specs.Files.{Records}
use Rattle.csv_records.specs.Ahead.{Position, IsRecord, told_records}
use Rattle.csv_load.specs.declared.fault.Refusal.{Refusal}
use Rattle.csv_load.specs.declared.fault.RowFault.{RowFault}
use Rattle.csv_load.specs.declared.fault.RowFault.TheVariants.{Refused, Read, OutOfMemory}
use Rattle.csv_load.specs.Rows.{Reading, reason, refusal, rows_from, rows_behind_header, row_of}
use Rattle.csv_load.specs.declared.stage.Stage.{Stage}
use Rattle.csv_load.specs.declared.stage.Stage.TheVariants.{Header, Rows, End, Failed}
use Rattle.csv_records.specs.declared.fault.RecordFault.{RecordFault}
use Rattle.csv_records.specs.declared.fault.RecordFault.TheVariants as record_fault
use Rattle.ooc_types.specs.declared.refusal.RefusalKind.TheVariants.{FileTooLong, RecordTooLong}

-- How rows are made of records, what comes next, the number of the record of data that was found last, the position in
-- the file, and the bytes of the record that was found last, where one was.
pub record RowReader : Type 0 where
  pub reading : Reading
  pub stage : Stage
  pub number : ℕ
  pub position : Position
  pub current : List ℕ
  pub found : Bool

-- how many bytes are carried or may still be taken
abbrev pub bytes_ahead : RowReader → ℕ
bytes_ahead s = length s.position.carried + s.position.allowed

-- rows one after the other, and at the end the refusal, if there is one
abbrev pub Given : Type 0
Given = List (Result (List Value) Refusal)

-- what is given of these records, of which the first has this number
abbrev pub given_from : Reading → ℕ → Records → Given
given_from r n all = rows_from r n all.too_long all.records

-- what is given of records of which the first is the header
abbrev pub given_behind : Reading → Records → Given
given_behind r all = rows_behind_header r all.too_long all.records

-- what is given at a stage, where the record that was found last has this number
abbrev pub given_at : Stage → Reading → ℕ → Records → Given
given_at Header r n all = given_behind r all
given_at Rows r n all = given_from r (n + 1) all
given_at End r n all = []
given_at Failed r n all = []

abbrev pub given_of : RowReader → Records → Given
given_of s all = given_at s.stage s.reading s.number all

-- what a record of this number gives
unfoldable pub outcome : Reading → ℕ → List ℕ → Result (List Value) Refusal
outcome r n bytes = elim (row_of r bytes) [ Err why ↦ Err (refusal n why) | Ok row ↦ Ok row ]

abbrev pub outcome_of : RowReader → Result (List Value) Refusal
outcome_of s = outcome s.reading s.number s.current

-- a row in front of others, or a refusal, behind which nothing is given
abbrev pub with_next : Result (List Value) Refusal → Given → Given
with_next (Err why) rest = Err why ∷ []
with_next (Ok row) rest = Ok row ∷ rest

-- what is ahead, where the files tell what is left
abbrev pub told_rows : RowReader → Option (List ℕ) → Option Given
told_rows s left = option_map (given_of s) (told_records s.reading.delimiter s.position left)

-- what a record gives was split off what is known
abbrev pub GivesNext : Option Given → Result (List Value) Refusal → Option Given → Type 0
GivesNext None next now = ⊤
GivesNext (Some before) next now = IsSomeAnd now (λ rest. before ≡ with_next next rest)

-- a row was split off those that are known
abbrev pub GivesRow : Option Given → List Value → Option Given → Type 0
GivesRow None row now = ⊤
GivesRow (Some before) row now = IsSomeAnd now (λ rest. before ≡ Ok row ∷ rest)

-- nothing is left of what is known
abbrev pub GivesEnd : Option Given → Type 0
GivesEnd before = IfSome before (λ given. given ≡ [])

-- what is known begins with the refusal
abbrev pub GivesRefusal : Option Given → RowFault → Type 0
GivesRefusal before (Refused why) = IfSome before (λ given. given ≡ Err why ∷ [])
GivesRefusal before Read = ⊤
GivesRefusal before OutOfMemory = ⊤

-- the row of some record
pub record IsRowOf (r : Reading) (row : List Value) : Type 0 where
  pub bytes : List ℕ
  pub is : IsRecord r.delimiter bytes
  pub gives : row_of r bytes ≡ Ok row

-- what is given of the records ahead, of which the first has this number
abbrev pub told_from : Reading → ℕ → Position → Option (List ℕ) → Option Given
told_from r n p left = option_map (given_from r n) (told_records r.delimiter p left)

-- what is given of the records ahead, of which the first is the header
abbrev pub told_behind : Reading → Position → Option (List ℕ) → Option Given
told_behind r p left = option_map (given_behind r) (told_records r.delimiter p left)

-- the row that is meant was put, or it is refused as it is meant to be
abbrev pub PutsRow : Result (List Value) Refusal → Result (Unit {0}) RowFault → List Value → Type 0
PutsRow meant (Err (Refused why)) values = meant ≡ Err why
PutsRow meant (Err Read) values = ⊥
PutsRow meant (Err OutOfMemory) values = ⊤
PutsRow meant (Ok u) values = meant ≡ Ok values

-- the fault of a record with this number that isn't found
abbrev pub find_fault : ℕ → RecordFault → RowFault
find_fault n record_fault.FileTooLong = Refused (refusal n (reason 0 FileTooLong))
find_fault n record_fault.RecordTooLong = Refused (refusal n (reason 0 RecordTooLong))
find_fault n record_fault.Read = Read
find_fault n record_fault.OutOfMemory = OutOfMemory
