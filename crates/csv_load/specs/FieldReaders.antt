-- What contracts see of a reader of records and their fields.
use Rattle.std.specs.Prelude.{◌≡◌, ◌≤◌, ◌+◌, ℕ, Bool, true, false, List, length}
use Rattle.std.specs.List.{list_any}
use Rattle.csv_records.specs.Limits.{record_limit}
use Rattle.csv_records.specs.Table.{is_special}
use Rattle.csv_records.specs.Ahead.{Position, IsRecord}
use Rattle.csv_records.specs.Fields.{fields}
use Rattle.csv_load.specs.declared.field_reader.Split.{Split}
use Rattle.csv_load.specs.declared.field_reader.Split.TheVariants.{Missing, Plain, Apart}
use Rattle.csv_load.specs.declared.field_reader.FieldReader.TheInside.{Inside}

-- the byte between fields, the position in the file, the bytes of the record that was found last, and whether one was found
pub record FieldPlace : Type 0 where
  pub delimiter : ℕ
  pub position : Position
  pub current : List ℕ
  pub found : Bool

abbrev pub is_found : Split → Bool
is_found Missing = false
is_found Plain = true
is_found Apart = true

abbrev pub field_place : Inside → FieldPlace
field_place r = record { delimiter = r.records.delimiter; position = r.records.position; current = r.records.current; found = is_found r.split }

-- a record that is found is one, and its fields are where they are said to be
pub record IsFieldReader (r : Inside) : Type 0 where
  pub is : is_found r.split ≡ true → IsRecord r.records.delimiter r.records.current
  pub plain : r.split ≡ Plain → list_any is_special r.records.current ≡ false
  pub apart : r.split ≡ Apart → r.fields ≡ fields r.records.delimiter r.records.current
  pub few : r.split ≡ Apart → length r.fields ≤ record_limit + 1
