-- What contracts see of a reader of rows.
use Rattle.std.specs.Prelude.{◌≡◌, ◌≤◌, ◌+◌, ◌^◌, length, ⊤}
use Rattle.csv_load.specs.Formats.{reading_in}
use Rattle.csv_load.specs.Ahead.{RowReader}
use Rattle.csv_load.specs.declared.stage.Stage.{Stage}
use Rattle.csv_load.specs.declared.stage.Stage.TheVariants.{Header, Rows, End, Failed}
use Rattle.csv_load.specs.declared.rows.CsvRows.TheInside.{Inside}

abbrev pub row_reader : Inside → RowReader
row_reader r = record { reading = reading_in r.format; stage = r.stage; number = r.number; position = r.records.position; current = r.records.current; found = r.records.found }

-- records may come next
abbrev pub IsGoingOn : Stage → Type 0
IsGoingOn Header = ⊤
IsGoingOn Rows = ⊤
IsGoingOn End = ⊥
IsGoingOn Failed = ⊥

-- The records are cut at the format's delimiter. The number of the record that was found last and what may still be taken
-- of the file stay below a bound, as each record takes a byte, as long as records may come.
pub record IsRowReader (r : Inside) : Type 0 where
  pub same : r.records.delimiter ≡ r.format.delimiter
  pub first : r.stage ≡ Header → r.number ≡ 0
  pub bound : IsGoingOn r.stage → r.number + (length r.records.position.carried + r.records.position.allowed) ≤ 2 ^ 63
