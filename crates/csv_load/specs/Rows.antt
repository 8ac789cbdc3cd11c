-- The rows of a file.
use Rattle.std.specs.Prelude.{ℕ, ◌+◌, ◌==◌, Bool, true, false, if◌then◌else◌, nat_lt, Option, Some, None, Result, Ok, Err, List, [], ◌∷◌, length}
use Rattle.ooc_types.specs.declared.value.Value.{Value}
use Rattle.ooc_types.specs.declared.schema.Column.{Column}
use Rattle.ooc_types.specs.declared.refusal.RefusalKind.{RefusalKind}
use Rattle.ooc_types.specs.declared.refusal.RefusalKind.TheVariants.{FileTooLong, RecordTooLong, OpenQuote, FieldCount}
use Rattle.csv_records.specs.Limits.{record_limit}
use Rattle.csv_records.specs.Table.{ends_quoted}
use Rattle.csv_records.specs.Fields.{fields}
use Rattle.csv_records.specs.Files.{Records, file_records}
use Rattle.csv_load.specs.declared.options.CsvOptions.{CsvOptions}
use Rattle.csv_load.specs.declared.fault.Refusal.{Refusal}
use Rattle.csv_load.specs.declared.fault.Reason.{Reason}
use Rattle.csv_load.specs.Values.{field_value}

-- how rows are made of records: the columns, the byte between fields, the NULL text, and the most bytes of a text
pub record Reading : Type 0 where
  pub columns : List Column
  pub delimiter : ℕ
  pub null : List ℕ
  pub limit : ℕ

abbrev pub reason : ℕ → RefusalKind → Reason
reason column kind = record { column = column; kind = kind }

-- one value in front of the others
abbrev pub with_value : Value → Result (List Value) Reason → Result (List Value) Reason
with_value value (Err why) = Err why
with_value value (Ok values) = Ok (value ∷ values)

-- column by column, of which the first has this number
unfoldable pub column_values : Reading → List Column → ℕ → List (List ℕ) → Result (List Value) Reason
column_values r [] n parts = Ok []
column_values r (column ∷ columns) n [] = Ok []
column_values r (column ∷ columns) n (field ∷ parts) = elim (field_value r.limit r.null column field) [
  | Err kind ↦ Err (reason n kind)
  | Ok value ↦ with_value value (column_values r columns (n + 1) parts)
]

-- as many fields as columns, and then column by column
unfoldable pub row_of_fields : Reading → List (List ℕ) → Result (List Value) Reason
row_of_fields r parts = if length parts == length r.columns then column_values r r.columns 1 parts else Err (reason 0 FieldCount)

-- why no fields are read: too many bytes, or a quote without its end
unfoldable pub record_reason : ℕ → List ℕ → Option Reason
record_reason d bytes =
    if nat_lt record_limit (length bytes) then Some (reason 0 RecordTooLong)
    else if ends_quoted d bytes then Some (reason (length (fields d bytes)) OpenQuote)
    else None

-- the row of a record, or the first reason why it is refused
unfoldable pub row_of : Reading → List ℕ → Result (List Value) Reason
row_of r bytes = elim (record_reason r.delimiter bytes) [ Some why ↦ Err why | None ↦ row_of_fields r (fields r.delimiter bytes) ]

abbrev pub refusal : ℕ → Reason → Refusal
refusal number why = record { number = number; column = why.column; kind = why.kind }

-- the rows of records, of which the first has this number, and at the end the refusal, if there is one
unfoldable pub rows_from : Reading → ℕ → Bool → List (List ℕ) → List (Result (List Value) Refusal)
rows_from r n too_long [] = if too_long then Err (refusal n (reason 0 FileTooLong)) ∷ [] else []
rows_from r n too_long (bytes ∷ records) = elim (row_of r bytes) [ Err why ↦ Err (refusal n why) ∷ [] | Ok row ↦ Ok row ∷ rows_from r (n + 1) too_long records ]

-- the same where the first record is the header, which has the number 0 and no row
unfoldable pub rows_behind_header : Reading → Bool → List (List ℕ) → List (Result (List Value) Refusal)
rows_behind_header r too_long [] = rows_from r 0 too_long []
rows_behind_header r too_long (bytes ∷ records) = elim (record_reason r.delimiter bytes) [ Some why ↦ Err (refusal 0 why) ∷ [] | None ↦ rows_from r 1 too_long records ]

abbrev pub rows_of : Reading → Bool → Records → List (Result (List Value) Refusal)
rows_of r true all = rows_behind_header r all.too_long all.records
rows_of r false all = rows_from r 1 all.too_long all.records

abbrev pub reading_of : List Column → CsvOptions → ℕ → Reading
reading_of columns options limit = record { columns = columns; delimiter = options.delimiter; null = options.null; limit = limit }

-- the rows of a file one after the other, and at the end the refusal, if there is one
abbrev pub rows_given : List Column → CsvOptions → ℕ → List ℕ → List (Result (List Value) Refusal)
rows_given columns options limit bytes = rows_of (reading_of columns options limit) options.header (file_records options.delimiter bytes)

-- all rows, or the refusal
abbrev pub gathered : List (Result (List Value) Refusal) → Result (List (List Value)) Refusal
gathered [] = Ok []
gathered (Err refused ∷ given) = Err refused
gathered (Ok row ∷ given) = elim (gathered given) [ Err refused ↦ Err refused | Ok rows ↦ Ok (row ∷ rows) ]

-- the rows of a file, or its refusal
abbrev pub file_rows : List Column → CsvOptions → ℕ → List ℕ → Result (List (List Value)) Refusal
file_rows columns options limit bytes = gathered (rows_given columns options limit bytes)
