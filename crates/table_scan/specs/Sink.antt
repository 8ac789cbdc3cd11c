-- What came of the rows so far: rows that are to be ordered, or lines that were printed.
use Rattle.std.specs.Prelude.{ℕ, nat_lt, Bool, true, false, if◌then◌else◌, List, [], ◌∷◌, ◌++◌, map, length, Option, Some, None, Result, Ok, Err}
use Rattle.sql_expr.specs.declared.fault.ValueFault.{ValueFault}
use Rattle.result_print.specs.Printed.{row_text}
use Rattle.sql_meaning.specs.Found.{Row}
use Rattle.sql_meaning.specs.Groups.{values}
use Rattle.sql_meaning.specs.Judged.{Condition, RowValue, Verdict, judged, plain_first}
use Rattle.sql_meaning.specs.Statements.{row_value_of}
use Rattle.plain_rows.specs.Tests.{condition_in}
use Rattle.table_scan.specs.declared.reading.Reading.{Reading}
use Rattle.table_scan.specs.declared.taken.Taken.{Taken}

pub record Sink : Type 0 where
  -- the first fault of an item
  pub fault : Option ValueFault
  -- the rows are to be ordered or cut
  pub orders : Bool
  pub rows : List Row
  pub text : List ℕ
  -- how long the text may be
  pub limit : ℕ

abbrev pub sink_of : Taken → Sink
sink_of taken = record { fault = taken.fault; orders = taken.orders; rows = taken.rows.items; text = taken.text.items; limit = taken.limit }

-- a line behind a text, once it isn't too long yet
abbrev pub line_behind : ℕ → List ℕ → Row → List ℕ
line_behind limit text row = if nat_lt limit (length text) then text else text ++ row_text row

abbrev pub lines_behind : ℕ → List ℕ → List Row → List ℕ
lines_behind limit text [] = text
lines_behind limit text (row ∷ rows) = lines_behind limit (line_behind limit text row) rows

-- one row more, kept or printed
abbrev pub put_row : Bool → Row → Sink → Sink
put_row true row sink = record { fault = sink.fault; orders = sink.orders; rows = sink.rows ++ row ∷ []; text = sink.text; limit = sink.limit }
put_row false row sink = record { fault = sink.fault; orders = sink.orders; rows = sink.rows; text = line_behind sink.limit sink.text row; limit = sink.limit }

abbrev pub with_row : Row → Sink → Sink
with_row row sink = put_row sink.orders row sink

abbrev pub with_fault : ValueFault → Sink → Sink
with_fault fault sink = record { fault = Some fault; orders = sink.orders; rows = sink.rows; text = sink.text; limit = sink.limit }

-- the items of a row
abbrev pub with_values : Result Row ValueFault → Sink → Sink
with_values (Err fault) sink = with_fault fault sink
with_values (Ok row) sink = with_row row sink

-- behind a fault no items are taken
abbrev pub unless_noted : Option ValueFault → Result Row ValueFault → Sink → Sink
unless_noted None found sink = with_values found sink
unless_noted (Some fault) found sink = sink

abbrev pub with_verdict : Verdict → Result Row ValueFault → Sink → Sink
with_verdict (Err fault) found sink = sink
with_verdict (Ok false) found sink = sink
with_verdict (Ok true) found sink = unless_noted sink.fault found sink

-- one row of the table more
abbrev pub take_one : List Condition → List RowValue → Row → Sink → Sink
take_one conditions items row sink = with_verdict (judged (plain_first conditions) row) (values items row) sink

abbrev pub take_all : List Condition → List RowValue → List Row → Sink → Sink
take_all conditions items [] sink = sink
take_all conditions items (row ∷ rows) sink = take_all conditions items rows (take_one conditions items row sink)

-- ---- what is read of each row

abbrev pub conditions_in : Reading → List Condition
conditions_in reading = map condition_in reading.tests.items

abbrev pub items_in : Reading → List RowValue
items_in reading = map row_value_of reading.items.now
