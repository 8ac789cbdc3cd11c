-- What a SELECT shows: a block, or why there is none.
use Rattle.std.specs.Prelude.{ℕ, nat_lt, List, [], ◌∷◌, map, length, Option, Some, None, if◌then◌else◌}
use Rattle.std.specs.List.{sum}
use Rattle.ooc_types.specs.declared.schema.Column.{Column}
use Rattle.sql_expr.specs.declared.fault.ValueFault.{ValueFault}
use Rattle.bound_tree.specs.declared.select.Cut.{Cut}
use Rattle.bound_tree.specs.declared.select.BoundSelect.{BoundSelect}
use Rattle.bound_tree.specs.declared.select.BoundRows.TheViews.{out-BoundSelect}
use Rattle.result_print.specs.Printed.{row_text, block_text}
use Rattle.sql_meaning.specs.Found.{Found, Row}
use Rattle.sql_meaning.specs.Select.{counted_rows}
use Rattle.sql_meaning.specs.Statements.{Tables, cut_of, rows_meaning, select_meaning}
use Rattle.script_says.specs.Block.{Block, Exactly, InAnyOrder}

-- the bytes that the lines of a result may have
abbrev pub most_result : ℕ
most_result = 268435456

-- the bytes of the lines of these rows
abbrev pub lines_length : List Row → ℕ
lines_length rows = sum (map (λ row. length (row_text row)) rows)

pub data Shown : Type 0 where
  Shows : (block : Block) → Shown
  -- these faults were noted, of which there is one
  Faulted : (faults : List ValueFault) → Shown
  -- its lines are too many bytes
  TooLarge : Shown

-- Under ORDER BY, LIMIT or OFFSET the rows have one order; else any.
abbrev pub block_of : Option Cut → List Column → List Row → Block
block_of None columns rows = InAnyOrder columns rows
block_of (Some cut) columns rows = Exactly (block_text columns rows)

-- `counted` are the rows whose lines count
abbrev pub shown_rows : Option Cut → List Column → List Row → Found Row → Shown
shown_rows cut columns counted found = if nat_lt most_result (lines_length counted) then TooLarge else Shows (block_of cut columns found.rows)

abbrev pub shown_of : Option Cut → List Column → List Row → Found Row → List ValueFault → Shown
shown_of cut columns counted found [] = shown_rows cut columns counted found
shown_of cut columns counted found (fault ∷ faults) = Faulted (fault ∷ faults)

-- What a SELECT shows of these tables: the faults that its meaning notes go before the size of its result.
abbrev pub shown : Tables → BoundSelect → Shown
shown tables select =
    shown_of (out-BoundSelect select).cut (out-BoundSelect select).columns
    (counted_rows (cut_of (out-BoundSelect select).cut) (rows_meaning tables (out-BoundSelect select).rows))
    (select_meaning tables select) (select_meaning tables select).faults
