-- What a core shows over rows.
use Rattle.std.specs.Prelude.{ℕ, List, map, Option, Result, Vec}
use Rattle.ooc_types.specs.declared.schema.Column.{Column}
use Rattle.bound_tree.specs.declared.select.Cut.{Cut}
use Rattle.bound_tree.specs.declared.select.BoundCore.{BoundCore}
use Rattle.bound_tree.specs.declared.select.BoundRows.TheViews.{out-BoundCore}
use Rattle.sql_meaning.specs.Found.{Found, Row, clean, if_clean}
use Rattle.sql_meaning.specs.Judged.{Condition, RowValue, kept}
use Rattle.sql_meaning.specs.Select.{counted_rows, cut_found, projected}
use Rattle.sql_meaning.specs.Statements.{condition_of, cut_of, row_value_of}
use Rattle.script_says.specs.Selecting.{Shown, shown_of}
use Rattle.table_scan.specs.declared.fault.SelectFault.{SelectFault}
use Rattle.table_scan.specs.Outcomes.{IsShown}
use Rattle.table_scan.specs.Scan.{conditions_among}

-- the rows that the conditions keep, and the items over each; where a fault was noted there are none
abbrev pub scanned : List Condition → List RowValue → List Row → Found Row
scanned conditions items rows = if_clean (if_clean (kept conditions rows) (projected items)) clean

abbrev pub shown_found : Option Cut → List Column → Found Row → Shown
shown_found cut columns found = shown_of cut columns (counted_rows (cut_of cut) found) (cut_found (cut_of cut) found) (cut_found (cut_of cut) found).faults

abbrev pub core_scanned : BoundCore → List Row → Found Row
core_scanned core rows = scanned (map condition_of (conditions_among (out-BoundCore core).conjuncts)) (map row_value_of (out-BoundCore core).items) rows

abbrev pub ShowsSets : {A : Type 0} → BoundCore → List Column → Option Cut → List Row → Result (Vec ℕ A) SelectFault → Type 0
ShowsSets core columns cut rows result = IsShown (shown_found cut columns (core_scanned core rows)) result
