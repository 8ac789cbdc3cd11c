-- What a scan answers, behind its last row or at a fault.
use Rattle.std.proofs.Common.{◌≡◌, ℕ, ◌+◌, Bool, true, false, true≢false, cond, List, [], ◌∷◌, length, sym, ap, subst, ◌∙◌}
use Rattle.std.specs.Prelude.{Option, Some, None, Result, Ok, Err, Vec, Contains, is_some, map, nat_lt, IfErr, IfOk}
use Rattle.ooc_types.specs.declared.schema.Column.{Column}
use Rattle.sql_expr.specs.declared.fault.ValueFault.{ValueFault}
use Rattle.bound_tree.specs.declared.select.Cut.{Cut}
use Rattle.bound_tree.specs.declared.select.BoundCore.{BoundCore}
use Rattle.bound_tree.specs.declared.select.BoundRows.TheViews.{out-BoundCore}
use Rattle.result_print.specs.Printed.{header_text}
use Rattle.sql_meaning.specs.Found.{Found, Row, clean, if_clean}
use Rattle.sql_meaning.specs.Judged.{Condition, RowValue, kept}
use Rattle.sql_meaning.specs.Select.{projected}
use Rattle.sql_meaning.specs.Statements.{condition_of, row_value_of}
use Rattle.script_says.specs.Selecting.{Shown, Shows, TooLarge, block_of, lines_length, most_result, shown_of}
use Rattle.table_scan.specs.declared.fault.SelectFault.{SelectFault}
use Rattle.table_scan.specs.declared.fault.SelectFault.TheVariants as fault
use Rattle.table_scan.specs.Outcomes.{Ends, EndsPart, EndsScan, HasCause, IsBlockOf, IsNoted, IsShown, ShowsCut}
use Rattle.table_scan.specs.Scan.{conditions_among}
use Rattle.table_scan.specs.Sets.{ShowsSets, scanned, shown_found}
use Rattle.table_scan.specs.Sink.{Sink, take_all}
use Rattle.table_scan.proofs.Parting.{cut-shown}
use Rattle.table_scan.proofs.Printing.{ends-shown}
use Rattle.table_scan.proofs.Scanning.{fault-shown}
use Rattle.table_scan.proofs.Summing.{HasMade, HasRows, Sums, clean-faults, scan-clean, scan-faults, sums-all, sums-none}

pub no-memory : (A : Type 0) (shown : Shown) → IsShown {A = A} shown (Err fault.OutOfMemory)
no-memory A shown = tt

-- a fault in the middle
pub scan-fails : (A : Type 0) (cut : Option Cut) (columns : List Column) (conditions : List Condition) (items : List RowValue) (rows : List Row) (why : SelectFault) → IsNoted conditions rows why
    → IsShown {A = A} (shown_found cut columns (scanned conditions items rows)) (Err why)
scan-fails A cut columns conditions items rows (fault.Value value) noted = fault-shown A cut columns (scanned conditions items rows) value (scan-faults conditions items rows value noted)
scan-fails A cut columns conditions items rows fault.TooLarge noted = absurd noted
scan-fails A cut columns conditions items rows (fault.Pool why) noted = tt
scan-fails A cut columns conditions items rows fault.OutOfMemory noted = tt

-- the rows that were made
made-shown : (A : Type 0) (columns : List Column) (cut : Option Cut) (orders : Bool) (made : List Row) (now : Sink) (result : Result (Vec ℕ A) SelectFault) → orders ≡ is_some cut
    → now.limit ≡ length (header_text columns) + most_result → HasRows orders (length (header_text columns) + most_result) (header_text columns) made now → EndsPart columns cut now result
    → IsShown (shown_found cut columns (clean made)) result
made-shown A columns None true made now result ordered room has ends = absurd (true≢false ordered)
made-shown A columns None false made now result ordered room has ends = ends-shown columns made now.text result has (subst (λ (n : ℕ). Ends n now.text result) room ends)
made-shown A columns (Some cut) false made now result ordered room has ends = absurd (true≢false (sym ordered))
made-shown A columns (Some cut) true made now result ordered room has ends = cut-shown columns cut made result (subst (λ (l : List Row). ShowsCut columns cut l result) has ends)

module _ (A : Type 0) (columns : List Column) (cut : Option Cut) (conditions : List Condition) (items : List RowValue) (rows : List Row) (orders : Bool) (now : Sink) (result : Result (Vec ℕ A) SelectFault)
    (ordered : orders ≡ is_some cut) (none : (kept conditions rows).faults ≡ []) (room : now.limit ≡ length (header_text columns) + most_result) where
  by-fault : (o : Option ValueFault) → HasMade items orders (length (header_text columns) + most_result) (header_text columns) (kept conditions rows).rows o now → EndsScan columns cut o now result
      → IsShown (shown_found cut columns (scanned conditions items rows)) result
  by-fault None has ends =
      let found = scan-clean conditions items rows none ∙ ap (λ (f : Found Row). if_clean f clean) has.1 in
      subst (λ (f : Found Row). IsShown (shown_found cut columns f) result) (sym found) (made-shown A columns cut orders has.0 now result ordered room has.2 ends)
  by-fault (Some value) has ends =
      let faults = ap (λ (f : Found Row). f.faults) (scan-clean conditions items rows none) ∙ clean-faults (projected items (kept conditions rows).rows) in
      subst (λ (r : Result (Vec ℕ A) SelectFault). IsShown (shown_found cut columns (scanned conditions items rows)) r) (sym ends)
      (fault-shown A cut columns (scanned conditions items rows) value (subst (λ (fs : List ValueFault). Contains fs value) (sym faults) has))

-- behind the last row
pub scan-ends : (A : Type 0) (columns : List Column) (cut : Option Cut) (conditions : List Condition) (items : List RowValue) (rows : List Row) (orders : Bool) (start now : Sink) (result : Result (Vec ℕ A) SelectFault)
    → orders ≡ is_some cut → start ≡ record { fault = None; orders = orders; rows = []; text = header_text columns; limit = length (header_text columns) + most_result }
    → now ≡ take_all conditions items rows start → (kept conditions rows).faults ≡ [] → EndsScan columns cut now.fault now result
    → IsShown (shown_found cut columns (scanned conditions items rows)) result
scan-ends A columns cut conditions items rows orders start now result ordered begins taken none ends =
    let limit = length (header_text columns) + most_result in
    let header = header_text columns in
    let first = subst (Sums items orders limit header []) (sym begins) (sums-none items orders limit header) in
    let sums = subst (Sums items orders limit header (kept conditions rows).rows) (sym taken) (sums-all items limit header orders conditions [] rows start none first) in
    by-fault A columns cut conditions items rows orders now result ordered none sums.limit_is now.fault sums.made ends

-- ---- no end has a fault of the pool

part-cause : (A : Type 0) (told : Bool) (before now : ℕ) (columns : List Column) (cut : Option Cut) (sink : Sink) (why : SelectFault) → EndsPart {A = A} columns cut sink (Err why) → HasCause told before now why
part-cause A told before now columns cut sink (fault.Value value) ends = tt
part-cause A told before now columns cut sink fault.TooLarge ends = tt
part-cause A told before now columns None sink (fault.Pool why) ends = absurd ends
part-cause A told before now columns (Some cut) sink (fault.Pool why) ends = absurd ends
part-cause A told before now columns cut sink fault.OutOfMemory ends = tt

pub ends-cause : (A : Type 0) (told : Bool) (before now : ℕ) (columns : List Column) (cut : Option Cut) (noted : Option ValueFault) (sink : Sink) (result : Result (Vec ℕ A) SelectFault)
    → EndsScan columns cut noted sink result → IfErr result (HasCause told before now)
ends-cause A told before now columns cut None sink (Ok whole) ends = tt
ends-cause A told before now columns cut None sink (Err why) ends = part-cause A told before now columns cut sink why ends
ends-cause A told before now columns cut (Some value) sink result ends = subst (λ (r : Result (Vec ℕ A) SelectFault). IfErr r (HasCause told before now)) (sym ends) tt

-- ---- the core of a SELECT

pub core-shown : (A : Type 0) (core : BoundCore) (columns : List Column) (cut : Option Cut) (conditions : List Condition) (items : List RowValue) (rows : List Row) (result : Result (Vec ℕ A) SelectFault)
    → conditions ≡ map condition_of (conditions_among (out-BoundCore core).conjuncts) → items ≡ map row_value_of (out-BoundCore core).items
    → IsShown (shown_found cut columns (scanned conditions items rows)) result → ShowsSets core columns cut rows result
core-shown A core columns cut conditions items rows result conditions_are items_are shows =
    subst (λ (is : List RowValue). IsShown (shown_found cut columns (scanned (map condition_of (conditions_among (out-BoundCore core).conjuncts)) is rows)) result) items_are
    (subst (λ (cs : List Condition). IsShown (shown_found cut columns (scanned cs items rows)) result) conditions_are shows)

-- ---- what is shown is a block

pub shown-block : (A : Type 0) (columns : List Column) (cut : Option Cut) (counted : List Row) (found : Found Row) (faults : List ValueFault) (result : Result (Vec ℕ A) SelectFault)
    → IsShown (shown_of cut columns counted found faults) result → IfOk result (λ text. IsBlockOf columns text.items)
shown-block A columns cut counted found faults (Err why) shows = tt
shown-block A columns cut counted found (value ∷ faults) (Ok text) shows = absurd shows
shown-block A columns cut counted found [] (Ok text) shows = sized (nat_lt most_result (lines_length counted)) shows
  where
    ordered : (c : Option Cut) → IsShown {A = A} (Shows (block_of c columns found.rows)) (Ok text) → IsBlockOf columns text.items
    ordered None printed = (printed.0, printed.2)
    ordered (Some cut) printed = (found.rows, printed)

    sized : (b : Bool) → IsShown {A = A} (cond b TooLarge (Shows (block_of cut columns found.rows))) (Ok text) → IsBlockOf columns text.items
    sized true printed = absurd printed
    sized false printed = ordered cut printed
