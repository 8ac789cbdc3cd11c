-- What a scan answers, and the causes.
use Rattle.std.specs.Prelude.{◌≡◌, ◌≢◌, ℕ, nat_lt, Bool, true, false, List, [], ◌∷◌, ◌++◌, length, Option, Some, None, Result, Ok, Err, Vec, Contains, map, take, unwrap_or, ⊤}
use Rattle.ooc_types.specs.declared.schema.Column.{Column}
use Rattle.page_body.specs.Refusals.{CallFails}
use Rattle.page_body.specs.declared.fault.PoolFault.{PoolFault}
use Rattle.page_body.specs.declared.fault.PoolFault.TheVariants as pool
use Rattle.sql_expr.specs.declared.fault.EvalFault.{EvalFault}
use Rattle.sql_expr.specs.declared.fault.EvalFault.TheVariants as eval
use Rattle.sql_expr.specs.declared.fault.ValueFault.{ValueFault}
use Rattle.bound_tree.specs.declared.select.Cut.{Cut}
use Rattle.result_print.specs.Printed.{block_text}
use Rattle.sql_meaning.specs.Found.{Row}
use Rattle.sql_meaning.specs.Judged.{Condition, kept}
use Rattle.sql_meaning.specs.Ordered.{row_cmp, sorted}
use Rattle.sql_meaning.specs.Select.{perhaps_cut}
use Rattle.sql_meaning.specs.Statements.{cut_of, key_of}
use Rattle.script_says.specs.Block.{IsPrinted}
use Rattle.script_says.specs.Selecting.{Shown, Shows, Faulted, TooLarge, lines_length, most_result}
use Rattle.table_scan.specs.declared.fault.SelectFault.{SelectFault}
use Rattle.table_scan.specs.declared.fault.SelectFault.TheVariants as fault
use Rattle.table_scan.specs.Sink.{Sink}

abbrev pub pool_fault : PoolFault → SelectFault
pool_fault pool.Spill = fault.Pool pool.Spill
pool_fault (pool.Damaged damage) = fault.Pool (pool.Damaged damage)
pool_fault pool.OutOfMemory = fault.OutOfMemory

abbrev pub value_fault : EvalFault → SelectFault
value_fault (eval.Fault value) = fault.Value value
value_fault eval.OutOfMemory = fault.OutOfMemory

-- one of the pool comes only where its cause stands; want of memory is told as such
abbrev pub HasCause : Bool → ℕ → ℕ → SelectFault → Type 0
HasCause told before now (fault.Value value) = ⊤
HasCause told before now fault.TooLarge = ⊤
HasCause told before now (fault.Pool why) = (why ≢ pool.OutOfMemory) × CallFails told before now why
HasCause told before now fault.OutOfMemory = ⊤

-- what is meant to be shown, one of the faults that were noted, or want of a frame or of memory
abbrev pub IsShown : {A : Type 0} → Shown → Result (Vec ℕ A) SelectFault → Type 0
IsShown shown (Err (fault.Pool why)) = ⊤
IsShown shown (Err fault.OutOfMemory) = ⊤
IsShown (Shows block) (Err (fault.Value value)) = ⊥
IsShown (Faulted faults) (Err (fault.Value value)) = Contains faults value
IsShown TooLarge (Err (fault.Value value)) = ⊥
IsShown (Shows block) (Err fault.TooLarge) = ⊥
IsShown (Faulted faults) (Err fault.TooLarge) = ⊥
IsShown TooLarge (Err fault.TooLarge) = ⊤
IsShown (Shows block) (Ok text) = IsPrinted block text.items
IsShown (Faulted faults) (Ok text) = ⊥
IsShown TooLarge (Ok text) = ⊥

-- conditions over these rows have the fault
abbrev pub IsNoted : List Condition → List Row → SelectFault → Type 0
IsNoted conditions rows (fault.Value value) = Contains (kept conditions rows).faults value
IsNoted conditions rows fault.TooLarge = ⊥
IsNoted conditions rows (fault.Pool why) = ⊤
IsNoted conditions rows fault.OutOfMemory = ⊤

-- a text with its empty line, or it is too long
abbrev pub Ends : {A : Type 0} → ℕ → List ℕ → Result (Vec ℕ A) SelectFault → Type 0
Ends limit text (Err (fault.Value value)) = ⊥
Ends limit text (Err fault.TooLarge) = nat_lt limit (length text) ≡ true
Ends limit text (Err (fault.Pool why)) = ⊥
Ends limit text (Err fault.OutOfMemory) = ⊤
Ends limit text (Ok whole) = (nat_lt limit (length text) ≡ false) × (whole.items ≡ text ++ 10 ∷ [])

-- rows with their header, or their lines and those of the rows before them are too many bytes
abbrev pub ShowsPart : {A : Type 0} → List Column → List Row → List Row → Result (Vec ℕ A) SelectFault → Type 0
ShowsPart columns skipped rows (Err (fault.Value value)) = ⊥
ShowsPart columns skipped rows (Err fault.TooLarge) = nat_lt most_result (lines_length (skipped ++ rows)) ≡ true
ShowsPart columns skipped rows (Err (fault.Pool why)) = ⊥
ShowsPart columns skipped rows (Err fault.OutOfMemory) = ⊤
ShowsPart columns skipped rows (Ok whole) = (nat_lt most_result (lines_length (skipped ++ rows)) ≡ false) × (whole.items ≡ block_text columns rows)

-- of rows in order those that are left, or the lines of those that count are too many bytes
abbrev pub ShowsCut : {A : Type 0} → List Column → Cut → List Row → Result (Vec ℕ A) SelectFault → Type 0
ShowsCut columns cut rows result = ShowsPart columns (take (unwrap_or cut.offset 0) (sorted (row_cmp (map key_of cut.keys)) rows)) (perhaps_cut (cut_of (Some cut)) rows) result

-- the end of a scan: the first fault of an item, or what the rows show
abbrev pub EndsPart : {A : Type 0} → List Column → Option Cut → Sink → Result (Vec ℕ A) SelectFault → Type 0
EndsPart columns None sink result = Ends sink.limit sink.text result
EndsPart columns (Some cut) sink result = ShowsCut columns cut sink.rows result

abbrev pub IsFault : {A : Type 0} → ValueFault → Result (Vec ℕ A) SelectFault → Type 0
IsFault value result = result ≡ Err (fault.Value value)

abbrev pub EndsScan : {A : Type 0} → List Column → Option Cut → Option ValueFault → Sink → Result (Vec ℕ A) SelectFault → Type 0
EndsScan columns cut None sink result = EndsPart columns cut sink result
EndsScan columns cut (Some value) sink result = IsFault value result

-- the line of these columns, the lines of some rows, and an empty line
abbrev pub IsBlockOf : List Column → List ℕ → Type 0
IsBlockOf columns text = (rows : List Row) × (text ≡ block_text columns rows)
