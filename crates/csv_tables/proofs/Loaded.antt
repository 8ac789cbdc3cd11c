-- What was loaded is what is meant.
use Rattle.std.proofs.Common.{◌≡◌, ◌≢◌, ◌≤◌, ℕ, Bool, true, false, Option, Some, None, List, [], ◌∷◌, ◌++◌, length, map, refl, sym, ap, subst, ◌∙◌, arith}
use Rattle.std.specs.Prelude.{Result, Ok, Err, IfSome, if◌then◌else◌}
use Rattle.std.specs.FinMap.{get}
use Rattle.ooc_io.specs.Held.{Held}
use Rattle.ooc_io.specs.Counts.{raised}
use Rattle.ooc_io.specs.Opens.{Opens}
use Rattle.ooc_types.specs.declared.value.Value.{Value}
use Rattle.ooc_types.specs.declared.schema.Column.{Column}
use Rattle.ooc_types.specs.declared.schema.SqlType.{SqlType}
use Rattle.ooc_types.specs.Meets.{IsOf}
use Rattle.row_image.specs.declared.layout.CellKind.{CellKind}
use Rattle.row_image.specs.declared.layout.CellKind.TheVariants.{Bit, Four, Eight, Sixteen, Text}
use Rattle.row_image.specs.Texts.{CellValue, ValueRow}
use Rattle.page_body.specs.View.{PoolTerms}
use Rattle.page_body.specs.declared.fault.PoolFault.TheVariants as pool
use Rattle.rebase_pins.specs.Fits.{RowFits}
use Rattle.row_sets.specs.Cells.{text_columns}
use Rattle.row_sets.specs.SetRows.{cell_kinds, row_as, kept_as}
use Rattle.row_sets.specs.Sets.{set_cells, set_rows}
use Rattle.row_sets.specs.declared.row_set.RowSet.{RowSet}
use Rattle.csv_records.specs.Limits.{file_limit}
use Rattle.csv_records.specs.Ahead.{start_within}
use Rattle.csv_records.specs.Files.{file_records}
use Rattle.csv_records.proofs.WholeFiles.{whole-file}
use Rattle.csv_load.specs.declared.options.CsvOptions.{CsvOptions}
use Rattle.csv_load.specs.declared.stage.Stage.TheVariants.{Header, Rows, Failed}
use Rattle.csv_load.specs.Rows.{reading_of, rows_of, rows_given, gathered, file_rows}
use Rattle.csv_load.specs.Ahead.{Given, RowReader, given_at, told_rows}
use Rattle.csv_tables.specs.declared.fault.LoadFault.{LoadFault}
use Rattle.csv_tables.specs.declared.fault.LoadFault.TheVariants as load
use Rattle.csv_tables.specs.Faults.{HasLoadCause}
use Rattle.csv_tables.specs.Stored.{kinds_of, stored, kept_row}
use Rattle.csv_tables.specs.Adds.{AddsAll, IsRefused}
use Rattle.csv_tables.specs.Loading.{named_rows, Loads, IsTable}
use Rattle.csv_tables.proofs.RowForms.{row-fits, rows-back}

-- the cells of a row of a table fit a writer of its columns
pub cells-fit : (layout : List CellKind) (kinds : List SqlType) (columns : List Column) (limit most : ℕ) (cells : List CellValue) (row : List Value)
    → layout ≡ cell_kinds kinds → kinds ≡ kinds_of columns → limit ≡ most → cells ≡ map kept_as row → IsOf limit columns row → RowFits layout most cells
cells-fit layout kinds columns limit most cells row of_layout of_kinds same kept is =
    subst (λ l. RowFits l most cells) (sym (of_layout ∙ ap cell_kinds of_kinds))
    (subst (λ m. RowFits (cell_kinds (kinds_of columns)) m cells) same
    (subst (λ cs. RowFits (cell_kinds (kinds_of columns)) limit cs) (sym kept) (row-fits limit (kinds_of columns) row is.0)))

-- the rows of a set that has all of what is known
set-stores : {Page Pin : Type 0} (t : PoolTerms Page Pin) (limit : ℕ) (columns : List Column) (given : Option Given) (before now : List ValueRow) (set : RowSet Page)
    → (a : AddsAll limit columns given before now) → before ≡ [] → set_cells t set ≡ now → set.kinds ≡ kinds_of columns → set_rows t set ≡ stored a.rows
set-stores t limit columns given before now set a empty cells kinds =
    ap (λ k. map (row_as k) (set_cells t set)) kinds
    ∙ ap (map (row_as (kinds_of columns))) (cells ∙ a.added ∙ ap (λ l. l ++ map kept_row a.rows) empty)
    ∙ rows-back limit columns a.rows a.of

pub set-loads : {Page Pin : Type 0} (t : PoolTerms Page Pin) (limit : ℕ) (columns : List Column) (given : Option Given) (before now : List ValueRow) (set : RowSet Page)
    → AddsAll limit columns given before now → before ≡ [] → set_cells t set ≡ now → set.kinds ≡ kinds_of columns → IfSome given (λ known. Loads t (gathered known) (Ok set))
set-loads t limit columns None before now set a empty cells kinds = tt
set-loads t limit columns (Some known) before now set a empty cells kinds = (a.rows, a.all, set-stores t limit columns (Some known) before now set a empty cells kinds)

pub set-table : {Page Pin : Type 0} (t : PoolTerms Page Pin) (limit : ℕ) (columns : List Column) (given : Option Given) (before now : List ValueRow) (set : RowSet Page)
    → AddsAll limit columns given before now → before ≡ [] → set_cells t set ≡ now → set.kinds ≡ kinds_of columns → IsTable t limit columns set
set-table t limit columns given before now set a empty cells kinds = record { rows = a.rows; stores = set-stores t limit columns given before now set a empty cells kinds; of = a.of }

-- a fault
pub memory-loads : {Page Pin : Type 0} (t : PoolTerms Page Pin) (given : Option Given) → IfSome given (λ known. Loads t (gathered known) (Err load.OutOfMemory))
memory-loads t None = tt
memory-loads t (Some known) = tt

pub fault-loads : {Page Pin : Type 0} (t : PoolTerms Page Pin) (given : Option Given) (fault : LoadFault) → IsRefused given fault → IfSome given (λ known. Loads t (gathered known) (Err fault))
fault-loads t None fault h = tt
fault-loads t (Some known) (load.Refused why) h = h
fault-loads t (Some known) load.Read h = tt
fault-loads t (Some known) (load.Pool fault) h = tt
fault-loads t (Some known) load.OutOfMemory h = tt

pub cause-later : (f g k m n : ℕ) (fault : LoadFault) → m ≤ n → HasLoadCause f g k m fault → HasLoadCause f g k n fault
cause-later f g k m n (load.Refused why) more h = tt
cause-later f g k m n load.Read more h = h
cause-later f g k m n (load.Pool pool.Spill) more h = let low : raised k ≤ m = h in omega (arith, low, more)
cause-later f g k m n (load.Pool (pool.Damaged damage)) more h = absurd h
cause-later f g k m n (load.Pool pool.OutOfMemory) more h = tt
cause-later f g k m n load.OutOfMemory more h = tt

-- a new reader
pub stage-goes : (header : Bool) → (if header then Header else Rows) ≢ Failed
stage-goes true e = cc e
stage-goes false e = cc e

-- as the reader of a file of which no byte was taken
abbrev pub start_of : List Column → CsvOptions → ℕ → RowReader
start_of columns options limit = record {
  reading = reading_of columns options limit;
  stage = if options.header then Header else Rows;
  number = 0;
  position = start_within file_limit;
  current = [];
  found = false;
}

given-whole : (columns : List Column) (options : CsvOptions) (limit : ℕ) (bytes : List ℕ) → told_rows (start_of columns options limit) (Some bytes) ≡ Some (rows_given columns options limit bytes)
given-whole columns options limit bytes =
    ap (λ all. Some (given_at (if options.header then Header else Rows) (reading_of columns options limit) 0 all)) (whole-file file_limit options.delimiter bytes)
    ∙ ap Some (by options.header)
  where
    by : (header : Bool) → given_at (if header then Header else Rows) (reading_of columns options limit) 0 (file_records options.delimiter bytes) ≡ rows_of (reading_of columns options limit) header (file_records options.delimiter bytes)
    by true = refl
    by false = refl

pub whole-loads : {Page Pin : Type 0} (t : PoolTerms Page Pin) (columns : List Column) (options : CsvOptions) (limit : ℕ) (s : RowReader) (left : Option (List ℕ)) (result : Result (RowSet Page) LoadFault)
    → s ≡ start_of columns options limit → IfSome (told_rows s left) (λ known. Loads t (gathered known) result) → IfSome left (λ bytes. Loads t (file_rows columns options limit bytes) result)
whole-loads t columns options limit s None result is h = tt
whole-loads t columns options limit s (Some bytes) result is h =
    subst (λ o. IfSome o (λ known. Loads t (gathered known) result)) (ap (λ (r : RowReader). told_rows r (Some bytes)) is ∙ given-whole columns options limit bytes) h

-- an opened file
pub open-loads : {Page Pin : Type 0} (t : PoolTerms Page Pin) (columns : List Column) (options : CsvOptions) (limit : ℕ) (name : List ℕ) (held : Option Held) (left : Option (List ℕ)) (result : Result (RowSet Page) LoadFault)
    → Opens {X = Unit {0}} held name (Ok tt) left → IfSome left (λ bytes. Loads t (file_rows columns options limit bytes) result)
    → IfSome held (λ files. Loads t (named_rows columns options limit (get files name)) result)
open-loads t columns options limit name None left result told h = tt
open-loads t columns options limit name (Some files) left result told h =
    let known = subst (λ o. IfSome o (λ bytes. Loads t (file_rows columns options limit bytes) result)) told.2 h in
    subst (λ o. Loads t (named_rows columns options limit o) result) (sym told.1) known

-- columns of texts are among the columns
pub few-texts : (kinds : List CellKind) → text_columns kinds ≤ length kinds
few-texts [] = omega arith
few-texts (Bit ∷ kinds) = let r = few-texts kinds in omega (arith, r)
few-texts (Four ∷ kinds) = let r = few-texts kinds in omega (arith, r)
few-texts (Eight ∷ kinds) = let r = few-texts kinds in omega (arith, r)
few-texts (Sixteen ∷ kinds) = let r = few-texts kinds in omega (arith, r)
few-texts (Text ∷ kinds) = let r = few-texts kinds in omega (arith, r)
