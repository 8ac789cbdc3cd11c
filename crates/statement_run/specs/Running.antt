-- What a statement does when its script runs: the tables that it leaves, and what it prints; or why it is refused.
use Rattle.std.specs.Prelude.{ℕ, List, [], map, Option, Some, None, Result, Ok, Err, if◌then◌else◌}
use Rattle.std.specs.FinMap.{get}
use Rattle.ooc_io.specs.Held.{Held}
use Rattle.ooc_types.specs.declared.refusal.RefusalKind.{RefusalKind}
use Rattle.ooc_types.specs.declared.refusal.RefusalKind.TheVariants as kind
use Rattle.ooc_types.specs.declared.schema.Column.{Column}
use Rattle.ooc_types.specs.declared.value.Value.{Value}
use Rattle.row_image.specs.Rules.{text_limit}
use Rattle.run_settings.specs.declared.settings.Settings.{Settings}
use Rattle.run_settings.specs.declared.status.Place.TheVariants.{Whole, Record}
use Rattle.sql_expr.specs.declared.fault.ValueFault.{ValueFault}
use Rattle.sql_expr.specs.declared.fault.ValueFault.TheVariants.{Overflow, CountOverflow}
use Rattle.csv_load.specs.declared.fault.Refusal.{Refusal}
use Rattle.csv_tables.specs.Loading.{named_rows}
use Rattle.bound_tree.specs.declared.statement.Bound.{Bound}
use Rattle.bound_tree.specs.declared.statement.Bound.TheVariants.{CreateTable, DropTable, Copy, Explain, Select}
use Rattle.bound_tree.specs.declared.select.BoundSelect.{BoundSelect}
use Rattle.bind_rules.specs.Bound.{bound_of}
use Rattle.plan_tree.specs.Planned.{plan_of_select}
use Rattle.plan_text.specs.Explained.{plan_text}
use Rattle.script_says.specs.Block.{Exactly, no_block}
use Rattle.script_says.specs.Catalog.{Catalog, Table, table_at, with_table, without_table, with_rows, schemas_of, tables_of, counts_of}
use Rattle.script_says.specs.Outcome.{Outcome, Gives, Stops, Does, refusal_at, stops_at, once_bound}
use Rattle.script_says.specs.Selecting.{Shown, Shows, Faulted, TooLarge, shown}
use Rattle.table_scan.specs.Scan.{is_scan}

-- ---- SELECT

abbrev pub kind_of_fault : ValueFault → RefusalKind
kind_of_fault Overflow = kind.Overflow
kind_of_fault CountOverflow = kind.CountOverflow

-- It prints its block; or it is refused with one of the faults that were noted, or since its lines are too many bytes.
abbrev pub showing : ℕ → Catalog → Shown → Outcome
showing number catalog (Shows block) = Gives catalog block
showing number catalog (Faulted faults) = Stops (map (λ fault. refusal_at number Whole (kind_of_fault fault)) faults)
showing number catalog TooLarge = stops_at number Whole kind.ResultTooLarge

-- A SELECT over one table runs. Others aren't run yet, and are refused before anything of them is.
abbrev pub selecting : ℕ → Catalog → BoundSelect → Outcome
selecting number catalog select = if is_scan select then showing number catalog (shown (tables_of catalog) select) else stops_at number Whole kind.NotBuilt

-- ---- COPY

abbrev pub columns_in : Option Table → List Column
columns_in None = []
columns_in (Some table) = table.columns

-- The rows of the file go behind those of the table; or the first record that is refused is told.
abbrev pub copying : ℕ → Catalog → List ℕ → Result (List (List Value)) Refusal → Outcome
copying number catalog name (Err refusal) = stops_at number (Record refusal.number refusal.column) refusal.kind
copying number catalog name (Ok rows) = Gives (with_rows catalog name rows) no_block

-- ---- the statement

-- what a bound statement does, where a text has at most `limit` bytes and these files are there
abbrev pub running : Held → ℕ → ℕ → Catalog → Bound → Outcome
running held limit number catalog (CreateTable name columns) = Gives (with_table catalog name columns) no_block
running held limit number catalog (DropTable name) = Gives (without_table catalog name) no_block
running held limit number catalog (Copy name file header delimiter null) =
    copying number catalog name (named_rows (columns_in (table_at catalog name)) (record { header = header; delimiter = delimiter; null = null }) limit (get held file))
running held limit number catalog (Explain select) = Gives catalog (Exactly (plan_text (plan_of_select (counts_of catalog) select)))
running held limit number catalog (Select select) = selecting number catalog select

-- what a statement of a script does when it runs over pages of so many bytes
unfoldable pub run_statement : Held → ℕ → List ℕ → Does
run_statement held page script number catalog statement =
    once_bound (running held (text_limit page) number catalog) number (bound_of statement script (schemas_of catalog) (text_limit page))

abbrev pub run_outcome : Held → Settings → List ℕ → Does
run_outcome held settings script = run_statement held settings.page script

-- nothing stands behind the last statement of a run that is done
abbrev pub run_closing : List ℕ
run_closing = []
