-- The status that tells of a fault.
use Rattle.std.specs.Prelude.{ℕ}
use Rattle.csv_tables.specs.declared.fault.LoadFault.{LoadFault}
use Rattle.csv_tables.specs.declared.fault.LoadFault.TheVariants as load
use Rattle.ooc_types.specs.declared.refusal.RefusalKind.{RefusalKind}
use Rattle.ooc_types.specs.declared.refusal.RefusalKind.TheVariants.{ResultTooLarge}
use Rattle.page_body.specs.declared.fault.PoolFault.{PoolFault}
use Rattle.page_body.specs.declared.fault.PoolFault.TheVariants as pool
use Rattle.run_settings.specs.declared.status.Place.TheVariants.{Whole, Record}
use Rattle.run_settings.specs.declared.status.Status.{Status}
use Rattle.run_settings.specs.declared.status.Status.TheVariants as status
use Rattle.script_says.specs.Outcome.{refusal_at}
use Rattle.statement_run.specs.Running.{kind_of_fault}
use Rattle.table_scan.specs.declared.fault.SelectFault.{SelectFault}
use Rattle.table_scan.specs.declared.fault.SelectFault.TheVariants as select

-- a statement is refused as a whole
abbrev pub refused_whole : ℕ → RefusalKind → Status
refused_whole number kind = refusal_at number Whole kind

abbrev pub pool_status : PoolFault → Status
pool_status pool.Spill = status.SpillFault
pool_status (pool.Damaged damage) = status.SpillDamaged damage
pool_status pool.OutOfMemory = status.OutOfMemory

-- a record is refused at its number and column
abbrev pub load_status : ℕ → LoadFault → Status
load_status number (load.Refused why) = refusal_at number (Record why.number why.column) why.kind
load_status number load.Read = status.ReadFault
load_status number (load.Pool fault) = pool_status fault
load_status number load.OutOfMemory = status.OutOfMemory

abbrev pub select_status : ℕ → SelectFault → Status
select_status number (select.Value fault) = refused_whole number (kind_of_fault fault)
select_status number select.TooLarge = refused_whole number ResultTooLarge
select_status number (select.Pool fault) = pool_status fault
select_status number select.OutOfMemory = status.OutOfMemory
