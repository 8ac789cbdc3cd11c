-- Why a file isn't loaded, and the causes.
use Rattle.std.specs.Prelude.{ℕ, ⊤}
use Rattle.ooc_io.specs.Counts.{Rose}
use Rattle.ooc_types.specs.declared.refusal.RefusalKind.TheVariants.{NoFile}
use Rattle.page_body.specs.Refusals.{RoomFails}
use Rattle.page_body.specs.declared.fault.PoolFault.{PoolFault}
use Rattle.page_body.specs.declared.fault.PoolFault.TheVariants as pool
use Rattle.csv_load.specs.declared.fault.Refusal.{Refusal}
use Rattle.csv_load.specs.declared.fault.RowFault.{RowFault}
use Rattle.csv_load.specs.declared.fault.RowFault.TheVariants as row
use Rattle.csv_tables.specs.declared.fault.LoadFault.{LoadFault}
use Rattle.csv_tables.specs.declared.fault.LoadFault.TheVariants as load

-- the refusal of a missing file
abbrev pub no_file : Refusal
no_file = record { number = 0; column = 0; kind = NoFile }

abbrev pub row_fault : RowFault → LoadFault
row_fault (row.Refused why) = load.Refused why
row_fault row.Read = load.Read
row_fault row.OutOfMemory = load.OutOfMemory

abbrev pub pool_fault : PoolFault → LoadFault
pool_fault pool.Spill = load.Pool pool.Spill
pool_fault (pool.Damaged damage) = load.Pool (pool.Damaged damage)
pool_fault pool.OutOfMemory = load.OutOfMemory

-- A read fault comes only where the count of the files' faults rose, from f to g, and one of the pool only where its cause
-- stands: the lane's count rose, from k to m.
abbrev pub HasLoadCause : ℕ → ℕ → ℕ → ℕ → LoadFault → Type 0
HasLoadCause f g k m (load.Refused why) = ⊤
HasLoadCause f g k m load.Read = Rose f g
HasLoadCause f g k m (load.Pool fault) = RoomFails k m fault
HasLoadCause f g k m load.OutOfMemory = ⊤

-- the same of a call that doesn't read
abbrev pub HasRoomCause : ℕ → ℕ → LoadFault → Type 0
HasRoomCause k m (load.Refused why) = ⊤
HasRoomCause k m load.Read = ⊥
HasRoomCause k m (load.Pool fault) = RoomFails k m fault
HasRoomCause k m load.OutOfMemory = ⊤
