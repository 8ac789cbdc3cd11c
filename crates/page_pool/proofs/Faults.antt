-- Why a load was refused.
use Rattle.std.proofs.Common.{ℕ, ◌≤◌, Bool, arith}
use Rattle.row_image.specs.declared.image.ImageKind.{ImageKind}
use Rattle.page_body.specs.declared.fault.PoolFault.{PoolFault}
use Rattle.page_body.specs.declared.fault.PoolFault.TheVariants.{Spill, Damaged, OutOfMemory}
use Rattle.page_body.specs.Refusals.{RoomFails, LoadFails, ReadFails}

-- an image was read after a frame had been sought
pub reads_from : (told : Bool) (kind : ImageKind) (page first before now : ℕ) (fault : PoolFault) → first ≤ before → LoadFails told kind page before now fault → ReadFails told kind page first now fault
reads_from told kind page first before now Spill le h = omega (arith, le, h)
reads_from told kind page first before now (Damaged damage) le h = h
reads_from told kind page first before now OutOfMemory le h = absurd h

-- no frame was had
pub room_reads : (told : Bool) (kind : ImageKind) (page before now : ℕ) (fault : PoolFault) → RoomFails before now fault → ReadFails told kind page before now fault
room_reads told kind page before now Spill h = h
room_reads told kind page before now (Damaged damage) h = absurd h
room_reads told kind page before now OutOfMemory h = tt
