-- The cause of a call that is made of others, from that of one of them.
use Rattle.std.proofs.Common.{ℕ, ◌≤◌, Bool, arith}
use Rattle.row_image.specs.declared.image.ImageKind.{ImageKind}
use Rattle.page_body.specs.declared.fault.PoolFault.{PoolFault}
use Rattle.page_body.specs.declared.fault.PoolFault.TheVariants.{Spill, Damaged, OutOfMemory}
use Rattle.page_body.specs.Refusals.{RoomFails, LoadFails, ReadFails, CallFails}

pub room_fails : (told : Bool) (first before now last : ℕ) (fault : PoolFault) → RoomFails before now fault → first ≤ before → now ≤ last → CallFails told first last fault
room_fails told first before now last Spill cause low high = omega (arith, cause, low, high)
room_fails told first before now last (Damaged damage) cause low high = absurd cause
room_fails told first before now last OutOfMemory cause low high = tt

pub read_fails : (told : Bool) (kind : ImageKind) (page first before now last : ℕ) (fault : PoolFault) → ReadFails told kind page before now fault → first ≤ before → now ≤ last → CallFails told first last fault
read_fails told kind page first before now last Spill cause low high = omega (arith, cause, low, high)
read_fails told kind page first before now last (Damaged damage) cause low high = cause.untold
read_fails told kind page first before now last OutOfMemory cause low high = tt

pub call_fails : (told : Bool) (first before now last : ℕ) (fault : PoolFault) → CallFails told before now fault → first ≤ before → now ≤ last → CallFails told first last fault
call_fails told first before now last Spill cause low high = omega (arith, cause, low, high)
call_fails told first before now last (Damaged damage) cause low high = cause
call_fails told first before now last OutOfMemory cause low high = tt

pub load_fails : (told : Bool) (kind : ImageKind) (page before now : ℕ) (fault : PoolFault) → LoadFails told kind page before now fault → ReadFails told kind page before now fault
load_fails told kind page before now Spill cause = cause
load_fails told kind page before now (Damaged damage) cause = cause
load_fails told kind page before now OutOfMemory cause = tt
