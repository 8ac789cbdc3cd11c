-- When the refusals of a pool come.
use Rattle.std.specs.Prelude.{◌≡◌, ℕ, Bool, IsTrue, List, length, Some, ⊤}
use Rattle.ooc_io.specs.Counts.{Rose}
use Rattle.row_image.specs.declared.image.ImageKind.{ImageKind}
use Rattle.row_image.specs.declared.image.Damage.{Damage}
use Rattle.row_image.specs.Rules.{first_damage, rules_of}
use Rattle.page_body.specs.declared.fault.PoolFault.{PoolFault}
use Rattle.page_body.specs.declared.fault.PoolFault.TheVariants.{Spill, Damaged, OutOfMemory}

-- An image as long as a page was read and breaks a rule of the page's kind. In a told pool none does.
pub record IsSpoilt (told : Bool) (kind : ImageKind) (page_bytes : ℕ) (damage : Damage) : Type 0 where
  pub untold : IsTrue told → ⊥
  pub image : List ℕ
  pub long : length image ≡ page_bytes
  pub refused : first_damage (rules_of kind image) ≡ Some damage

-- a frame was sought: the lane fails where its count of faults rose, and nothing is read
abbrev pub RoomFails : ℕ → ℕ → PoolFault → Type 0
RoomFails before now Spill = Rose before now
RoomFails before now (Damaged damage) = ⊥
RoomFails before now OutOfMemory = ⊤

-- an image was read into a frame that was there, which takes no memory
abbrev pub LoadFails : Bool → ImageKind → ℕ → ℕ → ℕ → PoolFault → Type 0
LoadFails told kind page_bytes before now Spill = Rose before now
LoadFails told kind page_bytes before now (Damaged damage) = IsSpoilt told kind page_bytes damage
LoadFails told kind page_bytes before now OutOfMemory = ⊥

-- a page was read
abbrev pub ReadFails : Bool → ImageKind → ℕ → ℕ → ℕ → PoolFault → Type 0
ReadFails told kind page_bytes before now Spill = Rose before now
ReadFails told kind page_bytes before now (Damaged damage) = IsSpoilt told kind page_bytes damage
ReadFails told kind page_bytes before now OutOfMemory = ⊤

-- A call that is made of others was refused: the lane fails where its count of faults rose in the call, and in a told pool
-- no image is refused.
abbrev pub CallFails : Bool → ℕ → ℕ → PoolFault → Type 0
CallFails told before now Spill = Rose before now
CallFails told before now (Damaged damage) = IsTrue told → ⊥
CallFails told before now OutOfMemory = ⊤
