-- What came of a frame that was tried, and of several.
use Rattle.std.specs.Prelude.{◌≡◌, ℕ, ◌+◌, ◌<◌, ◌≤◌, List, ◌∷◌, slice_get, IsSomeAnd, ⊤}
use Rattle.number_bags.specs.Bags.{times}
use Rattle.evict_ring.specs.Seats.{SeatView, taking, refused}
use Rattle.page_body.specs.Refusals.{RoomFails}
use Rattle.page_pool.specs.Cells.{IsFrame}
use Rattle.page_pool.specs.Words.{ShowsClaim}
use Rattle.page_pool.specs.declared.pool.Seen.{Seen}
use Rattle.page_pool.specs.declared.pool.Seen.TheVariants.{TurnOut, Claimed}
use Rattle.page_pool.specs.declared.frames.Rested.{Rested}
use Rattle.page_pool.specs.declared.frames.Rested.TheVariants as rested
use Rattle.page_pool.specs.declared.frames.Tried.{Tried}
use Rattle.page_pool.specs.declared.frames.Tried.TheVariants as tried
use Rattle.page_pool.specs.declared.frames.Search.{Search}
use Rattle.page_pool.specs.declared.frames.Search.TheVariants.{Found, Full, Fault}

-- at most one successful write more
abbrev pub OneWrite : ℕ → ℕ → Type 0
OneWrite before now = (before ≤ now) × (now ≤ before + 1)

-- the page's frame came, or the page's word showed a claim, or a fault came
abbrev pub RestedIs : {B : Type 0} → ℕ → ℕ → ℕ → ℕ → ℕ → Rested B → Type 0
RestedIs page frames i w w' (rested.Got frame share) = IsFrame page frames frame × (frame.number ≡ i) × OneWrite w w'
RestedIs page frames i w w' (rested.Claimed word) = ShowsClaim word × (w' ≡ w)
RestedIs page frames i w w' (rested.Fault fault) = w' ≡ w

abbrev pub RestedFails : {B : Type 0} → ℕ → ℕ → Rested B → Type 0
RestedFails before now (rested.Got frame share) = ⊤
RestedFails before now (rested.Claimed word) = ⊤
RestedFails before now (rested.Fault fault) = RoomFails before now fault

-- a turn came with its frame; or it was out, and the seat noted so; or its page's word showed a claim; or a fault came
abbrev pub TriedIs : {B : Type 0} → ℕ → ℕ → ℕ → SeatView → SeatView → ℕ → ℕ → Tried B → Type 0
TriedIs page frames i old new w w' (tried.Got frame share) = IsFrame page frames frame × (frame.number ≡ i) × (times old.held i ≡ 0) × (new ≡ taking i old) × OneWrite w w'
TriedIs page frames i old new w w' tried.Out = (new ≡ refused i old) × (w' ≡ w)
TriedIs page frames i old new w w' (tried.Claimed word) = ShowsClaim word × (new ≡ old) × (w' ≡ w)
TriedIs page frames i old new w w' (tried.Fault fault) = (new ≡ old) × (w' ≡ w)

abbrev pub TriedFails : {B : Type 0} → ℕ → ℕ → Tried B → Type 0
TriedFails before now (tried.Got frame share) = ⊤
TriedFails before now tried.Out = ⊤
TriedFails before now (tried.Claimed word) = ⊤
TriedFails before now (tried.Fault fault) = RoomFails before now fault

-- A frame couldn't be had: the seat found its turn out since it had noted `before`, or its page's word showed a claim.
abbrev pub IsLook : List ℕ → List ℕ → ℕ → Seen → Type 0
IsLook before now i TurnOut = times before i < times now i
IsLook before now i (Claimed word) = ShowsClaim word

-- each frame from one number up to another has its look
abbrev pub AllSeen : List ℕ → List ℕ → List Seen → ℕ → ℕ → Type 0
AllSeen before now looks from to = (i : ℕ) → from ≤ i → i < to → IsSomeAnd (slice_get looks i) (IsLook before now i)

-- the same seat, whose notes only grew
pub record SameSeat (old new : SeatView) : Type 0 where
  pub table : new.table ≡ old.table
  pub about : new.about ≡ old.about
  pub noted : (x : ℕ) → times old.refused x ≤ times new.refused x

-- a turn came that the seat didn't have
pub record IsFound (old new : SeatView) (number : ℕ) : Type 0 where
  pub out : times old.held number ≡ 0
  pub held : new.held ≡ number ∷ old.held

-- a frame was found; or each was looked at, and none could be had; or a fault came
abbrev pub SearchIs : {B : Type 0} → ℕ → ℕ → SeatView → SeatView → ℕ → ℕ → List Seen → ℕ → ℕ → Search B → Type 0
SearchIs page frames old new w w' looks from to (Found frame share) = IsFrame page frames frame × IsFound old new frame.number × OneWrite w w'
SearchIs page frames old new w w' looks from to Full = (new.held ≡ old.held) × AllSeen old.refused new.refused looks from to × (w' ≡ w)
SearchIs page frames old new w w' looks from to (Fault fault) = (new.held ≡ old.held) × (w' ≡ w)

-- a search that doesn't go on
abbrev pub EndsSearch : {B : Type 0} → ℕ → ℕ → SeatView → SeatView → ℕ → ℕ → Search B → Type 0
EndsSearch page frames old new w w' (Found frame share) = IsFrame page frames frame × IsFound old new frame.number × OneWrite w w'
EndsSearch page frames old new w w' Full = ⊥
EndsSearch page frames old new w w' (Fault fault) = (new.held ≡ old.held) × (w' ≡ w)

abbrev pub SearchFails : {B : Type 0} → ℕ → ℕ → Search B → Type 0
SearchFails before now (Found frame share) = ⊤
SearchFails before now Full = ⊤
SearchFails before now (Fault fault) = RoomFails before now fault
