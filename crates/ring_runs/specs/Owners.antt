-- Turns that have an owner, and seats that hold no turn.
use Rattle.std.specs.Prelude.{◌≡◌, ℕ, ◌<◌, List, [], length, IsSome, IsSomeAnd, slice_get}
use Rattle.evict_ring.specs.Home.{IsHome}
use Rattle.evict_ring.specs.Seats.{RingView, SeatView, IsSeatOf}
use Rattle.evict_ring.specs.declared.turn.Turn.{Turn}

abbrev pub HasOwner : Turn ℕ → Type 0
HasOwner turn = IsSome turn.owner

-- each turn stands at the place of its frame
abbrev pub AreHome : List (Turn ℕ) → Type 0
AreHome turns = (i : ℕ) → i < length turns → IsSomeAnd (slice_get turns i) (IsHome HasOwner i)

abbrev pub IsIdle : RingView → SeatView → Type 0
IsIdle ring seat = IsSeatOf ring seat × (seat.held ≡ [])
