-- Turns that were just made.
use Rattle.std.specs.Prelude.{ℕ, ◌<◌, List, ◌∷◌, [], IsSomeAnd, slice_get}
use Rattle.ooc_io.specs.declared.ticket.TicketMark as mark
use Rattle.evict_ring.specs.Home.{IsHome}
use Rattle.evict_ring.specs.declared.turn.Turn.{Turn}
use Rattle.page_pool.specs.declared.owner.Owner.{Owner}
use Rattle.page_pool.specs.Turns.{TurnIs}

module _ {M B : Type 0} {marks : mark.Ghosts M} where
  -- a turn with its spare frame and a share
  abbrev pub IsSpare : ℕ → Turn (Owner M B marks) → Type 0
  IsSpare page t = TurnIs (page ∷ []) t.frame t.spare t.owner

  -- the first so many turns, each at the place of its frame
  abbrev pub AreSpare : ℕ → ℕ → List (Turn (Owner M B marks)) → Type 0
  AreSpare page count turns = (i : ℕ) → i < count → IsSomeAnd (slice_get turns i) (IsHome (IsSpare page) i)
