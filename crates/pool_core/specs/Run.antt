-- Runs: lists of events, each enabled in the state before it.
use Rattle.std.specs.Prelude.{◌≡◌, ℕ, ◌<◌, List, [], ◌∷◌, length, take, slice_get, None, IsSomeAnd}
use Rattle.row_image.specs.Bytes.{IsPage}
use Rattle.pool_core.specs.declared.state.CoreTurn.{CoreTurn}
use Rattle.pool_core.specs.declared.event.Event.{Event}
use Rattle.pool_core.specs.declared.core_state.CoreStop.{CoreStop}
use Rattle.pool_core.specs.declared.core_state.CoreStop.TheVariants.{NotEnabled, OutOfMemory}
use Rattle.pool_core.specs.State.{State, OnTurn}
use Rattle.pool_core.specs.Enabled.{Enabled}
use Rattle.pool_core.specs.Effects.{Acts}

-- a turn at home with its spare, a frame of a page's bytes
abbrev pub IsNewTurn : ℕ → ℕ → CoreTurn → Type 0
IsNewTurn page frame t =
    (t.out ≡ None) × (t.turn.frame ≡ frame) × (t.turn.owner ≡ None)
    × IsSomeAnd t.turn.spare (λ f. (f.number ≡ frame) × (length f.bytes.items ≡ page))

-- the hand is at 0, all turns are at home with their spares, and there is no page
pub record Opened (bytes frames count : ℕ) (s : State) : Type 0 where
  pub sized : IsPage bytes
  pub page : s.page ≡ bytes
  pub actors : s.actors ≡ count
  pub hand : s.hand ≡ 0
  pub whole : length s.turns ≡ frames
  pub turns : (frame : ℕ) → frame < frames → OnTurn s.turns frame (λ t. IsNewTurn bytes frame t)
  pub pages : s.pages ≡ []
  pub marks : s.marks ≡ []

-- one event, from a state that enables it
pub record Steps (old : State) (event : Event) (new : State) : Type 0 where
  pub enabled : Enabled old event
  pub acts : Acts old event new

-- one event after another
abbrev pub Ran : State → List Event → State → Type 0
Ran old [] new = new ≡ old
Ran old (event ∷ events) new = (mid : State) × Steps old event mid × Ran mid events new

-- a run from the opening on
pub record IsRun (bytes frames count : ℕ) (events : List Event) (s : State) : Type 0 where
  pub start : State
  pub opened : Opened bytes frames count start
  pub ran : Ran start events s

-- where a list of events stopped: at the first that isn't enabled, after those before it have acted; or for want of memory,
-- after some have acted
abbrev pub Stops : State → List Event → CoreStop → State → Type 0
Stops old events (NotEnabled k) new = Ran old (take k events) new × IsSomeAnd (slice_get events k) (λ event. Enabled new event → ⊥)
Stops old events OutOfMemory new = (k : ℕ) × (k < length events) × Ran old (take k events) new
