-- What contracts see of the memory forms.
use Rattle.std.specs.Prelude.{ℕ, Bool, List}
use Rattle.std.specs.FinMap.{from_entries}
use Rattle.ooc_io.specs.Held.{Held}
use Rattle.ooc_io.specs.Calls.{CallList}

-- files: their names and bytes, whether one is open, which bytes of it aren't read yet, how often a call failed, and the calls
pub record FilesState : Type 0 where
  pub named : List (List ℕ × List ℕ)
  pub opened : Bool
  pub left : List ℕ
  pub faults : ℕ
  pub calls : CallList

-- the bytes under each name; of two with one name the first counts
abbrev pub held_in : FilesState → Held
held_in files = from_entries files.named

-- a sink: what it took, the room that is left, how often a call failed, and the calls
pub record SinkState : Type 0 where
  pub bytes : List ℕ
  pub room : ℕ
  pub faults : ℕ
  pub calls : CallList

-- a lane: how many writes succeeded, how often a call failed, and the writes and the reads that were called
pub record LaneState : Type 0 where
  pub written : ℕ
  pub faults : ℕ
  pub writes : CallList
  pub reads : CallList
