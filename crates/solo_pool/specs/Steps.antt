-- The changes, of whole pools.
use Rattle.std.specs.Prelude.{◌≡◌, ℕ, Bool}
use Rattle.ooc_io.specs.declared.lane.SpillLane.{Ghosts}
use Rattle.ooc_io.specs.declared.ticket.TicketMark as mark
use Rattle.solo_pool.specs.declared.solo_tables.SoloTables.{SoloTables}
use Rattle.solo_pool.specs.Turned.{Opened, Pinned, Unpinned, Closed, Ended, Rebased}

module _ {L M : Type 0} {lane : Ghosts L M} {marks : mark.Ghosts M} where
  -- the page's length
  pub record Firm (a b : SoloTables L M lane marks) : Type 0 where
    pub page : b.page ≡ a.page

  abbrev pub Opens : Bool → ℕ → SoloTables L M lane marks → SoloTables L M lane marks → Type 0
  Opens told i a b = Opened told i a.page a.entries.items b.entries.items a.places.items b.places.items a.uses.items b.uses.items b.held

  abbrev pub Closes : Bool → ℕ → SoloTables L M lane marks → SoloTables L M lane marks → Type 0
  Closes told i a b = Closed told i a.page a.entries.items b.entries.items a.places.items b.places.items a.uses.items b.uses.items b.held

  abbrev pub Pins : Bool → ℕ → SoloTables L M lane marks → SoloTables L M lane marks → Type 0
  Pins told x a b = Pinned told x a.page a.entries.items b.entries.items a.places.items b.places.items a.uses.items b.uses.items b.held

  abbrev pub Unpins : Bool → ℕ → SoloTables L M lane marks → SoloTables L M lane marks → Type 0
  Unpins told x a b = Unpinned told x a.page a.entries.items a.places.items a.uses.items b.uses.items b.held

  -- the tables are as they were
  pub record Same (a b : SoloTables L M lane marks) : Type 0 where
    pub entries : b.entries.items ≡ a.entries.items
    pub places : b.places.items ≡ a.places.items
    pub uses : b.uses.items ≡ a.uses.items
    pub held : b.held ≡ a.held

  abbrev pub Ends : Bool → ℕ → SoloTables L M lane marks → SoloTables L M lane marks → Type 0
  Ends told x a b = Ended told x a.page a.entries.items b.entries.items a.places.items b.places.items a.uses.items b.uses.items b.held

  abbrev pub Moves : Bool → ℕ → SoloTables L M lane marks → SoloTables L M lane marks → Type 0
  Moves told x a b = Rebased told x a.page a.entries.items b.entries.items a.places.items a.uses.items b.uses.items b.held
