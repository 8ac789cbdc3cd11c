-- What contracts see of the pool.
use Rattle.std.specs.Prelude.{ℕ, Bool}
use Rattle.page_body.specs.View.{PoolView}
use Rattle.solo_pool.specs.declared.page.SoloPage.{SoloPage}
use Rattle.solo_pool.specs.declared.page.SoloPin.{SoloPin}
use Rattle.ooc_io.specs.declared.lane.SpillLane.{Ghosts}
use Rattle.ooc_io.specs.declared.ticket.TicketMark as mark
use Rattle.solo_pool.specs.declared.solo.Solo.{Solo}
use Rattle.solo_pool.specs.declared.solo_tables.SoloTables.{SoloTables}
use Rattle.solo_pool.specs.Views.{tables_view}

-- tables over a lane of that name, with its counts
abbrev pub view_of : {L M : Type 0} {lane : Ghosts L M} {marks : mark.Ghosts M} → Bool → ℕ → ℕ → ℕ → SoloTables L M lane marks → PoolView SoloPage SoloPin
view_of told name faults writes s = tables_view told s.page s.entries.items s.places.items s.uses.items s.held s.wrote name faults writes

-- the tables alone
abbrev pub held_view : {L M : Type 0} {lane : Ghosts L M} {marks : mark.Ghosts M} → Bool → SoloTables L M lane marks → PoolView SoloPage SoloPin
held_view told s = view_of told 0 0 0 s

-- how many pages were sealed, and how many of them were written; both stand still at 2^64 - 1
abbrev pub sealed_of : {L M : Type 0} {lane : Ghosts L M} {marks : mark.Ghosts M} → SoloTables L M lane marks → ℕ
sealed_of s = s.sealed

abbrev pub wrote_of : {L M : Type 0} {lane : Ghosts L M} {marks : mark.Ghosts M} → SoloTables L M lane marks → ℕ
wrote_of s = s.wrote

-- the tables and the lane that are lent to a pool, and the names of the references by which they are
abbrev pub tables_under : {L M : Type 0} {lane : Ghosts L M} {marks : mark.Ghosts M} → Solo L M lane marks → SoloTables L M lane marks
tables_under s = s.tables.now

abbrev pub lane_under : {L M : Type 0} {lane : Ghosts L M} {marks : mark.Ghosts M} → Solo L M lane marks → L
lane_under s = s.lane.now

abbrev pub name_of_tables : {L M : Type 0} {lane : Ghosts L M} {marks : mark.Ghosts M} → Solo L M lane marks → ℕ
name_of_tables s = s.tables.ghost_name

abbrev pub name_of_lane : {L M : Type 0} {lane : Ghosts L M} {marks : mark.Ghosts M} → Solo L M lane marks → ℕ
name_of_lane s = s.lane.ghost_name

-- a pool over its lane
abbrev pub pool_view : {L M : Type 0} {lane : Ghosts L M} {marks : mark.Ghosts M} → Solo L M lane marks → PoolView SoloPage SoloPin
pool_view {L} {M} {lane} {marks} s = view_of marks.tells (name_of_lane s) (lane.faults (lane_under s)) (lane.writes (lane_under s)) (tables_under s)

-- how many pages a pool sealed
abbrev pub sealed_in : {L M : Type 0} {lane : Ghosts L M} {marks : mark.Ghosts M} → Solo L M lane marks → ℕ
sealed_in s = sealed_of (tables_under s)
