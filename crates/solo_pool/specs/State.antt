-- The tables of a pool: its pages, where each frame is, and how often each is used.
use Rattle.std.specs.Prelude.{ℕ, Option, Some, None, List, slice_get, slice_index}
use Rattle.solo_pool.specs.Weights.{shown}
use Rattle.evict_ring.specs.declared.frame.Frame.{Frame}
use Rattle.solo_pool.specs.declared.entry.Place.{Place}
use Rattle.solo_pool.specs.declared.entry.Place.TheVariants.{Spare, Open, Owned}
use Rattle.solo_pool.specs.declared.entry.Entry.{Entry}

abbrev pub shown_in : Option Entry → Option Frame
shown_in None = None
shown_in (Some e) = shown e.body

-- the frame of a page that is resident
abbrev pub frame_at : List Entry → ℕ → Option Frame
frame_at entries x = shown_in (slice_get entries x)

abbrev pub used_in : List ℕ → Option Frame → ℕ
used_in uses None = 0
used_in uses (Some f) = slice_index uses f.number

-- how many pins a page has
abbrev pub pins_at : List Entry → List ℕ → ℕ → ℕ
pins_at entries uses x = used_in uses (frame_at entries x)

abbrev pub open_in : Option Place → ℕ
open_in None = 0
open_in (Some (Spare f)) = 0
open_in (Some Open) = 1
open_in (Some (Owned x)) = 0

-- how many open pages are in a frame
abbrev pub opens_at : List Place → ℕ → ℕ
opens_at places i = open_in (slice_get places i)

abbrev pub spare_in : Option Place → Option Frame
spare_in None = None
spare_in (Some (Spare f)) = Some f
spare_in (Some Open) = None
spare_in (Some (Owned x)) = None
