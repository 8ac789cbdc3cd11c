-- What came of a page that was to be opened.
use Rattle.std.specs.Prelude.{◌≡◌, ℕ, ◌∷◌, ⊤}
use Rattle.ooc_io.specs.declared.ticket.TicketMark as mark
use Rattle.ooc_io.specs.Counts.{Rose}
use Rattle.number_bags.specs.Bags.{times}
use Rattle.row_image.specs.declared.image.ImageKind.{ImageKind}
use Rattle.page_pool.specs.View.{IsOpenAt, frame_count, open_frames, frames_out, looks_of}
use Rattle.page_pool.specs.declared.pool.Pool.{Pool}
use Rattle.page_pool.specs.declared.pool.PoolSeat.{PoolSeat}
use Rattle.page_pool.specs.declared.opens.Open.{Open}
use Rattle.page_pool.specs.declared.opens.Open.TheVariants.{Opened, NoFrame, Spill, OutOfMemory}
use Rattle.page_pool.specs.Tried.{AllSeen, OneWrite}

module _ {M B : Type 0} {marks : mark.Ghosts M} where
  -- The page is open at the seat, in a frame in which no other open page of this seat lies, and at most one page was written to
  -- a lane. Or no frame could be had, and the looks say why of each. Or a fault came. Then the same pages are open, and
  -- nothing was written.
  abbrev pub OpenIs : Pool M B marks → ImageKind → PoolSeat M B marks → PoolSeat M B marks → ℕ → ℕ → Open → Type 0
  OpenIs pool kind old new w w' (Opened p) = (p.kind ≡ kind) × IsOpenAt pool new p × (times (open_frames old) p.frame.number ≡ 0) × (open_frames new ≡ p.frame.number ∷ open_frames old) × OneWrite w w'
  OpenIs pool kind old new w w' NoFrame = (open_frames new ≡ open_frames old) × AllSeen (frames_out old) (frames_out new) (looks_of new) 0 (frame_count pool) × (w' ≡ w)
  OpenIs pool kind old new w w' Spill = (open_frames new ≡ open_frames old) × (w' ≡ w)
  OpenIs pool kind old new w w' OutOfMemory = (open_frames new ≡ open_frames old) × (w' ≡ w)

-- the lane failed only where its count of faults rose
abbrev pub OpenFails : ℕ → ℕ → Open → Type 0
OpenFails before now (Opened p) = ⊤
OpenFails before now NoFrame = ⊤
OpenFails before now Spill = Rose before now
OpenFails before now OutOfMemory = ⊤
