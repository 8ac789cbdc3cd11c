-- A frame whose bytes are lent.
use Rattle.std.specs.Prelude.{ℕ, List}
use Rattle.std.specs.Borrow.{Lends, MutBor, Fml, u8, Array}
use Rattle.std.specs.Vec.{with_items}
use Rattle.evict_ring.specs.declared.frame.Frame.{Frame}
use Rattle.evict_ring.specs.contracts.frame.Frame as frame

-- the frame with other bytes
abbrev pub frame_with : Frame → List ℕ → Frame
frame_with f bytes = record f { bytes = with_items f.bytes bytes }

-- what is written to the bytes that a frame lends is what the frame has afterwards
abbrev pub LendsFrame : MutBor Frame → MutBor (List ℕ) → Fml
LendsFrame p r = Lends frame.the_row (Array u8 0) p r (frame_with p.now)
