-- What is true of the tables at all times.
use Rattle.std.specs.Prelude.{◌≡◌, ℕ, Some, List, length, sum, slice_get, slice_index}
use Rattle.evict_ring.specs.declared.frame.Frame.{Frame}
use Rattle.solo_pool.specs.declared.entry.Place.{Place}
use Rattle.solo_pool.specs.declared.entry.Place.TheVariants.{Spare, Open, Owned}
use Rattle.solo_pool.specs.declared.entry.Entry.{Entry}
use Rattle.solo_pool.specs.State.{frame_at}
use Rattle.solo_pool.specs.Moved.{number_in}

pub record Sound (page : ℕ) (entries : List Entry) (places : List Place) (uses : List ℕ) (held : ℕ) : Type 0 where
  pub long : length uses ≡ length places
  pub total : held ≡ sum uses
  -- a resident page's frame is its own
  pub owned : (x : ℕ) (f : Frame) → frame_at entries x ≡ Some f → slice_get places f.number ≡ Some (Owned x)
  pub full : (x : ℕ) (f : Frame) → frame_at entries x ≡ Some f → length f.bytes.items ≡ page
  pub backed : (i x : ℕ) → slice_get places i ≡ Some (Owned x) → number_in (frame_at entries x) ≡ Some i
  pub spare : (i : ℕ) (f : Frame) → slice_get places i ≡ Some (Spare f) → f.number ≡ i
  pub spare_full : (i : ℕ) (f : Frame) → slice_get places i ≡ Some (Spare f) → length f.bytes.items ≡ page
  pub idle : (i : ℕ) (f : Frame) → slice_get places i ≡ Some (Spare f) → slice_index uses i ≡ 0
  pub opened : (i : ℕ) → slice_get places i ≡ Some Open → slice_index uses i ≡ 1
