-- What contracts see of a lane over a store of images.
use Rattle.std.specs.Prelude.{ℕ}
use Rattle.spill_file.specs.Places.{PlaceBook}
use Rattle.spill_file.specs.declared.file_lane.FileLane.{FileLane}

-- how many writes succeeded, and how often a call failed
abbrev pub write_count : {S : Type 0} → FileLane S → ℕ
write_count l = l.writes

abbrev pub fault_count : {S : Type 0} → FileLane S → ℕ
fault_count l = l.faults

-- the places in its hand
abbrev pub book_of : {S : Type 0} → FileLane S → PlaceBook
book_of l = l.places

-- the store of its images
abbrev pub store_of : {S : Type 0} → FileLane S → S
store_of l = l.store
