-- The records of a file.
use Rattle.std.specs.Prelude.{ℕ, ◌+◌, Bool, true, false, if◌then◌else◌, nat_lt, List, length, take}
use Rattle.csv.specs.Reading.{strip_bom}
use Rattle.csv_records.specs.Limits.{file_limit}
use Rattle.csv_records.specs.Cut.{records_in, finished_in}

-- Records, and whether the file is too long. Where it is, they are those before the record that has the first byte
-- beyond the limit, or before the one that would come next where that byte is in none.
pub record Records : Type 0 where
  pub records : List (List ℕ)
  pub too_long : Bool

-- the records of a file of at most `limit` bytes, or of that front of a longer one
abbrev pub records_within : ℕ → ℕ → List ℕ → Records
records_within limit d bytes =
    if nat_lt limit (length bytes)
    then record { records = finished_in d (strip_bom (take (limit + 1) bytes)); too_long = true }
    else record { records = records_in d (strip_bom bytes); too_long = false }

-- the records of a file, at whose start the bytes EF BB BF are skipped
abbrev pub file_records : ℕ → List ℕ → Records
file_records d bytes = records_within file_limit d bytes
