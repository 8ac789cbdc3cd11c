-- What is ahead of a new reader.
use Rattle.std.proofs.Common.{◌≡◌, ◌≤◌, ◌<◌, ℕ, ◌+◌, inl, inr, List, take, length, refl, arith, take_all}
use Rattle.std.proofs.lemmas.Bool.{lt-ltb, le-ltb}
use Rattle.std.proofs.lemmas.Bool.Decides.{leb_tells}
use Rattle.csv_records.specs.Files.{records_within}
use Rattle.csv_records.specs.Ahead.{records_of, text_ahead, start_within}

pub whole-file : (limit d : ℕ) (bytes : List ℕ) → records_of d (text_ahead (start_within limit) bytes) ≡ records_within limit d bytes
whole-file limit d bytes = elim (leb_tells (limit + 1) (length bytes)) [
  | inl more ↦
      let long : limit < length bytes = omega (arith, more.1) in
      rw (more.0, lt-ltb limit (length bytes) long) refl
  | inr fits ↦
      let short : length bytes ≤ limit = omega (arith, fits.1) in
      let all : take (limit + 1) bytes ≡ bytes = take_all (limit + 1) bytes (omega arith) in
      rw (fits.0, le-ltb limit (length bytes) short, all) refl
]
