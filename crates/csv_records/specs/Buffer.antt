-- What a buffer says of its reader's position in the file.
use Rattle.std.specs.Prelude.{◌≡◌, ℕ, Option, List, [], take, slice_range, IfSome}
use Rattle.csv_records.specs.declared.buffer.Buffer.{Buffer}
use Rattle.csv_records.specs.Ahead.{Position}

-- the bytes that are in no record yet
abbrev pub carried_in : Buffer → List ℕ
carried_in b = slice_range b.buffer.items b.at b.filled

abbrev pub position_of : Buffer → Position
position_of b = record { begun = b.begun; carried = carried_in b; allowed = b.allowed }

-- no more bytes will be taken of the file, as far as it tells
abbrev pub IsLast : ℕ → Option (List ℕ) → Type 0
IsLast allowed left = IfSome left (λ bytes. take allowed bytes ≡ [])
