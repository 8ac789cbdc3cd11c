-- How long a file and a record may be.
use Rattle.std.specs.Prelude.{ℕ}

-- the most bytes of a file
abbrev pub file_limit : ℕ
file_limit = 1099511627776

-- the most bytes of a record
abbrev pub record_limit : ℕ
record_limit = 1048576
