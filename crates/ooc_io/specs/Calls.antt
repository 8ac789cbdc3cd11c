-- The calls of a memory form that are to fail.
use Rattle.std.specs.Prelude.{ℕ, ◌+◌, ◌-◌, ◌^◌, ◌<◌, List}
use Rattle.std.specs.List.{Contains}
use Rattle.ooc_io.specs.Counts.{raised}

-- the numbers, from 1, of the calls that are to fail, and how many calls there were
pub record CallList : Type 0 where
  pub failing : List ℕ
  pub count : ℕ

-- The next call is to fail. After 2^64 - 2 calls none is.
abbrev pub FailsNext : CallList → Type 0
FailsNext calls = (calls.count + 1 < 2 ^ 64 - 1) × Contains calls.failing (calls.count + 1)

-- one call more
abbrev pub called : CallList → CallList
called calls = record { failing = calls.failing; count = raised calls.count }
