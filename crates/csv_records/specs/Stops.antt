-- Where a record stops in a text.
use Rattle.std.specs.Prelude.{◌≡◌, ◌≤◌, ◌<◌, ℕ, Bool, Some, None, List, length, slice_range, slice_index}
use Rattle.csv_records.specs.Table.{after, is_quoted, state_after}
use Rattle.csv_records.specs.declared.mark.Mark.{Mark}
use Rattle.csv_records.specs.declared.mark.Mark.TheVariants.{FieldStart}

-- A record that is in the state `start` at a place of a text stops at `stop` in the state `state`: there is the byte
-- that ends it, or the end of the text.
pub record StopsAt (d : ℕ) (start : Mark) (text : List ℕ) (from stop : ℕ) (state : Mark) : Type 0 where
  pub low : from ≤ stop
  pub high : stop ≤ length text
  pub ran : state_after d start (slice_range text from stop) ≡ Some state
  pub ends : stop < length text → after d state (slice_index text stop) ≡ None

-- the same of a record that begins there, and whether it stops inside of quotes
pub record IsStop (d : ℕ) (text : List ℕ) (from stop : ℕ) (is_open : Bool) : Type 0 where
  pub state : Mark
  pub stops : StopsAt d FieldStart text from stop state
  pub quoted : is_open ≡ is_quoted state
