-- Lists and sources taken apart by a number of each row.
use Rattle.std.specs.Prelude.{◌≡◌, ℕ, Ok, false}
use Rattle.ooc_bags.specs.Parts.{part}
use Rattle.sql_meaning.specs.Found.{Row}
use Rattle.sql_meaning.specs.Stage.{Side}

-- a side with the rows of part k alone
abbrev pub side_part : (Row → ℕ) → ℕ → Side → Side
side_part number k side = record { rows = part number k side.rows; width = side.width; pads = side.pads; verdict = side.verdict }

-- Rows of different parts don't meet: their pair is left out, and notes no fault. So it is where there is a key, and
-- equal values that aren't NULL have one number.
abbrev pub MeetInParts : (left right : Row → ℕ) → Side → Type 0
MeetInParts left right side = (l r : Row) → ((left l ≡ right r) → ⊥) → side.verdict l r ≡ Ok false
