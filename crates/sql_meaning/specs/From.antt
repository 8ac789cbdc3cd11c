-- FROM: nested loops over its sources, in written order.
use Rattle.std.specs.Prelude.{ℕ, Bool, true, false, ◌&&◌, if◌then◌else◌, List, [], ◌∷◌, ◌++◌, map, replicate}
use Rattle.ooc_types.specs.declared.value.Value.TheVariants.{Null}
use Rattle.sql_meaning.specs.Found.{Found, Row, clean, collected, and_then}
use Rattle.sql_meaning.specs.Judged.{kept, Condition}

-- A source with what it gives: a table's rows, or the result of a subquery. `on` has the conjuncts of its ON, and
-- `pads` says that it is joined by LEFT. The first source has no conjuncts and doesn't pad.
pub record Source : Type 0 where
  pub found : Found Row
  pub width : ℕ
  pub pads : Bool
  pub on : List Condition

abbrev pub nulls : ℕ → Row
nulls width = replicate width Null

abbrev pub is_empty : {A : Type 0} → List A → Bool
is_empty [] = true
is_empty (x ∷ xs) = false

-- the row behind a left row
abbrev pub pairs : Row → List Row → List Row
pairs left rows = map (λ right. left ++ right) rows

-- LEFT gives the left row with NULLs where no pair of it was kept and none faulted
abbrev pub padded : Source → Row → Found Row → Found Row
padded source left found =
    if source.pads && (is_empty found.rows && is_empty found.faults) then clean ((left ++ nulls source.width) ∷ []) else found

-- the pairs of a left row that ON keeps
abbrev pub met : Source → Row → Found Row
met source left = padded source left (kept source.on (pairs left source.found.rows))

abbrev pub joined : Source → List Row → Found Row
joined source = collected (met source)

abbrev pub from_behind : List Source → List Row → Found Row
from_behind [] rows = clean rows
from_behind (source ∷ sources) rows = and_then (joined source rows) (from_behind sources)

-- the rows so far begin as one row without columns, so that those of the first source come next
abbrev pub from_rows : List Source → Found Row
from_rows sources = from_behind sources ([] ∷ [])
