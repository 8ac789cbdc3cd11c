-- Groups in pieces: partial groups, any number of them for one key, and what they stand for.
use Rattle.std.specs.Prelude.{◌≡◌, List, [], ◌∷◌, map, filter, fold, Option}
use Rattle.ooc_bags.specs.Bags.{SameBag}
use Rattle.ooc_bags.specs.Rows.{row_eq}
use Rattle.sql_meaning.specs.Found.{Row}
use Rattle.sql_meaning.specs.Judged.{RowValue}
use Rattle.ooc_bags.specs.Firsts.{firsts}
use Rattle.sql_meaning.specs.Aggregates.{State, nothing_taken, together, state_of}
use Rattle.sql_meaning.specs.Groups.{Keyed, rows_of, arguments}

-- what one aggregate took of the rows of a key
abbrev pub key_state : Option RowValue → Row → List Keyed → State
key_state of key rows = state_of (arguments of (rows_of key rows)).rows

-- a partial group: its key, and what one aggregate took
pub record Partial : Type 0 where
  pub key : Row
  pub state : State

-- the partial groups of a key, merged from left to right
abbrev pub merged : Row → List Partial → State
merged key partials = fold (λ state partial. together state partial.state) nothing_taken (filter (λ partial. row_eq key partial.key) partials)

-- a partial group that takes one row
abbrev pub one_row : Option RowValue → Keyed → Partial
one_row of one = record { key = one.key; state = state_of (arguments of (one.row ∷ [])).rows }

-- Partial groups stand for rows: of each key, merged, they took what its rows give; and they have the keys of the rows.
pub record StandFor (of : Option RowValue) (partials : List Partial) (rows : List Keyed) : Type 0 where
  pub states : (key : Row) → merged key partials ≡ key_state of key rows
  pub keys : SameBag (firsts (map (λ partial. partial.key) partials)) (firsts (map (λ one. one.key) rows))
