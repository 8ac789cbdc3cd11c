-- The stages of a free FROM.
use Rattle.std.specs.Prelude.{ℕ, ◌+◌, Bool, not, nat_lt, nat_le, List, [], ◌∷◌, ◌++◌, map, filter, flat_map, length}
use Rattle.std.specs.List.{filter_map}
use Rattle.sql_expr.specs.declared.tree.Expr.{Expr}
use Rattle.sql_meaning.specs.Moved.{moved}
use Rattle.plan_tree.specs.Split.{JoinParts, top, linked_columns, split}
use Rattle.plan_tree.specs.declared.parts.Entry.{Entry}
use Rattle.plan_tree.specs.Order.{Pick, picks, places_of_picks}

-- What a plan needs of a table in a free FROM: how many columns and rows it has, and the conjuncts of its ON.
pub record FreeTable : Type 0 where
  pub width : ℕ
  pub rows : ℕ
  pub on : List Expr

abbrev pub entries_from : ℕ → ℕ → List FreeTable → List Entry
entries_from place start [] = []
entries_from place start (table ∷ tables) =
    record { place = place; start = start; width = table.width; rows = table.rows } ∷ entries_from (place + 1) (start + table.width) tables

abbrev pub ons_of : List FreeTable → List Expr
ons_of tables = flat_map (λ table. table.on) tables

abbrev pub names_columns : Expr → Bool
names_columns expr = nat_lt 0 (top expr)

-- the plain conjuncts of WHERE, and the conjuncts of ON
abbrev pub pool_of : List FreeTable → List Expr → List Expr
pool_of tables plain = plain ++ ons_of tables

abbrev pub picks_of : List FreeTable → List Expr → List (Pick Entry)
picks_of tables plain =
    picks (length tables) (filter_map linked_columns (pool_of tables plain)) [] (entries_from 0 0 tables)

abbrev pub places_of_plan : List FreeTable → List Expr → List ℕ
places_of_plan tables plain = places_of_picks 0 (picks_of tables plain)

-- Conjuncts of which all columns stand before this one of the plan's row, and the others.
abbrev pub is_ready : List ℕ → ℕ → Expr → Bool
is_ready places end expr = nat_le (top (moved places expr)) end

abbrev pub ready : List ℕ → ℕ → List Expr → List Expr
ready places end = filter (is_ready places end)

abbrev pub later : List ℕ → ℕ → List Expr → List Expr
later places end = filter (λ expr. not (is_ready places end expr))

-- Each conjunct acts at the first table at which all its columns are there.
abbrev pub stages_from : List ℕ → ℕ → List Entry → List Expr → List JoinParts
stages_from places at [] conjuncts = []
stages_from places at (entry ∷ entries) conjuncts =
    split at entry.width (map (moved places) (ready places (at + entry.width) conjuncts)) []
    ∷ stages_from places (at + entry.width) entries (later places (at + entry.width) conjuncts)

abbrev pub named : List FreeTable → List Expr → List Expr
named tables plain = filter names_columns (pool_of tables plain)

-- those that name no column stay in WHERE
abbrev pub bare : List FreeTable → List Expr → List Expr
bare tables plain = filter (λ expr. not (names_columns expr)) (pool_of tables plain)
