-- The tables in the plan's order, each with the number of columns that it is put behind.
use Rattle.std.specs.Prelude.{ℕ, ◌+◌, ◌^◌, List, [], ◌∷◌, ◌++◌, take, drop, length, Option, Some, None}
use Rattle.std.specs.List.{range_with_len}
use Rattle.plan_tree.specs.declared.parts.Entry.{Entry}
use Rattle.plan_tree.specs.declared.parts.Linked.{Linked}
use Rattle.plan_tree.specs.Order.{Pick, pick, comes_before, columns_in}
use Rattle.sql_plan.specs.declared.order.Choice.{Choice}
use Rattle.sql_plan.specs.declared.order.Chosen.{Chosen}

-- columns are numbered in 32 bits
unfoldable pub columns_limit : ℕ
columns_limit = 2 ^ 32

abbrev pub choice_of : Pick Entry → Choice
choice_of one = record { place = length one.front; entry = one.item }

-- the table that comes next, if one is left
abbrev pub choice_in : List Linked → List Entry → List Entry → Option Choice
choice_in pool placed [] = None
choice_in pool placed (first ∷ rest) = Some (choice_of (pick (comes_before pool placed) first rest))

abbrev pub chosen_of : Pick Entry → Chosen
chosen_of one = record { entry = one.item; before = columns_in one.front }

abbrev pub columns_chosen : List Chosen → ℕ
columns_chosen [] = 0
columns_chosen (one ∷ more) = one.entry.width + columns_chosen more

-- Where the written columns stand in the plan's row, whose first column here is this one.
abbrev pub places_of_chosen : ℕ → List Chosen → List ℕ
places_of_chosen at [] = []
places_of_chosen at (one ∷ more) =
    take one.before (places_of_chosen (at + one.entry.width) more)
    ++ (range_with_len at one.entry.width ++ drop one.before (places_of_chosen (at + one.entry.width) more))
