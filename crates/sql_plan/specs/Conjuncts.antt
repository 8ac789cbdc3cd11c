-- Conjuncts that are put among the filters, the keys or the rest, one by one.
use Rattle.std.specs.Prelude.{ℕ, Bool, ◌&&◌, nat_le, if◌then◌else◌, List, [], ◌∷◌, ◌++◌, map, Option, Some, None}
use Rattle.sql_expr.specs.declared.tree.Expr.{Expr}
use Rattle.sql_meaning.specs.Stage.{KeyPair}
use Rattle.plan_tree.specs.Planned.{key_columns}
use Rattle.plan_tree.specs.Split.{JoinParts, is_own, key_of, top}
use Rattle.sql_plan.specs.Places.{moved_by}
use Rattle.sql_plan.specs.declared.places.Places.{Places}
use Rattle.sql_plan.specs.declared.split.Parts.{Parts}

abbrev pub parts_of : JoinParts → Parts
parts_of parts = record { filters = parts.filters; keys = map key_columns parts.keys; rest = parts.rest }

abbrev pub with_key : Option KeyPair → Parts → Expr → Parts
with_key None parts expr = record { filters = parts.filters; keys = parts.keys; rest = parts.rest ++ expr ∷ [] }
with_key (Some key) parts expr = record { filters = parts.filters; keys = parts.keys ++ key_columns key ∷ []; rest = parts.rest }

-- a plain conjunct more: a filter, which is over the source's own columns; a key; or one of the rest
abbrev pub with_plain : Places → ℕ → Parts → Expr → Parts
with_plain own at parts expr =
    if is_own at expr then record { filters = parts.filters ++ moved_by own expr ∷ []; keys = parts.keys; rest = parts.rest }
    else with_key (key_of at expr) parts expr

-- All its columns stand before this end, and it isn't one whose columns all stood there before.
abbrev pub is_ready : ℕ → ℕ → Expr → Bool
is_ready low end expr = nat_le low (top expr) && nat_le (top expr) end

abbrev pub all_parts : Places → ℕ → Parts → List Expr → Parts
all_parts own at parts [] = parts
all_parts own at parts (expr ∷ exprs) = all_parts own at (with_plain own at parts expr) exprs
