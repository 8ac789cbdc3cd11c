-- The stages of a free FROM, over conjuncts that were moved before.
use Rattle.std.specs.Prelude.{ℕ, ◌+◌, Bool, true, false, not, List, [], ◌∷◌, ◌++◌, map, filter, length, slice_index_or}
use Rattle.std.specs.List.{filter_map}
use Rattle.sql_expr.specs.declared.tree.Expr.{Expr}
use Rattle.bound_tree.specs.declared.select.BoundSource.{BoundSource}
use Rattle.bound_tree.specs.declared.select.Conjunct.{Conjunct}
use Rattle.bound_tree.specs.declared.select.BoundRows.TheViews.{out-BoundSource}
use Rattle.plan_tree.specs.declared.parts.Entry.{Entry}
use Rattle.plan_tree.specs.declared.stages.PlanInput.{PlanInput}
use Rattle.plan_tree.specs.declared.stages.PlanSource.{PlanSource}
use Rattle.plan_tree.specs.declared.stages.PlanConjunct.TheViews.{roll-PlanSource}
use Rattle.plan_tree.specs.Split.{split, linked_columns}
use Rattle.plan_tree.specs.Order.{picks}
use Rattle.plan_tree.specs.FreeFrom.{entries_from, names_columns}
use Rattle.plan_tree.specs.Planned.{Counts}
use Rattle.sql_plan.specs.declared.free.FromPlan.{FromPlan}
use Rattle.sql_plan.specs.declared.order.Chosen.{Chosen}
use Rattle.sql_plan.specs.declared.places.Places.{Places}
use Rattle.sql_plan.specs.declared.places.Places.TheVariants.{Moved}
use Rattle.sql_plan.specs.declared.split.Parts.{Parts}
use Rattle.sql_plan.specs.Chosen.{chosen_of, places_of_chosen}
use Rattle.sql_plan.specs.Conjuncts.{is_ready, parts_of}
use Rattle.sql_plan.specs.Places.{moved_by}
use Rattle.sql_plan.specs.Sources.{bound_table, plain_conjunct, ons_in, table_input, table_name}

abbrev pub stage_of : List ℕ → PlanInput → ℕ → Bool → Parts → PlanSource
stage_of name input width pads parts =
    roll-PlanSource (record { name = name; rows = input; width = width; pads = pads; filters = parts.filters; keys = parts.keys; rest = parts.rest })

abbrev pub table_stage : BoundSource → ℕ → Parts → PlanSource
table_stage source width parts = stage_of (out-BoundSource source).name (table_input (table_name (out-BoundSource source).rows)) width false parts

abbrev pub free_stage : BoundSource → ℕ → ℕ → ℕ → List Expr → PlanSource
free_stage source low at width conjuncts = table_stage source width (parts_of (split at width (filter (is_ready low (at + width)) conjuncts) []))

-- the tables that are chosen, of which the first begins at this place, and the conjuncts that weren't ready before
abbrev pub free_stages : BoundSource → List BoundSource → ℕ → ℕ → List Chosen → List Expr → List PlanSource
free_stages first sources low at [] conjuncts = []
free_stages first sources low at (one ∷ more) conjuncts =
    free_stage (slice_index_or sources one.entry.place first) low at one.entry.width conjuncts
    ∷ free_stages first sources (at + one.entry.width + 1) (at + one.entry.width) more conjuncts

-- those that name columns, or those that name none
abbrev pub is_named : Bool → Expr → Bool
is_named true expr = names_columns expr
is_named false expr = not (names_columns expr)

abbrev pub bound_pool : List BoundSource → List Conjunct → List Expr
bound_pool sources conjuncts = filter_map plain_conjunct conjuncts ++ ons_in sources

abbrev pub bound_entries : Counts → List BoundSource → List Entry
bound_entries counts sources = entries_from 0 0 (map (bound_table counts) sources)

abbrev pub bound_chosen : Counts → List BoundSource → List Conjunct → List Chosen
bound_chosen counts sources conjuncts =
    map chosen_of (picks (length (bound_entries counts sources)) (filter_map linked_columns (bound_pool sources conjuncts)) [] (bound_entries counts sources))

abbrev pub bound_places : Counts → List BoundSource → List Conjunct → Places
bound_places counts sources conjuncts = Moved (places_of_chosen 0 (bound_chosen counts sources conjuncts))

abbrev pub free_from : Counts → BoundSource → List BoundSource → List Conjunct → FromPlan
free_from counts first sources conjuncts = record {
  places = bound_places counts sources conjuncts;
  sources = free_stages first sources 0 0 (bound_chosen counts sources conjuncts) (map (moved_by (bound_places counts sources conjuncts)) (filter (is_named true) (bound_pool sources conjuncts)));
  plain = map (moved_by (bound_places counts sources conjuncts)) (filter (is_named false) (bound_pool sources conjuncts));
}
