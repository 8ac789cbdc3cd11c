-- What stands above a FROM, over columns at their places afterwards.
use Rattle.std.specs.Prelude.{ℕ, Bool, List, map, Option, Some, None}
use Rattle.std.specs.Option.{option_map}
use Rattle.std.specs.List.{filter_map}
use Rattle.sql_expr.specs.declared.tree.Expr.{Expr}
use Rattle.bound_tree.specs.declared.select.Aggregate.{Aggregate}
use Rattle.bound_tree.specs.declared.select.Grouping.{Grouping}
use Rattle.bound_tree.specs.declared.select.BoundCore.{BoundCore}
use Rattle.bound_tree.specs.declared.select.BoundSource.{BoundSource}
use Rattle.bound_tree.specs.declared.select.Conjunct.{Conjunct}
use Rattle.bound_tree.specs.declared.select.BoundRows.TheViews.{out-BoundCore, out-BoundSource}
use Rattle.sql_meaning.specs.Statements.{pads_of}
use Rattle.plan_tree.specs.declared.stages.PlanConjunct.{PlanConjunct}
use Rattle.plan_tree.specs.declared.stages.PlanCore.{PlanCore}
use Rattle.plan_tree.specs.declared.stages.PlanInput.{PlanInput}
use Rattle.plan_tree.specs.declared.stages.PlanSource.{PlanSource}
use Rattle.plan_tree.specs.declared.stages.PlanConjunct.TheViews.{roll-PlanCore}
use Rattle.plan_tree.specs.Split.{split_on}
use Rattle.plan_tree.specs.Plannable.{columns_of_source}
use Rattle.plan_tree.specs.Planned.{Counts, moved_conjunct, plan_of_source, written_stages}
use Rattle.sql_plan.specs.declared.free.FromPlan.{FromPlan}
use Rattle.sql_plan.specs.declared.places.Places.{Places}
use Rattle.sql_plan.specs.declared.places.Places.TheVariants.{Kept, Moved}
use Rattle.sql_plan.specs.Conjuncts.{parts_of}
use Rattle.sql_plan.specs.Places.{moved_by}
use Rattle.sql_plan.specs.Sources.{plain_conjunct, first_of_free}
use Rattle.sql_plan.specs.Stages.{stage_of, free_from}

abbrev pub aggregate_by : Places → Aggregate → Aggregate
aggregate_by places aggregate = record { kind = aggregate.kind; of = option_map (moved_by places) aggregate.of; result = aggregate.result }

abbrev pub grouping_by : Places → Grouping → Grouping
grouping_by places grouping =
    record { keys = map (moved_by places) grouping.keys; aggregates = map (aggregate_by places) grouping.aggregates; having = grouping.having }

-- Above a grouping the items are over the group's row, whose columns stay.
abbrev pub items_by : Places → Option Grouping → List Expr → List Expr
items_by places None items = map (moved_by places) items
items_by places (Some grouping) items = items

-- the grouping and the items of a core
abbrev pub top_by : Places → BoundCore → Option Grouping × List Expr
top_by places core = (option_map (grouping_by places) (out-BoundCore core).grouping, items_by places (out-BoundCore core).grouping (out-BoundCore core).items)

abbrev pub core_with : FromPlan → Bool → List PlanConjunct → (Option Grouping × List Expr) → PlanCore
core_with from distinct others top = roll-PlanCore (record {
  sources = from.sources;
  plain = from.plain;
  others = others;
  grouping = top.0;
  items = top.1;
  distinct = distinct;
})

abbrev pub core_by : FromPlan → List PlanConjunct → BoundCore → PlanCore
core_by from others core = roll-PlanCore (record {
  sources = from.sources;
  plain = from.plain;
  others = others;
  grouping = option_map (grouping_by from.places) (out-BoundCore core).grouping;
  items = items_by from.places (out-BoundCore core).grouping (out-BoundCore core).items;
  distinct = (out-BoundCore core).distinct;
})

-- the stage of a source in written order, whose columns begin at this place
abbrev pub written_stage : ℕ → BoundSource → PlanInput → PlanSource
written_stage at source input =
    stage_of (out-BoundSource source).name input (columns_of_source source) (pads_of (out-BoundSource source).join) (parts_of (split_on at (columns_of_source source) (out-BoundSource source).on))

abbrev pub written_from : List PlanSource → List Conjunct → FromPlan
written_from sources conjuncts = record { places = Kept; sources = sources; plain = filter_map plain_conjunct conjuncts }

-- a conjunct of WHERE over columns at their places afterwards
abbrev pub conjunct_by : Places → PlanConjunct → PlanConjunct
conjunct_by Kept conjunct = conjunct
conjunct_by (Moved list) conjunct = moved_conjunct list conjunct

abbrev pub from_by : Counts → Option BoundSource → List BoundSource → List Conjunct → FromPlan
from_by counts None sources conjuncts = written_from (written_stages 0 (map (plan_of_source counts) sources)) conjuncts
from_by counts (Some first) sources conjuncts = free_from counts first sources conjuncts

-- the FROM of a core: in an order of its own where it is free, else in written order
abbrev pub from_in : Counts → List BoundSource → List Conjunct → FromPlan
from_in counts sources conjuncts = from_by counts (first_of_free sources) sources conjuncts

abbrev pub from_of : Counts → BoundCore → FromPlan
from_of counts core = from_in counts (out-BoundCore core).sources (out-BoundCore core).conjuncts
