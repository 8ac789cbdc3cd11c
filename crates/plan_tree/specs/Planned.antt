-- The plan of a bound SELECT.
use Rattle.std.specs.Option.{option_map}
use Rattle.std.specs.Prelude.{ℕ, ◌+◌, Bool, false, ◌&&◌, not, is_some, if◌then◌else◌, List, [], ◌∷◌, map, filter, length, slice_index_or, Option, Some, None}
use Rattle.std.specs.List.{list_all, filter_map}
use Rattle.sql_expr.specs.declared.tree.Expr.{Expr}
use Rattle.bound_tree.specs.declared.select.Aggregate.{Aggregate}
use Rattle.bound_tree.specs.declared.select.Grouping.{Grouping}
use Rattle.bound_tree.specs.declared.select.BoundCore.{BoundCore}
use Rattle.bound_tree.specs.declared.select.BoundRows.{BoundRows}
use Rattle.bound_tree.specs.declared.select.BoundSource.{BoundSource}
use Rattle.bound_tree.specs.declared.select.Conjunct.{Conjunct}
use Rattle.bound_tree.specs.declared.select.SourceRows.{SourceRows}
use Rattle.bound_tree.specs.declared.select.BoundSelect.{BoundSelect}
use Rattle.bound_tree.specs.declared.select.BoundRows.TheOpen.{BoundCore-F, BoundRows-F, BoundSelect-F, BoundSource-F, Conjunct-F, SourceRows-F}
use Rattle.bound_tree.specs.declared.select.BoundRows.TheFolds.{fold-BoundCore, fold-BoundRows, fold-BoundSelect, fold-BoundSource, fold-Conjunct, fold-SourceRows}
use Rattle.sql_meaning.specs.Moved.{moved}
use Rattle.sql_meaning.specs.Stage.{KeyPair}
use Rattle.sql_meaning.specs.Statements.{pads_of}
use Rattle.plan_tree.specs.declared.parts.Entry.{Entry}
use Rattle.plan_tree.specs.declared.parts.SourcePlan.{SourcePlan}
use Rattle.plan_tree.specs.declared.stages.KeyColumns.{KeyColumns}
use Rattle.plan_tree.specs.declared.stages.PlanConjunct.{PlanConjunct}
use Rattle.plan_tree.specs.declared.stages.PlanCore.{PlanCore}
use Rattle.plan_tree.specs.declared.stages.PlanInput.{PlanInput}
use Rattle.plan_tree.specs.declared.stages.PlanRows.{PlanRows}
use Rattle.plan_tree.specs.declared.stages.PlanSelect.{PlanSelect}
use Rattle.plan_tree.specs.declared.stages.PlanSource.{PlanSource}
use Rattle.plan_tree.specs.declared.stages.PlanConjunct.TheOpen.{PlanConjunct-F, PlanInput-F, PlanRows-F}
use Rattle.plan_tree.specs.declared.stages.PlanConjunct.TheViews.{out-PlanConjunct, out-PlanInput, roll-PlanConjunct, roll-PlanCore, roll-PlanInput, roll-PlanRows, roll-PlanSelect, roll-PlanSource}
use Rattle.plan_tree.specs.Split.{JoinParts, is_plain_expr, split, split_on}
use Rattle.plan_tree.specs.Order.{Pick}
use Rattle.plan_tree.specs.FreeFrom.{FreeTable, picks_of, places_of_plan, ready, later, named, bare}

-- how many rows each table has, by its name in small letters
abbrev pub Counts : Type 0
Counts = List ℕ → ℕ

abbrev pub key_columns : KeyPair → KeyColumns
key_columns key = record { left = key.left; right = key.right }

-- the stage of a source
abbrev pub plan_source : SourcePlan → JoinParts → PlanSource
plan_source source parts = roll-PlanSource (record {
  name = source.name;
  rows = source.input;
  width = source.width;
  pads = source.pads;
  filters = parts.filters;
  keys = map key_columns parts.keys;
  rest = parts.rest;
})

-- ---- what is left in WHERE

abbrev pub plain_in : PlanConjunct-F PlanConjunct PlanInput PlanRows PlanCore PlanSelect PlanSource → Option Expr
plain_in (PlanConjunct-F.Condition expr) = if is_plain_expr expr then Some expr else None
plain_in (PlanConjunct-F.Member of query negated) = None

-- a plain conjunct as an expression
abbrev pub plain_of : PlanConjunct → Option Expr
plain_of conjunct = plain_in (out-PlanConjunct conjunct)

abbrev pub plain_conjuncts : List PlanConjunct → List Expr
plain_conjuncts = filter_map plain_of

abbrev pub other_conjuncts : List PlanConjunct → List PlanConjunct
other_conjuncts = filter (λ conjunct. not (is_some (plain_of conjunct)))

-- ---- a FROM that isn't free: the written order

abbrev pub written_stages : ℕ → List SourcePlan → List PlanSource
written_stages at [] = []
written_stages at (source ∷ sources) = plan_source source (split_on at source.width source.on) ∷ written_stages (at + source.width) sources

-- ---- a free FROM: in the order of its counts

abbrev pub table_in : PlanInput-F PlanConjunct PlanInput PlanRows PlanCore PlanSelect PlanSource → Option (List ℕ)
table_in (PlanInput-F.Table name) = Some name
table_in (PlanInput-F.Query select) = None

-- the table that is read, if it is one
abbrev pub table_of : PlanInput → Option (List ℕ)
table_of input = table_in (out-PlanInput input)

-- All sources are tables, all joins are inner, and all conjuncts of ON are plain.
abbrev pub is_free_source : SourcePlan → Bool
is_free_source source = is_some (table_of source.input) && (not source.pads && list_all is_plain_expr source.on)

abbrev pub is_free : List SourcePlan → Bool
is_free = list_all is_free_source

abbrev pub rows_counted : Counts → Option (List ℕ) → ℕ
rows_counted counts None = 0
rows_counted counts (Some name) = counts name

abbrev pub free_table : Counts → SourcePlan → FreeTable
free_table counts source = record { width = source.width; rows = rows_counted counts (table_of source.input); on = source.on }

abbrev pub free_tables : Counts → List SourcePlan → List FreeTable
free_tables counts = map (free_table counts)

-- each source in the plan's order, with the conjuncts that act at it
abbrev pub free_stages : (Entry → SourcePlan) → List ℕ → ℕ → List Entry → List Expr → List PlanSource
free_stages source places at [] conjuncts = []
free_stages source places at (entry ∷ entries) conjuncts =
    plan_source (record (source entry) { width = entry.width; pads = false }) (split at entry.width (map (moved places) (ready places (at + entry.width) conjuncts)) [])
    ∷ free_stages source places (at + entry.width) entries (later places (at + entry.width) conjuncts)

abbrev pub source_at : SourcePlan → List SourcePlan → Entry → SourcePlan
source_at first sources entry = slice_index_or (first ∷ sources) entry.place first

abbrev pub moved_aggregate : List ℕ → Aggregate → Aggregate
moved_aggregate places aggregate = record { kind = aggregate.kind; of = option_map (moved places) aggregate.of; result = aggregate.result }

abbrev pub moved_grouping : List ℕ → Grouping → Grouping
moved_grouping places grouping =
    record { keys = map (moved places) grouping.keys; aggregates = map (moved_aggregate places) grouping.aggregates; having = grouping.having }

abbrev pub moved_in : List ℕ → PlanConjunct-F PlanConjunct PlanInput PlanRows PlanCore PlanSelect PlanSource → PlanConjunct
moved_in places (PlanConjunct-F.Condition expr) = roll-PlanConjunct (PlanConjunct-F.Condition (moved places expr))
moved_in places (PlanConjunct-F.Member expr query negated) = roll-PlanConjunct (PlanConjunct-F.Member (moved places expr) query negated)

abbrev pub moved_conjunct : List ℕ → PlanConjunct → PlanConjunct
moved_conjunct places conjunct = moved_in places (out-PlanConjunct conjunct)

-- Above a grouping the expressions are over the group's row, whose columns stay.
abbrev pub moved_items : List ℕ → Option Grouping → List Expr → List Expr
moved_items places None items = map (moved places) items
moved_items places (Some grouping) items = items

-- ---- a core

abbrev pub written_core : List SourcePlan → List PlanConjunct → Option Grouping → List Expr → Bool → PlanCore
written_core sources conjuncts grouping items distinct = roll-PlanCore (record {
  sources = written_stages 0 sources;
  plain = plain_conjuncts conjuncts;
  others = other_conjuncts conjuncts;
  grouping = grouping;
  items = items;
  distinct = distinct;
})

abbrev pub free_core : Counts → SourcePlan → List SourcePlan → List PlanConjunct → Option Grouping → List Expr → Bool → PlanCore
free_core counts first sources conjuncts grouping items distinct =
    let tables = free_tables counts (first ∷ sources) in
    let plain = plain_conjuncts conjuncts in
    let places = places_of_plan tables plain in
    roll-PlanCore (record {
      sources = free_stages (source_at first sources) places 0 (map (λ (one : Pick Entry). one.item) (picks_of tables plain)) (named tables plain);
      plain = map (moved places) (bare tables plain);
      others = map (moved_conjunct places) (other_conjuncts conjuncts);
      grouping = option_map (moved_grouping places) grouping;
      items = moved_items places grouping items;
      distinct = distinct;
    })

abbrev pub planned_core : Counts → List SourcePlan → List PlanConjunct → Option Grouping → List Expr → Bool → PlanCore
planned_core counts [] conjuncts grouping items distinct = written_core [] conjuncts grouping items distinct
planned_core counts (first ∷ sources) conjuncts grouping items distinct =
    if is_free (first ∷ sources) then free_core counts first sources conjuncts grouping items distinct
    else written_core (first ∷ sources) conjuncts grouping items distinct

-- ---- the whole, by its parts

abbrev pub plan_rows_step : BoundRows-F PlanRows PlanConjunct PlanInput PlanCore PlanSelect SourcePlan → PlanRows
plan_rows_step (BoundRows-F.Core core) = roll-PlanRows (PlanRows-F.Core core)
plan_rows_step (BoundRows-F.Set kind all left right kinds) = roll-PlanRows (PlanRows-F.Set kind all left right)

abbrev pub plan_conjunct_step : Conjunct-F PlanRows PlanConjunct PlanInput PlanCore PlanSelect SourcePlan → PlanConjunct
plan_conjunct_step (Conjunct-F.Condition expr) = roll-PlanConjunct (PlanConjunct-F.Condition expr)
plan_conjunct_step (Conjunct-F.Member expr query negated) = roll-PlanConjunct (PlanConjunct-F.Member expr query negated)

abbrev pub plan_input_step : SourceRows-F PlanRows PlanConjunct PlanInput PlanCore PlanSelect SourcePlan → PlanInput
plan_input_step (SourceRows-F.Table name) = roll-PlanInput (PlanInput-F.Table name)
plan_input_step (SourceRows-F.Query select) = roll-PlanInput (PlanInput-F.Query select)

abbrev pub plan_core_step : Counts → BoundCore-F PlanRows PlanConjunct PlanInput PlanCore PlanSelect SourcePlan → PlanCore
plan_core_step counts core = planned_core counts core.sources core.conjuncts core.grouping core.items core.distinct

abbrev pub plan_select_step : BoundSelect-F PlanRows PlanConjunct PlanInput PlanCore PlanSelect SourcePlan → PlanSelect
plan_select_step select = roll-PlanSelect (record { rows = select.rows; columns = select.columns; cut = select.cut })

abbrev pub plan_source_step : BoundSource-F PlanRows PlanConjunct PlanInput PlanCore PlanSelect SourcePlan → SourcePlan
plan_source_step source = record { name = source.name; input = source.rows; width = length source.kinds; pads = pads_of source.join; on = source.on }

-- the plan of the rows of a SELECT
abbrev pub plan_of_rows : Counts → BoundRows → PlanRows
plan_of_rows counts = fold-BoundRows PlanRows PlanConjunct PlanInput PlanCore PlanSelect SourcePlan plan_rows_step plan_conjunct_step plan_input_step (plan_core_step counts) plan_select_step plan_source_step

abbrev pub plan_of_select : Counts → BoundSelect → PlanSelect
plan_of_select counts = fold-BoundSelect PlanRows PlanConjunct PlanInput PlanCore PlanSelect SourcePlan plan_rows_step plan_conjunct_step plan_input_step (plan_core_step counts) plan_select_step plan_source_step

abbrev pub plan_of_core : Counts → BoundCore → PlanCore
plan_of_core counts = fold-BoundCore PlanRows PlanConjunct PlanInput PlanCore PlanSelect SourcePlan plan_rows_step plan_conjunct_step plan_input_step (plan_core_step counts) plan_select_step plan_source_step

abbrev pub plan_of_source : Counts → BoundSource → SourcePlan
plan_of_source counts = fold-BoundSource PlanRows PlanConjunct PlanInput PlanCore PlanSelect SourcePlan plan_rows_step plan_conjunct_step plan_input_step (plan_core_step counts) plan_select_step plan_source_step

abbrev pub plan_of_conjunct : Counts → Conjunct → PlanConjunct
plan_of_conjunct counts = fold-Conjunct PlanRows PlanConjunct PlanInput PlanCore PlanSelect SourcePlan plan_rows_step plan_conjunct_step plan_input_step (plan_core_step counts) plan_select_step plan_source_step

abbrev pub plan_of_input : Counts → SourceRows → PlanInput
plan_of_input counts = fold-SourceRows PlanRows PlanConjunct PlanInput PlanCore PlanSelect SourcePlan plan_rows_step plan_conjunct_step plan_input_step (plan_core_step counts) plan_select_step plan_source_step
