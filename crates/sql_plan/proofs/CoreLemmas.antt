-- The plan of a core, by its FROM and what stands above it.
use Rattle.std.proofs.Common.{◌≡◌, ℕ, ◌+◌, ◌≤◌, Bool, true, false, cond, List, [], ◌∷◌, ◌++◌, map, refl, sym, ap, ap₂, ◌∙◌, length, Option, Some, None, arith}
use Rattle.std.specs.Prelude.{filter, not, ◌&&◌, is_some, slice_index_or}
use Rattle.std.specs.Option.{option_map}
use Rattle.std.specs.List.{list_all, filter_map}
use Rattle.sql_expr.specs.declared.tree.Expr.{Expr}
use Rattle.bound_tree.specs.declared.select.Aggregate.{Aggregate}
use Rattle.bound_tree.specs.declared.select.Grouping.{Grouping}
use Rattle.bound_tree.specs.declared.select.BoundCore.{BoundCore}
use Rattle.bound_tree.specs.declared.select.BoundSource.{BoundSource}
use Rattle.bound_tree.specs.declared.select.Conjunct.{Conjunct}
use Rattle.bound_tree.specs.declared.select.BoundRows.TheViews.{out-BoundCore, out-BoundSource}
use Rattle.sql_meaning.specs.Moved.{moved}
use Rattle.sql_meaning.specs.Statements.{pads_of}
use Rattle.plan_tree.specs.declared.parts.Entry.{Entry}
use Rattle.plan_tree.specs.declared.parts.SourcePlan.{SourcePlan}
use Rattle.plan_tree.specs.declared.stages.PlanConjunct.{PlanConjunct}
use Rattle.plan_tree.specs.declared.stages.PlanCore.{PlanCore}
use Rattle.plan_tree.specs.declared.stages.PlanSource.{PlanSource}
use Rattle.plan_tree.specs.declared.stages.PlanConjunct.TheViews.{roll-PlanCore}
use Rattle.plan_tree.specs.Split.{JoinParts, split, linked_columns, is_plain_expr}
use Rattle.plan_tree.specs.Order.{Pick, picks, places_of_picks}
use Rattle.plan_tree.specs.FreeFrom.{FreeTable, names_columns, pool_of, picks_of, places_of_plan, ready}
use Rattle.plan_tree.specs.Planned.{Counts, plan_source, other_conjuncts, free_stages, free_core, written_core, planned_core, written_stages, source_at, moved_conjunct, moved_grouping, moved_items, plan_of_core, plan_of_source, plan_of_conjunct}
use Rattle.sql_plan.specs.declared.free.FromPlan.{FromPlan}
use Rattle.sql_plan.specs.declared.places.Places.TheVariants.{Kept, Moved}
use Rattle.sql_plan.specs.Chosen.{chosen_of, places_of_chosen}
use Rattle.sql_plan.specs.Conjuncts.{parts_of}
use Rattle.sql_plan.specs.Cores.{aggregate_by, grouping_by, items_by, core_by, conjunct_by, from_by, from_in, from_of}
use Rattle.sql_plan.specs.Places.{moved_by}
use Rattle.sql_plan.specs.Sources as bound
use Rattle.sql_plan.specs.Stages as stages
use Rattle.sql_plan.proofs.PlanOut.{core_is, source_is}
use Rattle.sql_plan.proofs.ChosenLemmas.{places-chosen}
use Rattle.sql_plan.proofs.MoveLemmas.{keep_list}
use Rattle.sql_plan.proofs.FreeLemmas.{table-planned, free-sources, tables-are, plains-are, ons-are, entries-long, from_low, ready-is, later-is, all-low, index-map, index-all}

and-left : (a b : Bool) → (a && b) ≡ true → a ≡ true
and-left true b is = refl
and-left false b is = is

-- ---- where columns stand as they did

keep_aggregate : (a : Aggregate) → aggregate_by Kept a ≡ a
keep_aggregate a = λ i. record { kind = a.kind; of = keep a.of i; result = a.result }
  where
    keep : (of : Option Expr) → option_map (moved_by Kept) of ≡ of
    keep None = refl
    keep (Some e) = refl

keep_aggregates : (list : List Aggregate) → map (aggregate_by Kept) list ≡ list
keep_aggregates [] = refl
keep_aggregates (a ∷ list) = ap₂ ◌∷◌ (keep_aggregate a) (keep_aggregates list)

keep_grouping : (grouping : Option Grouping) → option_map (grouping_by Kept) grouping ≡ grouping
keep_grouping None = refl
keep_grouping (Some g) = λ i. Some (record { keys = keep_list g.keys i; aggregates = keep_aggregates g.aggregates i; having = g.having })

keep_items : (grouping : Option Grouping) (items : List Expr) → items_by Kept grouping items ≡ items
keep_items None items = keep_list items
keep_items (Some g) items = refl

keep_conjuncts : (list : List PlanConjunct) → map (conjunct_by Kept) list ≡ list
keep_conjuncts [] = refl
keep_conjuncts (c ∷ list) = ap (λ l. c ∷ l) (keep_conjuncts list)

moved-items : (places : List ℕ) (grouping : Option Grouping) (items : List Expr) → moved_items places grouping items ≡ items_by (Moved places) grouping items
moved-items places None items = refl
moved-items places (Some g) items = refl

module _ (counts : Counts) where
  abbrev plan_source_of : BoundSource → SourcePlan
  plan_source_of = plan_of_source counts

  stage-is : (source : BoundSource) (width : ℕ) (parts : JoinParts) → bound.is_free_source source ≡ true
      → plan_source (record (plan_source_of source) { width = width; pads = false }) parts ≡ stages.table_stage source width (parts_of parts)
  stage-is source width parts free =
      let there = and-left (is_some (bound.table_name (out-BoundSource source).rows)) (not (pads_of (out-BoundSource source).join) && list_all is_plain_expr (out-BoundSource source).on) free in
      ap (λ (p : SourcePlan). plan_source (record p { width = width; pads = false }) parts) (source_is counts source)
      ∙ ap (λ input. stages.stage_of (out-BoundSource source).name input width false (parts_of parts)) (table-planned counts (out-BoundSource source).rows there)

  module _ (first : BoundSource) (rest : List BoundSource) (all : list_all bound.is_free_source (first ∷ rest) ≡ true) (places : List ℕ) where
    abbrev sources : List BoundSource
    sources = first ∷ rest

    abbrev source : Entry → SourcePlan
    source = source_at (plan_source_of first) (map plan_source_of rest)

    first_free : bound.is_free_source first ≡ true
    first_free = and-left (bound.is_free_source first) (list_all bound.is_free_source rest) all

    pub stages-are : (low at : ℕ) (list : List (Pick Entry)) (es : List Expr) → low ≤ at + 1
        → free_stages source places at (map (λ (one : Pick Entry). one.item) list) (from_low places low es) ≡ stages.free_stages first sources low at (map chosen_of list) (map (moved places) es)
    stages-are low at [] es h = refl
    stages-are low at (one ∷ list) es h =
        let entry = one.item in
        let there = slice_index_or sources entry.place first in
        let parts = λ (cs : List Expr). split at entry.width cs [] in
        let same : source entry ≡ plan_source_of there = index-map plan_source_of sources entry.place first in
        let head =
        ap (λ (p : SourcePlan). plan_source (record p { width = entry.width; pads = false }) (parts (map (moved places) (ready places (at + entry.width) (from_low places low es))))) same
        ∙ stage-is there entry.width (parts (map (moved places) (ready places (at + entry.width) (from_low places low es)))) (index-all bound.is_free_source sources entry.place first all first_free)
        ∙ ap (λ cs. stages.table_stage there entry.width (parts_of (parts cs))) (ready-is places low (at + entry.width) es) in
        let tail =
        ap (free_stages source places (at + entry.width) (map (λ (one : Pick Entry). one.item) list)) (later-is places low (at + entry.width) es (omega arith))
        ∙ stages-are (at + entry.width + 1) (at + entry.width) list es (omega arith) in
        ap₂ ◌∷◌ head tail

  -- a free FROM
  module _ (first : BoundSource) (rest : List BoundSource) (all : list_all bound.is_free_source (first ∷ rest) ≡ true) (conjuncts : List Conjunct) (grouping : Option Grouping) (items : List Expr) (distinct : Bool) where
    abbrev tables : List FreeTable
    tables = map (bound.bound_table counts) (first ∷ rest)

    abbrev plain : List Expr
    plain = filter_map bound.plain_conjunct conjuncts

    abbrev others : List PlanConjunct
    others = other_conjuncts (map (plan_of_conjunct counts) conjuncts)

    abbrev pool : List Expr
    pool = stages.bound_pool (first ∷ rest) conjuncts

    abbrev entries : List Entry
    entries = stages.bound_entries counts (first ∷ rest)

    abbrev chosen : List (Pick Entry)
    chosen = picks (length entries) (filter_map linked_columns pool) [] entries

    abbrev core_at : List ℕ → List (Pick Entry) → List Expr → PlanCore
    core_at places list pool = roll-PlanCore (record {
      sources = free_stages (source_at (plan_source_of first) (map plan_source_of rest)) places 0 (map (λ (one : Pick Entry). one.item) list) (filter names_columns pool);
      plain = map (moved places) (filter (λ expr. not (names_columns expr)) pool);
      others = map (moved_conjunct places) others;
      grouping = option_map (moved_grouping places) grouping;
      items = moved_items places grouping items;
      distinct = distinct;
    })

    abbrev core_of_tables : List FreeTable → List Expr → PlanCore
    core_of_tables ts ps = core_at (places_of_plan ts ps) (picks_of ts ps) (pool_of ts ps)

    pool-is : pool_of tables plain ≡ pool
    pool-is = ap (λ es. plain ++ es) (ons-are counts (first ∷ rest))

    picks-are : picks_of tables plain ≡ chosen
    picks-are = λ i. picks (sym (entries-long 0 0 tables) i) (filter_map linked_columns (pool-is i)) [] entries

    places-are : places_of_plan tables plain ≡ places_of_chosen 0 (map chosen_of chosen)
    places-are = ap (places_of_picks 0) picks-are ∙ places-chosen 0 chosen

    abbrev from : FromPlan
    from = stages.free_from counts first (first ∷ rest) conjuncts

    abbrev places : List ℕ
    places = places_of_chosen 0 (map chosen_of chosen)

    pub free-is : free_core counts (plan_source_of first) (map plan_source_of rest) (map (plan_of_conjunct counts) conjuncts) grouping items distinct
        ≡ roll-PlanCore (record {
          sources = from.sources;
          plain = from.plain;
          others = map (conjunct_by from.places) others;
          grouping = option_map (grouping_by from.places) grouping;
          items = items_by from.places grouping items;
          distinct = distinct;
        })
    free-is =
        ap₂ core_of_tables (tables-are counts (first ∷ rest)) (plains-are counts conjuncts)
        ∙ (λ i. core_at (places-are i) (picks-are i) (pool-is i))
        ∙ (λ i. roll-PlanCore (record {
          sources = (ap (free_stages (source_at (plan_source_of first) (map plan_source_of rest)) places 0 (map (λ (one : Pick Entry). one.item) chosen)) (sym (all-low places (filter names_columns pool)))
              ∙ stages-are first rest all places 0 0 chosen (filter names_columns pool) (omega arith)) i;
          plain = from.plain;
          others = map (moved_conjunct places) others;
          grouping = option_map (moved_grouping places) grouping;
          items = moved-items places grouping items i;
          distinct = distinct;
        }))

  written-is : (sources : List BoundSource) (conjuncts : List Conjunct) (grouping : Option Grouping) (items : List Expr) (distinct : Bool) (stages : List PlanSource)
      → stages ≡ written_stages 0 (map plan_source_of sources)
      → written_core (map plan_source_of sources) (map (plan_of_conjunct counts) conjuncts) grouping items distinct
      ≡ roll-PlanCore (record {
        sources = stages;
        plain = filter_map bound.plain_conjunct conjuncts;
        others = map (conjunct_by Kept) (other_conjuncts (map (plan_of_conjunct counts) conjuncts));
        grouping = option_map (grouping_by Kept) grouping;
        items = items_by Kept grouping items;
        distinct = distinct;
      })
  written-is sources conjuncts grouping items distinct stages is = λ i. roll-PlanCore (record {
    sources = sym is i;
    plain = plains-are counts conjuncts i;
    others = sym (keep_conjuncts (other_conjuncts (map (plan_of_conjunct counts) conjuncts))) i;
    grouping = sym (keep_grouping grouping) i;
    items = sym (keep_items grouping items) i;
    distinct = distinct;
  })

  abbrev core_with : FromPlan → List Conjunct → Option Grouping → List Expr → Bool → PlanCore
  core_with from conjuncts grouping items distinct = roll-PlanCore (record {
    sources = from.sources;
    plain = from.plain;
    others = map (conjunct_by from.places) (other_conjuncts (map (plan_of_conjunct counts) conjuncts));
    grouping = option_map (grouping_by from.places) grouping;
    items = items_by from.places grouping items;
    distinct = distinct;
  })

  core-parts : (sources : List BoundSource) (conjuncts : List Conjunct) (grouping : Option Grouping) (items : List Expr) (distinct : Bool)
      → planned_core counts (map plan_source_of sources) (map (plan_of_conjunct counts) conjuncts) grouping items distinct ≡ core_with (from_in counts sources conjuncts) conjuncts grouping items distinct
  core-parts [] conjuncts grouping items distinct = written-is [] conjuncts grouping items distinct [] refl
  core-parts (first ∷ rest) conjuncts grouping items distinct =
      ap (λ b. cond b (free_core counts (plan_source_of first) (map plan_source_of rest) cs grouping items distinct) (written_core (map plan_source_of (first ∷ rest)) cs grouping items distinct)) (free-sources counts (first ∷ rest))
      ∙ go (list_all bound.is_free_source (first ∷ rest)) refl
    where
      cs : List PlanConjunct
      cs = map (plan_of_conjunct counts) conjuncts

      go : (b : Bool) → list_all bound.is_free_source (first ∷ rest) ≡ b
          → cond b (free_core counts (plan_source_of first) (map plan_source_of rest) (map (plan_of_conjunct counts) conjuncts) grouping items distinct) (written_core (map plan_source_of (first ∷ rest)) (map (plan_of_conjunct counts) conjuncts) grouping items distinct)
          ≡ core_with (from_by counts (cond b (Some first) None) (first ∷ rest) conjuncts) conjuncts grouping items distinct
      go true all = free-is first rest all conjuncts grouping items distinct
      go false all = written-is (first ∷ rest) conjuncts grouping items distinct (written_stages 0 (map plan_source_of (first ∷ rest))) refl

  -- the plan of a core
  pub core-is : (core : BoundCore) → plan_of_core counts core ≡ core_by (from_of counts core) (map (conjunct_by (from_of counts core).places) (other_conjuncts (map (plan_of_conjunct counts) (out-BoundCore core).conjuncts))) core
  core-is core = core_is counts core ∙ core-parts (out-BoundCore core).sources (out-BoundCore core).conjuncts (out-BoundCore core).grouping (out-BoundCore core).items (out-BoundCore core).distinct
