use Rattle.std.proofs.Common.{◌+◌, ◌<◌, ap, sym, subst, ◌∙◌, refl, rules, arith, map, drop}
use Rattle.std.specs.List.{AllByRecursion}
use Rattle.bound_tree.specs.declared.select.BoundRows.TheViews.{the_lemmas, out-BoundRows, out-Conjunct, out-SourceRows, outs-Core, outs-Set, outs-Member, outs-Query}
use Rattle.plan_tree.specs.Plannable.{columns_of_sources}
use Rattle.plan_tree.specs.Planned.{plan_of_source, written_stages}
use Rattle.sql_plan.specs.Chosen.{columns_limit}
use Rattle.sql_plan.specs.Counted.{counts_in}
use Rattle.sql_plan.specs.Numbered.{AreNumbered, AreNumberedConjunct, AreNumberedRows, AreNumberedSource}
use Rattle.sql_plan.proofs.NumberedLemmas.{conjunct-query, core-conjuncts, core-here, core-sources, input-query, rows-core, rows-set, select-rows, source-rows}
use Rattle.sql_plan.proofs.PlanMade.{source_further, whole_made}
use Rattle.sql_plan.proofs.SourceLemmas.{all_at, columns_next}
use Rattle.sql_plan.proofs.select.+plan.Goals as goal

pub plan_conjunct-plan_select-requires : goal.plan_conjunct-plan_select-requires
plan_conjunct-plan_select-requires t c = (
  search (rules, the_lemmas),
  subst AreNumbered (sym c.get.ensures)
      (conjunct-query c.args.conjunct.now c.in-Member.of c.in-Member.query c.in-Member.negated (ap out-Conjunct c.in-Member.is ∙ outs-Member c.in-Member.of c.in-Member.query c.in-Member.negated) c.requires),
)

pub plan_core-plan_others-others-requires : goal.plan_core-plan_others-others-requires
plan_core-plan_others-others-requires t c =
    (search (rules, the_lemmas), subst (AllByRecursion AreNumberedConjunct) (sym c.as_slice.ensures) (core-conjuncts c.args.core.now c.requires))

pub plan_core-returns-in-Ok : goal.plan_core-returns-in-Ok
plan_core-returns-in-Ok t c =
    whole_made (counts_in c.args.counts.now) c.args.core.now c.in-Ok.from c.as_slice.result.now c.plan_others-others.result c.core_over.result c.in-Ok.ensures c.as_slice.ensures c.plan_others-others.ensures c.core_over.ensures

pub plan_from-free_from-requires-clause-columns : goal.plan_from-free_from-requires-clause-columns
plan_from-free_from-requires-clause-columns t c = subst (λ l. columns_of_sources l < columns_limit) (sym c.as_slice-sources.ensures) (core-here c.args.core.now c.requires)

pub plan_from-plan_sources-requires : goal.plan_from-plan_sources-requires
plan_from-plan_sources-requires t c = (
  search (rules, the_lemmas),
  (
    subst (λ l. columns_of_sources l < columns_limit) (sym c.as_slice-sources.ensures) (core-here c.args.core.now c.requires),
    subst (AllByRecursion AreNumberedSource) (sym c.as_slice-sources.ensures) (core-sources c.args.core.now c.requires),
  ),
)

pub plan_input-plan_select-requires : goal.plan_input-plan_select-requires
plan_input-plan_select-requires t c =
    (search (rules, the_lemmas), subst AreNumbered (sym c.get.ensures) (input-query c.args.rows.now c.in-Query.select (ap out-SourceRows c.in-Query.is ∙ outs-Query c.in-Query.select) c.requires))

pub plan_rows-plan_core-requires : goal.plan_rows-plan_core-requires
plan_rows-plan_core-requires t c = (search (rules, the_lemmas), rows-core c.args.rows.now c.in-Core.core (ap out-BoundRows c.in-Core.is ∙ outs-Core c.in-Core.core) c.requires)

pub plan_rows-plan_rows-requires : goal.plan_rows-plan_rows-requires
plan_rows-plan_rows-requires t c =
    let both = rows-set c.args.rows.now c.in-Set.kind c.in-Set.all c.in-Set.left c.in-Set.right c.in-Set.kinds (ap out-BoundRows c.in-Set.is ∙ outs-Set c.in-Set.kind c.in-Set.all c.in-Set.left c.in-Set.right c.in-Set.kinds) c.requires in
    (search (rules, the_lemmas), subst AreNumberedRows (sym c.get.ensures) both.0)

pub plan_rows-plan_rows-requires-in-Set : goal.plan_rows-plan_rows-requires-in-Set
plan_rows-plan_rows-requires-in-Set t c =
    let both = rows-set c.args.rows.now c.in-Set.kind c.in-Set.all c.in-Set.left c.in-Set.right c.in-Set.kinds (ap out-BoundRows c.in-Set.is ∙ outs-Set c.in-Set.kind c.in-Set.all c.in-Set.left c.in-Set.right c.in-Set.kinds) c.requires in
    (search (rules, the_lemmas), subst AreNumberedRows (sym c.get-in-Set.ensures) both.1)

pub plan_select-plan_rows-rows-requires : goal.plan_select-plan_rows-rows-requires
plan_select-plan_rows-rows-requires t c = (search (rules, the_lemmas), subst AreNumberedRows (sym c.get.ensures) (select-rows c.args.select.now c.requires))

pub plan_sources-plan_input-input-requires : goal.plan_sources-plan_input-input-requires
plan_sources-plan_input-input-requires t c = (
  search (rules, the_lemmas),
  source-rows c.source-item.result
      (all_at AreNumberedSource c.args.sources.now c.loop-source.source-index c.source-item.result c.loop-source-test.true c.source-item.is c.requires.numbered),
)

pub plan_sources-overflow_add-at : goal.plan_sources-overflow_add-at
unfolding columns_limit
plan_sources-overflow_add-at t c =
    let e = columns_next c.args.sources.now c.loop-source.source-index c.source-item.result c.loop-source.at (columns_of_sources c.args.sources.now) c.loop-source-test.true c.source-item.is c.loop-source.invariant.columns in
    omega (arith, c.requires.columns, c.width_of-at.ensures)

pub plan_sources-loop-source-preserved : goal.plan_sources-loop-source-preserved
plan_sources-loop-source-preserved t c =
    let sources = c.args.sources.now in
    let i = c.loop-source.source-index in
    record {
      far =
          source_further (counts_in c.args.counts.now) (written_stages 0 (map (plan_of_source (counts_in c.args.counts.now)) sources)) c.loop-source.at (c.loop-source.at + c.width_of-at.result) c.loop-source.stages
          c.plan_input-input.result c.written_stage.result c.one_more-stages.result sources i c.source-item.result c.source-item.result.rows c.loop-source-test.true c.source-item.is refl
          (ap (λ w. c.loop-source.at + w) c.width_of-at.ensures) c.loop-source.invariant.far c.plan_input-input.ensures c.written_stage.ensures c.one_more-stages.ensures;
      columns =
          ap (λ w. (c.loop-source.at + w) + columns_of_sources (drop (i + 1) sources)) c.width_of-at.ensures
          ∙ columns_next sources i c.source-item.result c.loop-source.at (columns_of_sources sources) c.loop-source-test.true c.source-item.is c.loop-source.invariant.columns;
    }
