use Rattle.std.proofs.Common.{◌<◌, ap, sym, subst, ◌∙◌, arith}
use Rattle.std.specs.List.{AllByRecursion}
use Rattle.std.proofs.lemmas.Bool.{and_parts}
use Rattle.std.proofs.lemmas.List.{drop_all}
use Rattle.bound_tree.specs.declared.select.BoundRows.TheViews.{out-BoundRows, out-Conjunct, out-SourceRows, outs-Core, outs-Set, outs-Condition, outs-Member, outs-Table, outs-Query}
use Rattle.plan_tree.specs.Plannable.{columns_of_sources}
use Rattle.sql_plan.specs.Chosen.{columns_limit}
use Rattle.sql_plan.specs.Numbered.{AreNumbered, AreNumberedConjunct, AreNumberedRows, AreNumberedSource}
use Rattle.plan_runs.proofs.Made.{rows-core, rows-set, input-table, input-query, conjunct-condition, conjunct-member, core-made, select-made, source-made, begins, goes_on, ends}
use Rattle.plan_runs.proofs.numbered.+numbered.Goals as goal

pub is_numbered_input-returns-in-Table : goal.is_numbered_input-returns-in-Table
is_numbered_input-returns-in-Table t c = λ h. input-table c.args.rows.now _ (ap out-SourceRows c.in-Table.is ∙ outs-Table _)

pub is_numbered_input-returns-in-Query : goal.is_numbered_input-returns-in-Query
is_numbered_input-returns-in-Query t c =
    λ h. input-query c.args.rows.now c.in-Query.select (ap out-SourceRows c.in-Query.is ∙ outs-Query c.in-Query.select) (subst AreNumbered c.get.ensures (c.is_numbered.ensures h))

pub are_numbered_sources-loop-source-init : goal.are_numbered_sources-loop-source-init
are_numbered_sources-loop-source-init t c = begins AreNumberedSource c.args.sources.now _

pub are_numbered_sources-loop-source-preserved : goal.are_numbered_sources-loop-source-preserved
are_numbered_sources-loop-source-preserved t c =
    goes_on AreNumberedSource c.args.sources.now c.loop-source.source-index c.source-item.result c.loop-source.all c.is_numbered_input.result c.both-all.result
    c.loop-source-test.true c.source-item.is c.loop-source.invariant (λ h. source-made c.source-item.result (c.is_numbered_input.ensures h)) c.both-all.ensures

pub are_numbered_sources-returns : goal.are_numbered_sources-returns
are_numbered_sources-returns t c =
    ends AreNumberedSource c.args.sources.now c.loop-source.source-index c.loop-source.all (drop_all c.loop-source.source-index c.args.sources.now (omega arith)) c.loop-source.invariant

pub is_numbered_conjunct-returns-in-Condition : goal.is_numbered_conjunct-returns-in-Condition
is_numbered_conjunct-returns-in-Condition t c = λ h. conjunct-condition c.args.conjunct.now _ (ap out-Conjunct c.in-Condition.is ∙ outs-Condition _)

pub is_numbered_conjunct-returns-in-Member : goal.is_numbered_conjunct-returns-in-Member
is_numbered_conjunct-returns-in-Member t c =
    λ h. conjunct-member c.args.conjunct.now _ c.in-Member.query _ (ap out-Conjunct c.in-Member.is ∙ outs-Member _ c.in-Member.query _) (subst AreNumbered c.get.ensures (c.is_numbered.ensures h))

pub are_numbered_conjuncts-loop-conjunct-init : goal.are_numbered_conjuncts-loop-conjunct-init
are_numbered_conjuncts-loop-conjunct-init t c = begins AreNumberedConjunct c.args.conjuncts.now _

pub are_numbered_conjuncts-loop-conjunct-preserved : goal.are_numbered_conjuncts-loop-conjunct-preserved
are_numbered_conjuncts-loop-conjunct-preserved t c =
    goes_on AreNumberedConjunct c.args.conjuncts.now c.loop-conjunct.conjunct-index c.conjunct-item.result c.loop-conjunct.all c.is_numbered_conjunct.result c.both-all.result
    c.loop-conjunct-test.true c.conjunct-item.is c.loop-conjunct.invariant c.is_numbered_conjunct.ensures c.both-all.ensures

pub are_numbered_conjuncts-returns : goal.are_numbered_conjuncts-returns
are_numbered_conjuncts-returns t c =
    ends AreNumberedConjunct c.args.conjuncts.now c.loop-conjunct.conjunct-index c.loop-conjunct.all (drop_all c.loop-conjunct.conjunct-index c.args.conjuncts.now (omega arith)) c.loop-conjunct.invariant

pub is_numbered_core-returns : goal.is_numbered_core-returns
is_numbered_core-returns t c =
    λ h.
    let outer = and_parts c.are_few-few.result c.both.result (sym c.both-2.ensures ∙ h) in
    let inner = and_parts c.are_numbered_sources-from.result c.are_numbered_conjuncts-filter.result (sym c.both.ensures ∙ outer.1) in
    core-made c.args.core.now
    (subst (λ l. columns_of_sources l < columns_limit) c.as_slice-sources.ensures (c.are_few-few.ensures outer.0))
    (subst (AllByRecursion AreNumberedSource) c.as_slice-sources.ensures (c.are_numbered_sources-from.ensures inner.0))
    (subst (AllByRecursion AreNumberedConjunct) c.as_slice.ensures (c.are_numbered_conjuncts-filter.ensures inner.1))

pub are_numbered_rows-returns-in-Core : goal.are_numbered_rows-returns-in-Core
are_numbered_rows-returns-in-Core t c = λ h. rows-core c.args.rows.now c.in-Core.core (ap out-BoundRows c.in-Core.is ∙ outs-Core c.in-Core.core) (c.is_numbered_core.ensures h)

pub are_numbered_rows-returns-in-Set : goal.are_numbered_rows-returns-in-Set
are_numbered_rows-returns-in-Set t c =
    λ h.
    let parts = and_parts c.are_numbered_rows-first.result c.are_numbered_rows-second.result (sym c.both.ensures ∙ h) in
    rows-set c.args.rows.now _ _ c.in-Set.left c.in-Set.right _ (ap out-BoundRows c.in-Set.is ∙ outs-Set _ _ c.in-Set.left c.in-Set.right _)
    (subst AreNumberedRows c.get.ensures (c.are_numbered_rows-first.ensures parts.0))
    (subst AreNumberedRows c.get-in-Set.ensures (c.are_numbered_rows-second.ensures parts.1))

pub is_numbered-returns : goal.is_numbered-returns
is_numbered-returns t c = λ h. select-made c.args.select.now (subst AreNumberedRows c.get.ensures (c.are_numbered_rows.ensures h))
