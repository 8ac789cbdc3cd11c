use Rattle.std.proofs.Common.{ap, ◌∙◌, arith}
use Rattle.std.specs.List.{flat_map}
use Rattle.std.proofs.lemmas.List.{take_all}
use Rattle.plan_tree.specs.declared.stages.PlanConjunct.TheViews.{out-PlanConjunct, out-PlanInput, out-PlanRows, outs-Condition, outs-Core, outs-Member, outs-Query, outs-Set, outs-Table}
use Rattle.plan_text.specs.Explained.{conjunct_lines, query_lines}
use Rattle.plan_text.proofs.Going.{and_then, flat_next, nothing_more, same_part}
use Rattle.plan_text.proofs.Text.{conjunct_condition, conjunct_member, core_parts, rows_core, rows_set, select_rows, source_query, source_table}
use Rattle.plan_text.proofs.walk.+walk.Goals as goal

pub add_query-returns-in-Query : goal.add_query-returns-in-Query
add_query-returns-in-Query t c =
    same_part (source_query c.args.source.now c.in-Query.inner c.get.result.now (ap out-PlanInput c.in-Query.is ∙ outs-Query c.in-Query.inner) c.get.ensures)
    (and_then c.begin_query-begun.ensures (and_then c.add_select-lines.ensures c.end_query.ensures))

pub add_query-returns-in-Table : goal.add_query-returns-in-Table
add_query-returns-in-Table t c =
    same_part (source_table c.args.source.now _ (ap out-PlanInput c.in-Table.is ∙ outs-Table _)) (nothing_more c.args.written c.args.into.now.items)

pub add_queries-loop-source-init : goal.add_queries-loop-source-init
add_queries-loop-source-init t c = nothing_more c.args.written c.args.into.now.items

pub add_queries-loop-source-preserved : goal.add_queries-loop-source-preserved
add_queries-loop-source-preserved t c =
    same_part (flat_next query_lines c.args.sources.now c.loop-source.source-index c.source-item.result c.loop-source-test.true c.source-item.is)
    (and_then c.loop-source.invariant c.add_query-lines.ensures)

pub add_queries-returns : goal.add_queries-returns
add_queries-returns t c =
    same_part (ap (flat_map query_lines) (take_all c.loop-source.source-index c.args.sources.now (omega arith))) c.loop-source.invariant

pub add_member-returns-in-Member : goal.add_member-returns-in-Member
add_member-returns-in-Member t c =
    same_part (conjunct_member c.args.conjunct.now _ c.in-Member.query c.get.result.now _ (ap out-PlanConjunct c.in-Member.is ∙ outs-Member _ c.in-Member.query _) c.get.ensures)
    (and_then c.add_text-begun.ensures (and_then c.add_select-lines.ensures c.add_text.ensures))

pub add_member-returns-in-Condition : goal.add_member-returns-in-Condition
add_member-returns-in-Condition t c =
    same_part (conjunct_condition c.args.conjunct.now _ (ap out-PlanConjunct c.in-Condition.is ∙ outs-Condition _)) (nothing_more c.args.written c.args.into.now.items)

pub add_members-loop-conjunct-init : goal.add_members-loop-conjunct-init
add_members-loop-conjunct-init t c = nothing_more c.args.written c.args.into.now.items

pub add_members-loop-conjunct-preserved : goal.add_members-loop-conjunct-preserved
add_members-loop-conjunct-preserved t c =
    same_part (flat_next conjunct_lines c.args.conjuncts.now c.loop-conjunct.conjunct-index c.conjunct-item.result c.loop-conjunct-test.true c.conjunct-item.is)
    (and_then c.loop-conjunct.invariant c.add_member-lines.ensures)

pub add_members-returns : goal.add_members-returns
add_members-returns t c =
    same_part (ap (flat_map conjunct_lines) (take_all c.loop-conjunct.conjunct-index c.args.conjuncts.now (omega arith))) c.loop-conjunct.invariant

pub add_core-returns : goal.add_core-returns
add_core-returns t c =
    same_part (core_parts c.args.core.now c.as_slice-sources.result.now c.as_slice-others.result.now c.as_slice-sources.ensures c.as_slice-others.ensures)
    (and_then c.add_queries-from.ensures (and_then c.add_members-filter.ensures c.add_stages.ensures))

pub add_rows-returns-in-Core : goal.add_rows-returns-in-Core
add_rows-returns-in-Core t c =
    same_part (rows_core c.args.plan.now c.in-Core.inner (ap out-PlanRows c.in-Core.is ∙ outs-Core c.in-Core.inner)) c.add_core.ensures

pub add_rows-returns-in-Set : goal.add_rows-returns-in-Set
add_rows-returns-in-Set t c =
    same_part
    (rows_set c.args.plan.now c.in-Set.kind c.in-Set.all c.in-Set.left c.in-Set.right c.get.result.now c.get-in-Set.result.now
    (ap out-PlanRows c.in-Set.is ∙ outs-Set c.in-Set.kind c.in-Set.all c.in-Set.left c.in-Set.right) c.get.ensures c.get-in-Set.ensures)
    (and_then c.add_rows-first.ensures (and_then c.add_rows-second.ensures c.add_operation.ensures))

pub add_select-returns : goal.add_select-returns
add_select-returns t c =
    same_part (select_rows c.args.plan.now c.get.result.now c.get.ensures) (and_then c.add_rows-lines.ensures c.add_order.ensures)
