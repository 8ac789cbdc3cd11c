use Rattle.std.proofs.Common.{◌≡◌, List, map, rules, subst, sym, ap, ◌∙◌}
use Rattle.bound_tree.specs.declared.select.BoundRows.TheViews.{the_lemmas, out-BoundRows, out-BoundSource, out-Conjunct, out-SourceRows, outs-Core, outs-Set, outs-Member, outs-Query}
use Rattle.std.specs.Prelude.{IfOk}
use Rattle.sql_meaning.specs.Found.{Found, Row}
use Rattle.sql_meaning.specs.Statements.{select_meaning, source_meaning}
use Rattle.plain_cores.specs.Named.{tables_in}
use Rattle.plain_cores.specs.Known.{known_parts, member_parts}
use Rattle.plain_rows.specs.Froms.{source_in}
use Rattle.plain_rows.specs.Tests.{Parts, parts_in}
use Rattle.plain_select.specs.Settings.{CanAnswer, CanAnswerConjuncts, CanAnswerRows, CanAnswerSources, conjunct_parts_in, conjunct_parts, on_parts, source_with}
use Rattle.plain_select.proofs.CoreFitting.{can-core}
use Rattle.plain_select.proofs.Walked.{conjunct-query, core-conjuncts, core-sources, input-query, map-next, rows-core, rows-left, rows-right, source-input, source-is, whole-rows}
use Rattle.plain_select.proofs.walk.+answer.Goals as goal

pub answer_conjunct-answer_select-requires : goal.answer_conjunct-answer_select-requires
answer_conjunct-answer_select-requires t c = (
  search (rules, the_lemmas),
  subst (CanAnswer c.args.tables.now) (sym c.get.ensures)
      (conjunct-query c.args.tables.now c.args.conjunct.now c.in-Member.of c.in-Member.query c.in-Member.negated (ap out-Conjunct c.in-Member.is ∙ outs-Member c.in-Member.of c.in-Member.query c.in-Member.negated) c.requires),
)

pub answer_conjunct-returns-in_ok-answer-in-Member-clause-parts : goal.answer_conjunct-returns-in_ok-answer-in-Member-clause-parts
answer_conjunct-returns-in_ok-answer-in-Member-clause-parts t c =
    let named = tables_in c.args.tables.now in
    let shape = ap out-Conjunct c.in-Member.is ∙ outs-Member c.in-Member.of c.in-Member.query c.in-Member.negated in
    let rows = ap (λ (f : Found Row). f.rows) (c.in_ok-answer-in-Member.ensures ∙ ap (select_meaning named) c.get.ensures) in
    let parts = ap (λ (rs : List Row). member_parts c.in-Member.negated rs c.in-Member.of) rows ∙ sym (ap (conjunct_parts_in named) shape) in
    subst (λ (p : Parts). IfOk c.member_over.result (λ known. known_parts known ≡ p)) parts c.member_over.ensures.parts

pub answer_core-answer_sources-requires : goal.answer_core-answer_sources-requires
answer_core-answer_sources-requires t c =
    (search (rules, the_lemmas), subst (CanAnswerSources c.args.tables.now) (sym c.as_slice.ensures) (core-sources c.args.tables.now c.args.core.now c.requires))

pub answer_core-answer_conjuncts-requires : goal.answer_core-answer_conjuncts-requires
answer_core-answer_conjuncts-requires t c =
    (search (rules, the_lemmas), subst (CanAnswerConjuncts c.args.tables.now) (sym c.as_slice-2.ensures) (core-conjuncts c.args.tables.now c.args.core.now c.requires))

pub answer_core-core_answer-requires : goal.answer_core-core_answer-requires
answer_core-core_answer-requires t c =
    let named = tables_in c.args.tables.now in
    can-core c.args.tables.now c.args.core.now c.as_slice-3.result.now c.as_slice-4.result.now c.requires
    (ap (map source_in) c.as_slice-3.ensures.value ∙ c.in_ok-sources.ensures.sources ∙ ap (map (source_meaning named)) c.as_slice.ensures)
    (ap (map (λ source. map parts_in source.on.items)) c.as_slice-3.ensures.value ∙ c.in_ok-sources.ensures.on ∙ ap (map on_parts) c.as_slice.ensures)
    (ap (map known_parts) c.as_slice-4.ensures.value ∙ c.in_ok-knowns.ensures.parts ∙ ap (map (conjunct_parts named)) c.as_slice-2.ensures)

pub answer_input-answer_select-requires : goal.answer_input-answer_select-requires
answer_input-answer_select-requires t c = (
  search (rules, the_lemmas),
  subst (CanAnswer c.args.tables.now) (sym c.get.ensures) (input-query c.args.tables.now c.args.rows.now c.in-Query.select (ap out-SourceRows c.in-Query.is ∙ outs-Query c.in-Query.select) c.requires),
)

pub answer_rows-answer_core-requires : goal.answer_rows-answer_core-requires
answer_rows-answer_core-requires t c =
    (search (rules, the_lemmas), rows-core c.args.tables.now c.args.rows.now c.in-Core.core (ap out-BoundRows c.in-Core.is ∙ outs-Core c.in-Core.core) c.requires)

pub answer_rows-answer_rows-requires : goal.answer_rows-answer_rows-requires
answer_rows-answer_rows-requires t c =
    let shape = ap out-BoundRows c.in-Set.is ∙ outs-Set c.in-Set.kind c.in-Set.all c.in-Set.left c.in-Set.right c.in-Set.kinds in
    (search (rules, the_lemmas), subst (CanAnswerRows c.args.tables.now) (sym c.get.ensures) (rows-left c.args.tables.now c.args.rows.now c.in-Set.kind c.in-Set.all c.in-Set.left c.in-Set.right c.in-Set.kinds shape c.requires))

pub answer_rows-answer_rows-requires-in-Set : goal.answer_rows-answer_rows-requires-in-Set
answer_rows-answer_rows-requires-in-Set t c =
    let shape = ap out-BoundRows c.in-Set.is ∙ outs-Set c.in-Set.kind c.in-Set.all c.in-Set.left c.in-Set.right c.in-Set.kinds in
    (search (rules, the_lemmas), subst (CanAnswerRows c.args.tables.now) (sym c.get-in-Set.ensures) (rows-right c.args.tables.now c.args.rows.now c.in-Set.kind c.in-Set.all c.in-Set.left c.in-Set.right c.in-Set.kinds shape c.requires))

pub answer_select-answer_rows-requires : goal.answer_select-answer_rows-requires
answer_select-answer_rows-requires t c =
    (search (rules, the_lemmas), subst (CanAnswerRows c.args.tables.now) (sym c.get.ensures) (whole-rows c.args.tables.now c.args.select.now c.requires))

pub answer_sources-answer_input-requires : goal.answer_sources-answer_input-requires
answer_sources-answer_input-requires t c =
    (search (rules, the_lemmas), source-input c.args.tables.now c.args.sources.now c.loop-source.source-index c.source-item.result c.loop-source-test.true c.source-item.is c.requires)

pub answer_sources-loop-source-preserved : goal.answer_sources-loop-source-preserved
answer_sources-loop-source-preserved t c =
    let named = tables_in c.args.tables.now in
    let source = c.source-item.result in
    let made = c.in_ok-source_over in
    let is = made.ensures.source ∙ ap (source_with (out-BoundSource source)) c.in_ok-found.ensures ∙ sym (source-is named source) in
    record {
      sources = map-next source_in (source_meaning named) c.loop-source.made.items c.push.new.self.items made.field-0 c.args.sources.now c.loop-source.source-index source c.loop-source-test.true c.source-item.is
          c.in_ok-push.ensures.items is c.loop-source.invariant.sources;
      on = map-next (λ source. map parts_in source.on.items) on_parts c.loop-source.made.items c.push.new.self.items made.field-0 c.args.sources.now c.loop-source.source-index source c.loop-source-test.true c.source-item.is
          c.in_ok-push.ensures.items made.ensures.on c.loop-source.invariant.on;
    }
