use Rattle.std.proofs.Common.{◌≡◌, ◌-◌, ◌<◌, length, None, true, false, [], ◌∷◌, ◌++◌, Ok, Err, refl, sym, ◌∙◌, ap, subst, rules, arith}
use Rattle.std.proofs.lemmas.Grind.{common_steps}
use Rattle.sql_lex.specs.declared.token.Word.TheVariants as w
use Rattle.sql_lex.specs.declared.token.Sign.TheVariants as s
use Rattle.sql_grammar.specs.declared.tree.expr.Expr.TheVariants as node
use Rattle.sql_grammar.specs.declared.tree.select.Item.TheVariants as i
use Rattle.sql_grammar.specs.declared.tree.select.Join.TheVariants as j
use Rattle.sql_grammar.specs.declared.tree.select.Source.TheVariants as o
use Rattle.sql_grammar.specs.Lexeme.{first, tail, sees}
use Rattle.sql_grammar.specs.Form.{many, an_expr, a_neg, a_unary, an_argument, a_select}
use Rattle.sql_grammar.specs.Classes.{word_class, sign_class, opens, query_class, date_class}
use Rattle.sql_grammar.specs.Combinators.{span_of, token, word, sign, list}
use Rattle.sql_grammar.specs.Reading.{begins, read, and_then}
use Rattle.sql_grammar.specs.Nesting.{readers}
use Rattle.flat_rules.specs.Gives.{Gives, Makes, GoesOn}
use Rattle.sql_grammar.specs.Expressions as form
use Rattle.sql_grammar.specs.Selects as rows
use Rattle.sql_parse.proofs.Deeper.{opened_is, too_deep}
use Rattle.sql_parse.proofs.Going.{second_behind, chained, chained_twice, chained_marked, mapped_on, both_on, marked_made, marked_on, tested, tested_whole, nest_made, nest_on, nest_called, nest_tested}
use Rattle.flat_rules.proofs.Lists.{many_started, many_stepped, many_failed, many_ended, list_started, list_stepped, list_failed, list_ended, seen_some}
use Rattle.sql_parse.proofs.+rule.Goals as goal

pub expr::nested_expr-returns-then-depth-eq0-clause-gives : goal.expr::nested_expr-returns-then-depth-eq0-clause-gives
expr::nested_expr-returns-then-depth-eq0-clause-gives t c = λ e. too_deep c.args.depth an_expr c.args.cursor.now c.if-depth-eq0.true

pub expr::nested_expr-returns-clause-gives : goal.expr::nested_expr-returns-clause-gives
expr::nested_expr-returns-clause-gives t c = subst (λ o. Gives o c.expr.result c.expr.new.cursor)
    (sym (opened_is c.args.depth an_expr c.args.cursor.now c.if-depth-eq0.false ∙ ap (read (readers (c.args.depth - 1)) form.expr) (sym c.shift.ensures.tail))) c.expr.ensures.gives

pub expr::nested_neg-returns-then-depth-eq0-clause-gives : goal.expr::nested_neg-returns-then-depth-eq0-clause-gives
expr::nested_neg-returns-then-depth-eq0-clause-gives t c = λ e. too_deep c.args.depth a_neg c.args.cursor.now c.if-depth-eq0.true

pub expr::nested_neg-returns-clause-gives : goal.expr::nested_neg-returns-clause-gives
expr::nested_neg-returns-clause-gives t c = subst (λ o. Gives o c.neg.result c.neg.new.cursor)
    (sym (opened_is c.args.depth a_neg c.args.cursor.now c.if-depth-eq0.false ∙ ap (read (readers (c.args.depth - 1)) form.neg) (sym c.shift.ensures.tail))) c.neg.ensures.gives

pub expr::nested_unary-returns-then-depth-eq0-clause-gives : goal.expr::nested_unary-returns-then-depth-eq0-clause-gives
expr::nested_unary-returns-then-depth-eq0-clause-gives t c = λ e. too_deep c.args.depth a_unary c.args.cursor.now c.if-depth-eq0.true

pub expr::nested_unary-returns-clause-gives : goal.expr::nested_unary-returns-clause-gives
expr::nested_unary-returns-clause-gives t c = subst (λ o. Gives o c.unary.result c.unary.new.cursor)
    (sym (opened_is c.args.depth a_unary c.args.cursor.now c.if-depth-eq0.false ∙ ap (read (readers (c.args.depth - 1)) form.unary) (sym c.shift.ensures.tail))) c.unary.ensures.gives

pub expr::nested_argument-returns-then-depth-eq0-clause-gives : goal.expr::nested_argument-returns-then-depth-eq0-clause-gives
expr::nested_argument-returns-then-depth-eq0-clause-gives t c = λ e. too_deep c.args.depth an_argument c.args.cursor.now c.if-depth-eq0.true

pub expr::nested_argument-returns-clause-gives : goal.expr::nested_argument-returns-clause-gives
expr::nested_argument-returns-clause-gives t c = subst (λ o. Gives o c.argument.result c.argument.new.cursor)
    (sym (opened_is c.args.depth an_argument c.args.cursor.now c.if-depth-eq0.false ∙ ap (read (readers (c.args.depth - 1)) form.argument) (sym c.shift.ensures.tail))) c.argument.ensures.gives

term_links-none : begins form.term_link None ≡ false
unfolding form.term_link form.term_sign
term_links-none = refl

pub expr::term_links-turns-init : goal.expr::term_links-turns-init
expr::term_links-turns-init t c = record {
  shrinks = omega arith;
  so_far = many_started (readers c.args.depth) form.term_link c.args.cursor.now c.args.cursor.now c.new-found.result refl c.new-found.ensures;
}

pub expr::term_links-turns-preserved : goal.expr::term_links-turns-preserved
expr::term_links-turns-preserved t c = record {
  shrinks = omega arith;
  so_far = many_stepped (readers c.args.depth) form.term_link c.args.cursor.now term_links-none c.turns.found c.push.new.self c.turns.cursor c.term_link.new.cursor c.in_ok-next.next c.turns.invariant.so_far
      (sym c.at_term_sign.ensures ∙ c.turns-test.true) c.in_ok-next.ensures.gives (c.term_link.ensures.falls (rw c.in_ok-next.was refl)) c.in_ok-push.ensures.ok;
}

pub expr::term_links-returns-in_err-next-clause-gives : goal.expr::term_links-returns-in_err-next-clause-gives
expr::term_links-returns-in_err-next-clause-gives t c =
    let f = λ (f : _) (p : read (readers c.args.depth) form.term_link c.turns.cursor ≡ Err (f, c.term_link.new.cursor)).
    many_failed (readers c.args.depth) form.term_link c.args.cursor.now term_links-none c.turns.found c.turns.cursor (f, c.term_link.new.cursor) c.turns.invariant.so_far (sym c.at_term_sign.ensures ∙ c.turns-test.true) p in
    first_of (search rules, grind (arith, common_steps))

pub expr::term_links-returns-clause-gives : goal.expr::term_links-returns-clause-gives
expr::term_links-returns-clause-gives t c = many_ended (readers c.args.depth) form.term_link c.args.cursor.now term_links-none c.turns.found c.turns.cursor c.turns.invariant.so_far (sym c.at_term_sign.ensures ∙ c.turns-test.false)

sum_links-none : begins form.sum_link None ≡ false
unfolding form.sum_link form.sum_sign
sum_links-none = refl

pub expr::sum_links-turns-init : goal.expr::sum_links-turns-init
expr::sum_links-turns-init t c = record {
  shrinks = omega arith;
  so_far = many_started (readers c.args.depth) form.sum_link c.args.cursor.now c.args.cursor.now c.new-found.result refl c.new-found.ensures;
}

pub expr::sum_links-turns-preserved : goal.expr::sum_links-turns-preserved
expr::sum_links-turns-preserved t c = record {
  shrinks = omega arith;
  so_far = many_stepped (readers c.args.depth) form.sum_link c.args.cursor.now sum_links-none c.turns.found c.push.new.self c.turns.cursor c.sum_link.new.cursor c.in_ok-next.next c.turns.invariant.so_far
      (sym c.at_sum_sign.ensures ∙ c.turns-test.true) c.in_ok-next.ensures.gives (c.sum_link.ensures.falls (rw c.in_ok-next.was refl)) c.in_ok-push.ensures.ok;
}

pub expr::sum_links-returns-in_err-next-clause-gives : goal.expr::sum_links-returns-in_err-next-clause-gives
expr::sum_links-returns-in_err-next-clause-gives t c =
    let f = λ (f : _) (p : read (readers c.args.depth) form.sum_link c.turns.cursor ≡ Err (f, c.sum_link.new.cursor)).
    many_failed (readers c.args.depth) form.sum_link c.args.cursor.now sum_links-none c.turns.found c.turns.cursor (f, c.sum_link.new.cursor) c.turns.invariant.so_far (sym c.at_sum_sign.ensures ∙ c.turns-test.true) p in
    first_of (search rules, grind (arith, common_steps))

pub expr::sum_links-returns-clause-gives : goal.expr::sum_links-returns-clause-gives
expr::sum_links-returns-clause-gives t c = many_ended (readers c.args.depth) form.sum_link c.args.cursor.now sum_links-none c.turns.found c.turns.cursor c.turns.invariant.so_far (sym c.at_sum_sign.ensures ∙ c.turns-test.false)

and_operands-none : begins form.and_operand None ≡ false
unfolding form.and_operand
and_operands-none = refl

pub expr::and_operands-turns-init : goal.expr::and_operands-turns-init
expr::and_operands-turns-init t c = record {
  shrinks = omega arith;
  so_far = many_started (readers c.args.depth) form.and_operand c.args.cursor.now c.args.cursor.now c.new-found.result refl c.new-found.ensures;
}

pub expr::and_operands-turns-preserved : goal.expr::and_operands-turns-preserved
expr::and_operands-turns-preserved t c = record {
  shrinks = omega arith;
  so_far = many_stepped (readers c.args.depth) form.and_operand c.args.cursor.now and_operands-none c.turns.found c.push.new.self c.turns.cursor c.and_operand.new.cursor c.in_ok-next.next c.turns.invariant.so_far
      (sym c.at_and.ensures ∙ c.turns-test.true) c.in_ok-next.ensures.gives (c.and_operand.ensures.falls (rw c.in_ok-next.was refl)) c.in_ok-push.ensures.ok;
}

pub expr::and_operands-returns-in_err-next-clause-gives : goal.expr::and_operands-returns-in_err-next-clause-gives
expr::and_operands-returns-in_err-next-clause-gives t c =
    let f = λ (f : _) (p : read (readers c.args.depth) form.and_operand c.turns.cursor ≡ Err (f, c.and_operand.new.cursor)).
    many_failed (readers c.args.depth) form.and_operand c.args.cursor.now and_operands-none c.turns.found c.turns.cursor (f, c.and_operand.new.cursor) c.turns.invariant.so_far (sym c.at_and.ensures ∙ c.turns-test.true) p in
    first_of (search rules, grind (arith, common_steps))

pub expr::and_operands-returns-clause-gives : goal.expr::and_operands-returns-clause-gives
expr::and_operands-returns-clause-gives t c = many_ended (readers c.args.depth) form.and_operand c.args.cursor.now and_operands-none c.turns.found c.turns.cursor c.turns.invariant.so_far (sym c.at_and.ensures ∙ c.turns-test.false)

or_operands-none : begins form.or_operand None ≡ false
unfolding form.or_operand
or_operands-none = refl

pub expr::or_operands-turns-init : goal.expr::or_operands-turns-init
expr::or_operands-turns-init t c = record {
  shrinks = omega arith;
  so_far = many_started (readers c.args.depth) form.or_operand c.args.cursor.now c.args.cursor.now c.new-found.result refl c.new-found.ensures;
}

pub expr::or_operands-turns-preserved : goal.expr::or_operands-turns-preserved
expr::or_operands-turns-preserved t c = record {
  shrinks = omega arith;
  so_far = many_stepped (readers c.args.depth) form.or_operand c.args.cursor.now or_operands-none c.turns.found c.push.new.self c.turns.cursor c.or_operand.new.cursor c.in_ok-next.next c.turns.invariant.so_far
      (sym c.at_or.ensures ∙ c.turns-test.true) c.in_ok-next.ensures.gives (c.or_operand.ensures.falls (rw c.in_ok-next.was refl)) c.in_ok-push.ensures.ok;
}

pub expr::or_operands-returns-in_err-next-clause-gives : goal.expr::or_operands-returns-in_err-next-clause-gives
expr::or_operands-returns-in_err-next-clause-gives t c =
    let f = λ (f : _) (p : read (readers c.args.depth) form.or_operand c.turns.cursor ≡ Err (f, c.or_operand.new.cursor)).
    many_failed (readers c.args.depth) form.or_operand c.args.cursor.now or_operands-none c.turns.found c.turns.cursor (f, c.or_operand.new.cursor) c.turns.invariant.so_far (sym c.at_or.ensures ∙ c.turns-test.true) p in
    first_of (search rules, grind (arith, common_steps))

pub expr::or_operands-returns-clause-gives : goal.expr::or_operands-returns-clause-gives
expr::or_operands-returns-clause-gives t c = many_ended (readers c.args.depth) form.or_operand c.args.cursor.now or_operands-none c.turns.found c.turns.cursor c.turns.invariant.so_far (sym c.at_or.ensures ∙ c.turns-test.false)

pub expr::group-returns-clause-gives : goal.expr::group-returns-clause-gives
unfolding form.group
expr::group-returns-clause-gives t c = nest_on (readers c.args.depth) opens an_expr (λ _ inner. inner) (λ a b. a) (sign s.RightParenthesis)
    c.args.cursor.now c.nested_expr-inner.result c.nested_expr-inner.new.cursor c.closed.result c.closed.new.cursor
    (sym c.at_opening.ensures ∙ c.if-not-at_opening.false) c.nested_expr-inner.ensures.gives c.closed.ensures.goes_on

pub expr::name_end-returns-clause-gives : goal.expr::name_end-returns-clause-gives
unfolding form.name_end
expr::name_end-returns-clause-gives t c = nest_called (readers c.args.depth) (λ f. f c.args.name) opens an_argument (λ _ argument name. node.Call name argument) (λ a b. a) (sign s.RightParenthesis) form.column_end
    c.args.cursor.now c.nested_argument-argument.result c.nested_argument-argument.new.cursor c.call.result c.call.new.cursor
    (sym c.at_opening.ensures ∙ c.if-not-at_opening.false) c.nested_argument-argument.ensures.gives c.call.ensures.goes_on

pub expr::dated-returns-clause-gives : goal.expr::dated-returns-clause-gives
unfolding form.dated
expr::dated-returns-clause-gives t c = second_behind (readers c.args.depth) form.follows (token date_class span_of) form.date_end form.name_end c.args.cursor.now c.in_ok-name.name c.date_name.new.self
    c.name_end.result c.name_end.new.cursor c.in_ok-name.ensures.gives (sym c.at_text.ensures ∙ c.if-at_text.false) c.name_end.ensures.gives

pub expr::in_test-returns-clause-gives : goal.expr::in_test-returns-clause-gives
unfolding form.in_test form.member
expr::in_test-returns-clause-gives t c = nest_tested (readers c.args.depth) (λ test. test c.args.negated c.args.left) form.follows (word w.In) (query_class ∷ []) a_select (λ _ query place negated left. node.Member place negated left query) (λ a b. a) (sign s.RightParenthesis) form.one_of
    c.args.cursor.now c.in_ok-place.place c.word.new.self c.nested_select-query.result c.nested_select-query.new.cursor c.member.result c.member.new.cursor
    c.in_ok-place.ensures.gives (sym c.at_query.ensures ∙ c.if-not-at_query.false) c.nested_select-query.ensures.gives c.member.ensures.goes_on

pub expr::unary-returns-clause-gives : goal.expr::unary-returns-clause-gives
unfolding form.unary
expr::unary-returns-clause-gives t c = nest_made (readers c.args.depth) (sign_class s.Minus ∷ []) a_unary (λ x operand. node.Minus x.start operand) form.atom
    c.args.cursor.now c.nested_unary-operand.result c.nested_unary-operand.new.cursor c.minus.result (sym c.at_sign.ensures ∙ c.if-not-at_sign.false) c.nested_unary-operand.ensures.gives
    (subst (λ at. Makes (λ e. node.Minus at.start e) c.nested_unary-operand.result c.minus.result) c.span-span.ensures c.minus.ensures)

pub expr::neg-returns-clause-gives : goal.expr::neg-returns-clause-gives
unfolding form.neg
expr::neg-returns-clause-gives t c = nest_made (readers c.args.depth) (word_class w.Not ∷ []) a_neg (λ x operand. node.Not x.start operand) form.pred
    c.args.cursor.now c.nested_neg-operand.result c.nested_neg-operand.new.cursor c.negation.result (sym c.at_word.ensures ∙ c.if-not-at_word.false) c.nested_neg-operand.ensures.gives
    (subst (λ at. Makes (λ e. node.Not at.start e) c.nested_neg-operand.result c.negation.result) c.span-span.ensures c.negation.ensures)

pub expr::term-returns-clause-gives : goal.expr::term-returns-clause-gives
unfolding form.term
expr::term-returns-clause-gives t c = chained (readers c.args.depth) form.chain_of form.unary (many form.term_link) c.args.cursor.now c.in_ok-first.first c.unary.new.cursor
    c.term_links-links.result c.term_links-links.new.cursor c.chain.result c.in_ok-first.ensures.gives c.term_links-links.ensures.gives c.chain.ensures

pub expr::sum-returns-clause-gives : goal.expr::sum-returns-clause-gives
unfolding form.sum
expr::sum-returns-clause-gives t c = chained (readers c.args.depth) form.chain_of form.term (many form.sum_link) c.args.cursor.now c.in_ok-first.first c.term.new.cursor
    c.sum_links-links.result c.sum_links-links.new.cursor c.chain.result c.in_ok-first.ensures.gives c.sum_links-links.ensures.gives c.chain.ensures

pub expr::conj-returns-clause-gives : goal.expr::conj-returns-clause-gives
unfolding form.conj
expr::conj-returns-clause-gives t c = chained (readers c.args.depth) form.every_of form.neg (many form.and_operand) c.args.cursor.now c.in_ok-first.first c.neg.new.cursor
    c.and_operands-others.result c.and_operands-others.new.cursor c.every.result c.in_ok-first.ensures.gives c.and_operands-others.ensures.gives c.every.ensures

pub expr::expr-returns-clause-gives : goal.expr::expr-returns-clause-gives
unfolding form.expr
expr::expr-returns-clause-gives t c = chained (readers c.args.depth) form.either_of form.conj (many form.or_operand) c.args.cursor.now c.in_ok-first.first c.conj.new.cursor
    c.or_operands-others.result c.or_operands-others.new.cursor c.either.result c.in_ok-first.ensures.gives c.or_operands-others.ensures.gives c.either.ensures

pub expr::comparison-returns-clause-gives : goal.expr::comparison-returns-clause-gives
unfolding form.comparison
expr::comparison-returns-clause-gives t c = tested (readers c.args.depth) (λ sign right left. node.Compare sign.1 sign.0 left right) form.compare_sign form.sum c.args.left c.args.cursor.now (c.in_ok-sign.sign, c.in_ok-sign.place) c.compare_sign.new.cursor
    c.sum-right.result c.sum-right.new.cursor c.compared.result c.in_ok-sign.ensures.gives c.sum-right.ensures.gives c.compared.ensures

pub expr::bounds-returns-clause-gives : goal.expr::bounds-returns-clause-gives
expr::bounds-returns-clause-gives t c = chained_twice (readers c.args.depth) (λ place low high. (place, low, high)) (word w.Between) form.sum form.upper c.args.cursor.now c.in_ok-place.place c.word.new.self c.in_ok-low.low c.sum.new.cursor
    c.upper-high.result c.upper-high.new.cursor c.bounded.result c.in_ok-place.ensures.gives c.in_ok-low.ensures.gives c.upper-high.ensures.gives c.bounded.ensures

pub expr::between-returns-clause-gives : goal.expr::between-returns-clause-gives
unfolding form.between
expr::between-returns-clause-gives t c = tested_whole (readers c.args.depth) (λ bounds negated left. node.Between bounds.0 negated left bounds.1 bounds.2) (λ test. test c.args.negated c.args.left) form.bounds c.args.cursor.now
    c.bounds-bounds.result c.bounds-bounds.new.cursor c.ranged.result c.bounds-bounds.ensures.gives c.ranged.ensures

pub select::nested_select-returns-then-depth-eq0-clause-gives : goal.select::nested_select-returns-then-depth-eq0-clause-gives
select::nested_select-returns-then-depth-eq0-clause-gives t c = λ e. too_deep c.args.depth a_select c.args.cursor.now c.if-depth-eq0.true

pub select::nested_select-returns-clause-gives : goal.select::nested_select-returns-clause-gives
select::nested_select-returns-clause-gives t c = subst (λ o. Gives o c.select.result c.select.new.cursor)
    (sym (opened_is c.args.depth a_select c.args.cursor.now c.if-depth-eq0.false ∙ ap (read (readers (c.args.depth - 1)) rows.select) (sym c.shift.ensures.tail))) c.select.ensures.gives

joins-none : begins rows.join None ≡ false
unfolding rows.join rows.join_cross rows.join_on rows.join_word
joins-none = refl

pub select::joins-turns-init : goal.select::joins-turns-init
select::joins-turns-init t c = record {
  shrinks = omega arith;
  so_far = many_started (readers c.args.depth) rows.join c.args.cursor.now c.args.cursor.now c.new-found.result refl c.new-found.ensures;
}

pub select::joins-turns-preserved : goal.select::joins-turns-preserved
select::joins-turns-preserved t c = record {
  shrinks = omega arith;
  so_far = many_stepped (readers c.args.depth) rows.join c.args.cursor.now joins-none c.turns.found c.push.new.self c.turns.cursor c.join.new.cursor c.in_ok-next.next c.turns.invariant.so_far
      (sym c.at_join.ensures ∙ c.turns-test.true) c.in_ok-next.ensures.gives (c.join.ensures.falls (rw c.in_ok-next.was refl)) c.in_ok-push.ensures.ok;
}

pub select::joins-returns-in_err-next-clause-gives : goal.select::joins-returns-in_err-next-clause-gives
select::joins-returns-in_err-next-clause-gives t c =
    let f = λ (f : _) (p : read (readers c.args.depth) rows.join c.turns.cursor ≡ Err (f, c.join.new.cursor)).
    many_failed (readers c.args.depth) rows.join c.args.cursor.now joins-none c.turns.found c.turns.cursor (f, c.join.new.cursor) c.turns.invariant.so_far (sym c.at_join.ensures ∙ c.turns-test.true) p in
    first_of (search rules, grind (arith, common_steps))

pub select::joins-returns-clause-gives : goal.select::joins-returns-clause-gives
select::joins-returns-clause-gives t c = many_ended (readers c.args.depth) rows.join c.args.cursor.now joins-none c.turns.found c.turns.cursor c.turns.invariant.so_far (sym c.at_join.ensures ∙ c.turns-test.false)

intersects-none : begins rows.intersect None ≡ false
unfolding rows.intersect
intersects-none = refl

pub select::intersects-turns-init : goal.select::intersects-turns-init
select::intersects-turns-init t c = record {
  shrinks = omega arith;
  so_far = many_started (readers c.args.depth) rows.intersect c.args.cursor.now c.args.cursor.now c.new-found.result refl c.new-found.ensures;
}

pub select::intersects-turns-preserved : goal.select::intersects-turns-preserved
select::intersects-turns-preserved t c = record {
  shrinks = omega arith;
  so_far = many_stepped (readers c.args.depth) rows.intersect c.args.cursor.now intersects-none c.turns.found c.push.new.self c.turns.cursor c.intersect.new.cursor c.in_ok-next.next c.turns.invariant.so_far
      (sym c.at_intersect.ensures ∙ c.turns-test.true) c.in_ok-next.ensures.gives (c.intersect.ensures.falls (rw c.in_ok-next.was refl)) c.in_ok-push.ensures.ok;
}

pub select::intersects-returns-in_err-next-clause-gives : goal.select::intersects-returns-in_err-next-clause-gives
select::intersects-returns-in_err-next-clause-gives t c =
    let f = λ (f : _) (p : read (readers c.args.depth) rows.intersect c.turns.cursor ≡ Err (f, c.intersect.new.cursor)).
    many_failed (readers c.args.depth) rows.intersect c.args.cursor.now intersects-none c.turns.found c.turns.cursor (f, c.intersect.new.cursor) c.turns.invariant.so_far (sym c.at_intersect.ensures ∙ c.turns-test.true) p in
    first_of (search rules, grind (arith, common_steps))

pub select::intersects-returns-clause-gives : goal.select::intersects-returns-clause-gives
select::intersects-returns-clause-gives t c = many_ended (readers c.args.depth) rows.intersect c.args.cursor.now intersects-none c.turns.found c.turns.cursor c.turns.invariant.so_far (sym c.at_intersect.ensures ∙ c.turns-test.false)

set_operands-none : begins rows.set_operand None ≡ false
unfolding rows.set_operand
set_operands-none = refl

pub select::set_operands-turns-init : goal.select::set_operands-turns-init
select::set_operands-turns-init t c = record {
  shrinks = omega arith;
  so_far = many_started (readers c.args.depth) rows.set_operand c.args.cursor.now c.args.cursor.now c.new-found.result refl c.new-found.ensures;
}

pub select::set_operands-turns-preserved : goal.select::set_operands-turns-preserved
select::set_operands-turns-preserved t c = record {
  shrinks = omega arith;
  so_far = many_stepped (readers c.args.depth) rows.set_operand c.args.cursor.now set_operands-none c.turns.found c.push.new.self c.turns.cursor c.set_operand.new.cursor c.in_ok-next.next c.turns.invariant.so_far
      (sym c.at_set_operand.ensures ∙ c.turns-test.true) c.in_ok-next.ensures.gives (c.set_operand.ensures.falls (rw c.in_ok-next.was refl)) c.in_ok-push.ensures.ok;
}

pub select::set_operands-returns-in_err-next-clause-gives : goal.select::set_operands-returns-in_err-next-clause-gives
select::set_operands-returns-in_err-next-clause-gives t c =
    let f = λ (f : _) (p : read (readers c.args.depth) rows.set_operand c.turns.cursor ≡ Err (f, c.set_operand.new.cursor)).
    many_failed (readers c.args.depth) rows.set_operand c.args.cursor.now set_operands-none c.turns.found c.turns.cursor (f, c.set_operand.new.cursor) c.turns.invariant.so_far (sym c.at_set_operand.ensures ∙ c.turns-test.true) p in
    first_of (search rules, grind (arith, common_steps))

pub select::set_operands-returns-clause-gives : goal.select::set_operands-returns-clause-gives
select::set_operands-returns-clause-gives t c = many_ended (readers c.args.depth) rows.set_operand c.args.cursor.now set_operands-none c.turns.found c.turns.cursor c.turns.invariant.so_far (sym c.at_set_operand.ensures ∙ c.turns-test.false)

pub select::items-turns-init : goal.select::items-turns-init
select::items-turns-init t c = record {
  shrinks = c.item.ensures.shrinks;
  so_far = list_started (readers c.args.depth) rows.item c.args.cursor.now c.in_ok-first.first c.item.new.cursor c.push.new.self c.in_ok-first.ensures.gives
      (c.in_ok-push.ensures.ok ∙ ap (λ z. z ++ c.in_ok-first.first ∷ []) c.new-found.ensures);
}

pub select::items-turns-preserved : goal.select::items-turns-preserved
select::items-turns-preserved t c =
    let h : sees (sign_class s.Comma ∷ []) (first c.turns.cursor) ≡ true = sym c.at_sign.ensures ∙ c.turns-test.true in
    let fell : length c.shift.new.self < length c.turns.cursor = c.shift.ensures.falls (seen_some (sign_class s.Comma ∷ []) (first c.turns.cursor) h) in
    record {
      shrinks = omega arith;
      so_far = list_stepped (readers c.args.depth) rows.item c.args.cursor.now c.turns.found c.push-in-turns.new.self c.turns.cursor c.item-in-turns.new.cursor c.in_ok-next.next c.turns.invariant.so_far h
          (ap (read (readers c.args.depth) rows.item) (sym c.shift.ensures.tail) ∙ c.in_ok-next.ensures.gives) (omega arith) c.in_ok-push-2.ensures.ok;
    }

pub select::items-returns-in_err-next-clause-gives : goal.select::items-returns-in_err-next-clause-gives
select::items-returns-in_err-next-clause-gives t c =
    let h : sees (sign_class s.Comma ∷ []) (first c.turns.cursor) ≡ true = sym c.at_sign.ensures ∙ c.turns-test.true in
    let f = λ (f : _) (p : read (readers c.args.depth) rows.item (tail c.turns.cursor) ≡ Err (f, c.item-in-turns.new.cursor)).
    list_failed (readers c.args.depth) rows.item c.args.cursor.now c.turns.found c.turns.cursor (f, c.item-in-turns.new.cursor) c.turns.invariant.so_far h p in
    first_of (search rules, grind (arith, common_steps))

pub select::items-returns-clause-gives : goal.select::items-returns-clause-gives
select::items-returns-clause-gives t c = list_ended (readers c.args.depth) rows.item c.args.cursor.now c.turns.found c.turns.cursor c.turns.invariant.so_far (sym c.at_sign.ensures ∙ c.turns-test.false)

pub select::exprs-turns-init : goal.select::exprs-turns-init
select::exprs-turns-init t c = record {
  shrinks = c.expr.ensures.shrinks;
  so_far = list_started (readers c.args.depth) form.expr c.args.cursor.now c.in_ok-first.first c.expr.new.cursor c.push.new.self c.in_ok-first.ensures.gives
      (c.in_ok-push.ensures.ok ∙ ap (λ z. z ++ c.in_ok-first.first ∷ []) c.new-found.ensures);
}

pub select::exprs-turns-preserved : goal.select::exprs-turns-preserved
select::exprs-turns-preserved t c =
    let h : sees (sign_class s.Comma ∷ []) (first c.turns.cursor) ≡ true = sym c.at_sign.ensures ∙ c.turns-test.true in
    let fell : length c.shift.new.self < length c.turns.cursor = c.shift.ensures.falls (seen_some (sign_class s.Comma ∷ []) (first c.turns.cursor) h) in
    record {
      shrinks = omega arith;
      so_far = list_stepped (readers c.args.depth) form.expr c.args.cursor.now c.turns.found c.push-in-turns.new.self c.turns.cursor c.expr-in-turns.new.cursor c.in_ok-next.next c.turns.invariant.so_far h
          (ap (read (readers c.args.depth) form.expr) (sym c.shift.ensures.tail) ∙ c.in_ok-next.ensures.gives) (omega arith) c.in_ok-push-2.ensures.ok;
    }

pub select::exprs-returns-in_err-next-clause-gives : goal.select::exprs-returns-in_err-next-clause-gives
select::exprs-returns-in_err-next-clause-gives t c =
    let h : sees (sign_class s.Comma ∷ []) (first c.turns.cursor) ≡ true = sym c.at_sign.ensures ∙ c.turns-test.true in
    let f = λ (f : _) (p : read (readers c.args.depth) form.expr (tail c.turns.cursor) ≡ Err (f, c.expr-in-turns.new.cursor)).
    list_failed (readers c.args.depth) form.expr c.args.cursor.now c.turns.found c.turns.cursor (f, c.expr-in-turns.new.cursor) c.turns.invariant.so_far h p in
    first_of (search rules, grind (arith, common_steps))

pub select::exprs-returns-clause-gives : goal.select::exprs-returns-clause-gives
select::exprs-returns-clause-gives t c = list_ended (readers c.args.depth) form.expr c.args.cursor.now c.turns.found c.turns.cursor c.turns.invariant.so_far (sym c.at_sign.ensures ∙ c.turns-test.false)

pub select::value_item-returns-clause-gives : goal.select::value_item-returns-clause-gives
unfolding rows.value_item
select::value_item-returns-clause-gives t c = mapped_on (readers c.args.depth) (λ value alias. i.Value value alias) form.expr rows.alias c.args.cursor.now c.expr-value.result c.expr-value.new.cursor
    c.value_item.result c.value_item.new.cursor c.expr-value.ensures.gives c.value_item.ensures.goes_on

pub select::shown-returns-clause-gives : goal.select::shown-returns-clause-gives
select::shown-returns-clause-gives t c = both_on (readers c.args.depth) (λ a b. a) (list rows.item) (word w.From) c.args.cursor.now c.items-items.result c.items-items.new.cursor
    c.before_from.result c.before_from.new.cursor c.items-items.ensures.gives c.before_from.ensures.goes_on

pub select::condition-returns-clause-gives : goal.select::condition-returns-clause-gives
unfolding rows.condition
select::condition-returns-clause-gives t c = marked_made (readers c.args.depth) (λ x test. record { place = x.start; test = test }) form.expr c.args.cursor.now c.expr-test.result c.expr-test.new.cursor
    c.condition.result c.expr-test.ensures.gives (subst (λ at. Makes (λ e. record { place = at.start; test = e }) c.expr-test.result c.condition.result) c.span-span.ensures c.condition.ensures)

pub select::grouped-returns-clause-gives : goal.select::grouped-returns-clause-gives
select::grouped-returns-clause-gives t c = chained (readers c.args.depth) (λ group having. (group, having)) rows.grouping rows.having c.args.cursor.now c.in_ok-group.group c.grouping.new.cursor
    c.optional_condition-having.result c.optional_condition-having.new.cursor c.grouped.result c.in_ok-group.ensures.gives c.optional_condition-having.ensures.gives c.grouped.ensures

pub select::conditions-returns-clause-gives : goal.select::conditions-returns-clause-gives
select::conditions-returns-clause-gives t c = chained (readers c.args.depth) (λ filter grouped. (filter, grouped.0, grouped.1)) rows.filter rows.grouped c.args.cursor.now c.in_ok-filter.filter c.optional_condition.new.cursor
    c.grouped-grouped.result c.grouped-grouped.new.cursor c.conditions.result c.in_ok-filter.ensures.gives c.grouped-grouped.ensures.gives c.conditions.ensures

pub select::subquery_source-returns-clause-gives : goal.select::subquery_source-returns-clause-gives
unfolding rows.subquery_source
select::subquery_source-returns-clause-gives t c = nest_on (readers c.args.depth) opens a_select (λ x query alias. o.Query x.start query alias) (λ f a. f a) rows.query_end
    c.args.cursor.now c.nested_select-query.result c.nested_select-query.new.cursor c.query_source.result c.query_source.new.cursor (sym c.at_opening.ensures ∙ c.if-not-at_opening.false) c.nested_select-query.ensures.gives
    (subst (λ at. GoesOn (λ q r. and_then (read (readers c.args.depth) rows.query_end r) (λ alias s. Ok (o.Query at.start q alias, s))) c.nested_select-query.result c.nested_select-query.new.cursor c.query_source.result c.query_source.new.cursor)
    c.span-span.ensures c.query_source.ensures.goes_on)

pub select::source_on-returns-clause-gives : goal.select::source_on-returns-clause-gives
select::source_on-returns-clause-gives t c = chained (readers c.args.depth) (λ source on. (source, on)) rows.source rows.join_end c.args.cursor.now c.in_ok-source.source c.source.new.cursor
    c.join_end-on.result c.join_end-on.new.cursor c.source_on.result c.in_ok-source.ensures.gives c.join_end-on.ensures.gives c.source_on.ensures

pub select::join_on-returns-clause-gives : goal.select::join_on-returns-clause-gives
unfolding rows.join_on
select::join_on-returns-clause-gives t c = chained (readers c.args.depth) (λ outer end. j.On outer end.0 end.1) rows.join_word rows.source_on c.args.cursor.now c.in_ok-outer.outer c.join_word.new.cursor
    c.source_on-end.result c.source_on-end.new.cursor c.join_on.result c.in_ok-outer.ensures.gives c.source_on-end.ensures.gives c.join_on.ensures

pub select::join_cross-returns-clause-gives : goal.select::join_cross-returns-clause-gives
unfolding rows.join_cross
select::join_cross-returns-clause-gives t c = chained (readers c.args.depth) (λ _ source. j.Cross source) rows.cross_word rows.source c.args.cursor.now c.in_ok-cross_word.field-0 c.cross_word.new.cursor
    c.source-source.result c.source-source.new.cursor c.join_cross.result c.in_ok-cross_word.ensures.gives c.source-source.ensures.gives c.join_cross.ensures

pub select::sources-returns-clause-gives : goal.select::sources-returns-clause-gives
unfolding rows.sources
select::sources-returns-clause-gives t c = chained (readers c.args.depth) (λ first joins. (first, joins)) rows.source (many rows.join) c.args.cursor.now c.in_ok-first.first c.source.new.cursor
    c.joins-joins.result c.joins-joins.new.cursor c.sources.result c.in_ok-first.ensures.gives c.joins-joins.ensures.gives c.sources.ensures

pub select::taken_rows-returns-clause-gives : goal.select::taken_rows-returns-clause-gives
select::taken_rows-returns-clause-gives t c = chained (readers c.args.depth) (λ sources conditions. (sources, conditions)) rows.sources rows.conditions c.args.cursor.now c.in_ok-sources.sources c.sources.new.cursor
    c.conditions-conditions.result c.conditions-conditions.new.cursor c.taken_rows.result c.in_ok-sources.ensures.gives c.conditions-conditions.ensures.gives c.taken_rows.ensures

pub select::core_end-returns-clause-gives : goal.select::core_end-returns-clause-gives
select::core_end-returns-clause-gives t c = chained (readers c.args.depth) (λ items taken. (items, taken)) rows.shown rows.taken_rows c.args.cursor.now c.in_ok-items.items c.shown.new.cursor
    c.taken_rows-taken.result c.taken_rows-taken.new.cursor c.core_end.result c.in_ok-items.ensures.gives c.taken_rows-taken.ensures.gives c.core_end.ensures

pub select::core-returns-clause-gives : goal.select::core-returns-clause-gives
unfolding rows.core
select::core-returns-clause-gives t c = chained (readers c.args.depth) rows.core_of rows.core_head rows.core_end c.args.cursor.now c.in_ok-head.head c.core_head.new.cursor
    c.core_end-end.result c.core_end-end.new.cursor c.core.result c.in_ok-head.ensures.gives c.core_end-end.ensures.gives c.core.ensures

pub select::intersect-returns-clause-gives : goal.select::intersect-returns-clause-gives
unfolding rows.intersect
select::intersect-returns-clause-gives t c = chained_marked (readers c.args.depth) rows.operand_of rows.intersect_head (λ x a. (x.start, a)) rows.core c.args.cursor.now c.in_ok-head.head c.intersect_head.new.cursor
    c.core-right.result c.core-right.new.cursor c.set_operand.result c.in_ok-head.ensures.gives c.core-right.ensures.gives
    (subst (λ at. Makes (λ e. rows.operand_of c.in_ok-head.head (at.start, e)) c.core-right.result c.set_operand.result) c.span-span.ensures c.set_operand.ensures)

pub select::set_operand-returns-clause-gives : goal.select::set_operand-returns-clause-gives
unfolding rows.set_operand
select::set_operand-returns-clause-gives t c = chained_marked (readers c.args.depth) rows.operand_of rows.set_head (λ x a. (x.start, a)) rows.operand c.args.cursor.now c.in_ok-head.head c.set_head.new.cursor
    c.operand-right.result c.operand-right.new.cursor c.set_operand.result c.in_ok-head.ensures.gives c.operand-right.ensures.gives
    (subst (λ at. Makes (λ e. rows.operand_of c.in_ok-head.head (at.start, e)) c.operand-right.result c.set_operand.result) c.span-span.ensures c.set_operand.ensures)

pub select::operand-returns-clause-gives : goal.select::operand-returns-clause-gives
unfolding rows.operand
select::operand-returns-clause-gives t c = chained (readers c.args.depth) rows.sets_of rows.core (many rows.intersect) c.args.cursor.now c.in_ok-first.first c.core.new.cursor
    c.intersects-others.result c.intersects-others.new.cursor c.sets.result c.in_ok-first.ensures.gives c.intersects-others.ensures.gives c.sets.ensures

pub select::all_rows-returns-clause-gives : goal.select::all_rows-returns-clause-gives
unfolding rows.rows
select::all_rows-returns-clause-gives t c = chained (readers c.args.depth) rows.sets_of rows.operand (many rows.set_operand) c.args.cursor.now c.in_ok-first.first c.operand.new.cursor
    c.set_operands-others.result c.set_operands-others.new.cursor c.sets.result c.in_ok-first.ensures.gives c.set_operands-others.ensures.gives c.sets.ensures

pub select::select-returns-clause-gives : goal.select::select-returns-clause-gives
unfolding rows.select
select::select-returns-clause-gives t c = marked_on (readers c.args.depth) rows.select_of (λ x a. (x.start, a)) rows.rows rows.window c.args.cursor.now c.all_rows-rows.result c.all_rows-rows.new.cursor
    c.select.result c.select.new.cursor c.all_rows-rows.ensures.gives
    (subst (λ at. GoesOn (λ v r. and_then (read (readers c.args.depth) rows.window r) (λ w s. Ok (rows.select_of (at.start, v) w, s))) c.all_rows-rows.result c.all_rows-rows.new.cursor c.select.result c.select.new.cursor)
    c.span-span.ensures c.select.ensures.goes_on)
