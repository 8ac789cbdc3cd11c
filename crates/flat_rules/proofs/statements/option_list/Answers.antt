use Rattle.std.proofs.Common.{◌≡◌, ◌<◌, length, true, [], ◌∷◌, ◌++◌, Err, sym, ◌∙◌, ap, rules, arith}
use Rattle.std.proofs.lemmas.Grind.{common_steps}
use Rattle.sql_lex.specs.declared.token.Sign.TheVariants as s
use Rattle.sql_grammar.specs.Lexeme.{first, tail, sees}
use Rattle.sql_grammar.specs.Classes.{sign_class}
use Rattle.sql_grammar.specs.Reading.{read}
use Rattle.sql_grammar.specs.Nesting.{readers}
use Rattle.sql_grammar.specs.Statements as form
use Rattle.flat_rules.proofs.Lists.{list_started, list_stepped, list_failed, list_ended, seen_some}
use Rattle.flat_rules.proofs.statements.option_list.Goals as goal

pub turns-init : goal.turns-init
turns-init c = record {
  shrinks = c.option.ensures.shrinks;
  so_far = list_started (readers c.args.depth) form.option c.args.cursor.now c.in_ok-first.first c.option.new.cursor c.push.new.self c.in_ok-first.ensures.gives
      (c.in_ok-push.ensures.ok ∙ ap (λ z. z ++ c.in_ok-first.first ∷ []) c.new-found.ensures);
}

pub turns-preserved : goal.turns-preserved
turns-preserved c =
    let h : sees (sign_class s.Comma ∷ []) (first c.turns.cursor) ≡ true = sym c.at_sign.ensures ∙ c.turns-test.true in
    let fell : length c.shift.new.self < length c.turns.cursor = c.shift.ensures.falls (seen_some (sign_class s.Comma ∷ []) (first c.turns.cursor) h) in
    record {
      shrinks = omega arith;
      so_far = list_stepped (readers c.args.depth) form.option c.args.cursor.now c.turns.found c.push-in-turns.new.self c.turns.cursor c.option-in-turns.new.cursor c.in_ok-next.next c.turns.invariant.so_far h
          (ap (read (readers c.args.depth) form.option) (sym c.shift.ensures.tail) ∙ c.in_ok-next.ensures.gives) (omega arith) c.in_ok-push-2.ensures.ok;
    }

pub returns-in_err-next-clause-gives : goal.returns-in_err-next-clause-gives
returns-in_err-next-clause-gives c =
    let h : sees (sign_class s.Comma ∷ []) (first c.turns.cursor) ≡ true = sym c.at_sign.ensures ∙ c.turns-test.true in
    let f = λ (f : _) (p : read (readers c.args.depth) form.option (tail c.turns.cursor) ≡ Err (f, c.option-in-turns.new.cursor)).
    list_failed (readers c.args.depth) form.option c.args.cursor.now c.turns.found c.turns.cursor (f, c.option-in-turns.new.cursor) c.turns.invariant.so_far h p in
    first_of (search rules, grind (arith, common_steps))

pub returns-clause-gives : goal.returns-clause-gives
returns-clause-gives c = list_ended (readers c.args.depth) form.option c.args.cursor.now c.turns.found c.turns.cursor c.turns.invariant.so_far (sym c.at_sign.ensures ∙ c.turns-test.false)
