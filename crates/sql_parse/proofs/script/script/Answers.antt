use Rattle.std.proofs.Common.{◌≡◌, ◌<◌, length, true, [], ◌∷◌, ◌++◌, Err, sym, ◌∙◌, ap, rules, arith}
use Rattle.std.proofs.lemmas.Grind.{common_steps}
use Rattle.sql_lex.specs.declared.token.Sign.TheVariants as s
use Rattle.sql_grammar.specs.Lexeme.{first, tail, sees}
use Rattle.sql_grammar.specs.Classes.{sign_class}
use Rattle.sql_grammar.specs.Combinators.{optional}
use Rattle.sql_grammar.specs.Reading.{read}
use Rattle.sql_grammar.specs.Nesting.{readers}
use Rattle.sql_grammar.specs.Statements as form
use Rattle.flat_rules.proofs.Lists.{seen_some}
use Rattle.sql_parse.proofs.Scripts.{script_started, script_not_started, script_stepped, script_failed, script_ended}
use Rattle.sql_parse.proofs.script.script.Goals as goal

pub turns-init : goal.turns-init
turns-init c = record {
  shrinks = c.optional_statement.ensures.shrinks;
  so_far = script_started (readers c.args.depth) c.args.cursor.now c.in_ok-first.first c.optional_statement.new.cursor c.keep.new.statements c.in_ok-first.ensures.gives
      (c.in_ok-keep.ensures ∙ ap (λ z. z ++ form.present (c.in_ok-first.first ∷ [])) c.new-statements.ensures);
}

pub turns-preserved : goal.turns-preserved
turns-preserved c =
    let h : sees (sign_class s.Semicolon ∷ []) (first c.turns.cursor) ≡ true = sym c.at_sign.ensures ∙ c.turns-test.true in
    let fell : length c.shift.new.self < length c.turns.cursor = c.shift.ensures.falls (seen_some (sign_class s.Semicolon ∷ []) (first c.turns.cursor) h) in
    record {
      shrinks = omega arith;
      so_far = script_stepped (readers c.args.depth) c.args.cursor.now c.turns.statements c.keep-in-turns.new.statements c.turns.cursor c.optional_statement-in-turns.new.cursor c.in_ok-next.next c.turns.invariant.so_far h
          (ap (read (readers c.args.depth) (optional form.statement)) (sym c.shift.ensures.tail) ∙ c.in_ok-next.ensures.gives) (omega arith) c.in_ok-keep-2.ensures;
    }

pub returns-in_err-next-clause-gives : goal.returns-in_err-next-clause-gives
returns-in_err-next-clause-gives c =
    let h : sees (sign_class s.Semicolon ∷ []) (first c.turns.cursor) ≡ true = sym c.at_sign.ensures ∙ c.turns-test.true in
    let f = λ (f : _) (p : read (readers c.args.depth) (optional form.statement) (tail c.turns.cursor) ≡ Err (f, c.optional_statement-in-turns.new.cursor)).
    script_failed (readers c.args.depth) c.args.cursor.now c.turns.statements c.turns.cursor (f, c.optional_statement-in-turns.new.cursor) c.turns.invariant.so_far h p in
    first_of (search rules, grind (arith, common_steps))

pub returns-clause-gives : goal.returns-clause-gives
returns-clause-gives c = script_ended (readers c.args.depth) c.args.cursor.now c.turns.statements c.turns.cursor c.turns.invariant.so_far (sym c.at_sign.ensures ∙ c.turns-test.false)

pub returns-in_err-first-clause-gives : goal.returns-in_err-first-clause-gives
returns-in_err-first-clause-gives c =
    let f = λ (f : _) (p : read (readers c.args.depth) (optional form.statement) c.args.cursor.now ≡ Err (f, c.optional_statement.new.cursor)).
    script_not_started (readers c.args.depth) c.args.cursor.now (f, c.optional_statement.new.cursor) p in
    first_of (search rules, grind (arith, common_steps))
