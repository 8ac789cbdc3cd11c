use Rattle.std.proofs.Common.{arith, refl, ap, sym, ◌∙◌, List, ◌+◌, drop, subst}
use Rattle.sql_lex.specs.Cover.{Covers}
use Rattle.sql_lex.proofs.CoverLemmas.{covers-tokens, within-tokens}
use Rattle.sql_lex.specs.declared.token.Token.{Token}
use Rattle.sql_lex.specs.Lexed.{tokens_from}
use Rattle.sql_lex.proofs.LexedLemmas.{all_before, gap-fits, token-fits, step-gap, step-token, step-bad, step-end, step-blank}
use Rattle.sql_lex.proofs.lexer.lex.Goals as goal

pub overflow_add-at-in-Gap : goal.overflow_add-at-in-Gap
overflow_add-at-in-Gap c = omega (arith, (gap-fits c.args.script.now _ c.loop-at.at c.in-Gap.length refl c.loop-at.invariant.within c.in-Gap.ensures).1)

pub loop-at-smaller-in-Gap : goal.loop-at-smaller-in-Gap
loop-at-smaller-in-Gap c =
    let fits = gap-fits c.args.script.now _ c.loop-at.at c.in-Gap.length refl c.loop-at.invariant.within c.in-Gap.ensures in omega (arith, fits.0, fits.1)

pub loop-at-preserved-in-Gap : goal.loop-at-preserved-in-Gap
loop-at-preserved-in-Gap c =
    let fits = gap-fits c.args.script.now _ c.loop-at.at c.in-Gap.length refl c.loop-at.invariant.within c.in-Gap.ensures in
    record {
      within = fits.1;
      so_far = step-gap c.args.script.now _ c.loop-at.at c.in-Gap.length c.loop-at.list.items _ refl c.in-Gap.ensures fits.0 fits.2 c.loop-at.invariant.so_far;
    }

pub overflow_add-end : goal.overflow_add-end
overflow_add-end c = omega (arith, (token-fits c.args.script.now _ c.loop-at.at c.in-Lexeme.length c.in-Lexeme.kind refl c.loop-at.invariant.within c.in-Lexeme.ensures).1)

pub loop-at-smaller : goal.loop-at-smaller
loop-at-smaller c =
    let fits = token-fits c.args.script.now _ c.loop-at.at c.in-Lexeme.length c.in-Lexeme.kind refl c.loop-at.invariant.within c.in-Lexeme.ensures in omega (arith, fits.0, fits.1)

pub loop-at-preserved : goal.loop-at-preserved
loop-at-preserved c =
    let fits = token-fits c.args.script.now _ c.loop-at.at c.in-Lexeme.length c.in-Lexeme.kind refl c.loop-at.invariant.within c.in-Lexeme.ensures in
    record {
      within = fits.1;
      so_far =
          ap (λ (tokens : List Token). all_before tokens (tokens_from (c.loop-at.at + c.in-Lexeme.length) 0 (drop (c.loop-at.at + c.in-Lexeme.length) c.args.script.now))) c.in_ok-push-in-Lexeme.ensures.items
          ∙ step-token c.args.script.now _ c.loop-at.at c.in-Lexeme.length c.in-Lexeme.kind c.loop-at.list.items _ refl c.in-Lexeme.ensures fits.0 fits.2 c.loop-at.invariant.so_far;
    }

pub returns-in-Bad-clause-bad : goal.returns-in-Bad-clause-bad
returns-in-Bad-clause-bad c = λ place same.
    c.in_default.ensures
    ∙ step-bad c.args.script.now _ c.loop-at.at c.loop-at.list.items _ c.loop-at-test.true refl c.in-Bad.ensures c.loop-at.invariant.so_far
    ∙ (cc)

pub returns-clause-tokens : goal.returns-clause-tokens
returns-clause-tokens c = c.in_default.ensures ∙ step-end c.args.script.now c.loop-at.at c.loop-at.list.items _ c.loop-at-test.false c.loop-at.invariant.so_far ∙ (cc)

pub returns-clause-cover : goal.returns-clause-cover
returns-clause-cover c =
    let P : List Token → Type 0 = λ tokens. Covers 0 c.args.script.now tokens in
    subst P (sym c.new.ensures.list) (covers-tokens c.args.script.now c.loop-at.list.items (step-end c.args.script.now c.loop-at.at c.loop-at.list.items _ c.loop-at-test.false c.loop-at.invariant.so_far))

pub new-requires : goal.new-requires
new-requires c = within-tokens c.args.script.now c.loop-at.list.items (step-end c.args.script.now c.loop-at.at c.loop-at.list.items _ c.loop-at-test.false c.loop-at.invariant.so_far)

pub loop-at-preserved-then-is_blank : goal.loop-at-preserved-then-is_blank
loop-at-preserved-then-is_blank c = record {
  within = omega arith;
  so_far = step-blank c.args.script.now c.loop-at.at c.loop-at.list.items _ c.loop-at-test.true (cc) c.loop-at.invariant.so_far;
}
