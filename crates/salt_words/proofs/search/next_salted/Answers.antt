use Rattle.std.proofs.Common.{◌<◌, ◌≤◌, ◌∷◌, subst, length, get_or, arith, ap, sym, ◌∙◌}
use Rattle.salt_words.specs.Runs.{next_of, has_salt, salted_at, run_at}
use Rattle.salt_words.proofs.Salted.{shorter, other_salt, same_salt, no_more}
use Rattle.salt_words.proofs.search.next_salted.Goals as goal

pub returns-then-is_salted-clause-some : goal.returns-then-is_salted-clause-some
returns-then-is_salted-clause-some g c =
    let words = g.W.Words.words c.args.words.now in
    let is = c.loop-word.invariant.1 in
    let there = c.loop-word-test.true in
    let some : 1 ≤ get_or words c.loop-word.at 0 = omega (arith, is, there) in
    let salted = ap (has_salt c.args.salt) (sym is) ∙ sym c.is_salted.ensures ∙ c.if-is_salted.true in
    c.loop-word.invariant.2
    ∙ same_salt words c.args.salt c.loop-word.at c.loop-word.invariant.0 c.requires.hole some salted
    ∙ ap (λ w. w ∷ salted_at words c.args.salt (next_of c.loop-word.at (length words))) (sym is)
    ∙ ap (λ p. c.loop-word.word ∷ salted_at words c.args.salt p) (sym (c.next_place-at.ensures.is ∙ ap (next_of c.loop-word.at) c.count.ensures))

pub loop-word-smaller : goal.loop-word-smaller
loop-word-smaller g c =
    let words = g.W.Words.words c.args.words.now in
    let is = c.loop-word.invariant.1 in
    let there = c.loop-word-test.true in
    let some : 1 ≤ get_or words c.loop-word.at 0 = omega (arith, is, there) in
    let next = ap (λ p. length (run_at words p)) (c.next_place-at.ensures.is ∙ ap (next_of c.loop-word.at) c.count.ensures) in
    let less = shorter words c.args.salt c.loop-word.at c.loop-word.invariant.0 c.requires.hole some in
    omega (arith, next, less)

pub loop-word-preserved : goal.loop-word-preserved
loop-word-preserved g c =
    let words = g.W.Words.words c.args.words.now in
    let is = c.loop-word.invariant.1 in
    let there = c.loop-word-test.true in
    let some : 1 ≤ get_or words c.loop-word.at 0 = omega (arith, is, there) in
    let other = ap (has_salt c.args.salt) (sym is) ∙ sym c.is_salted.ensures ∙ c.if-is_salted.false in (
      subst (λ n. c.next_place-at.result < n) c.count.ensures c.next_place-at.ensures.below,
      c.word-word-in-loop-word.ensures,
      c.loop-word.invariant.2
          ∙ other_salt words c.args.salt c.loop-word.at c.loop-word.invariant.0 c.requires.hole some other
          ∙ ap (salted_at words c.args.salt) (sym (c.next_place-at.ensures.is ∙ ap (next_of c.loop-word.at) c.count.ensures)),
    )

pub returns-clause-none : goal.returns-clause-none
returns-clause-none g c = λ _.
    c.loop-word.invariant.2
    ∙ no_more (g.W.Words.words c.args.words.now) c.args.salt c.loop-word.at c.loop-word.invariant.0 c.requires.hole (sym c.loop-word.invariant.1 ∙ c.loop-word-test.false)

pub returns-clause-end : goal.returns-clause-end
returns-clause-end g c = λ _. no_more (g.W.Words.words c.args.words.now) c.args.salt c.loop-word.at c.loop-word.invariant.0 c.requires.hole (sym c.loop-word.invariant.1 ∙ c.loop-word-test.false)
