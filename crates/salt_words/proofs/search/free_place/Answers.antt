use Rattle.std.proofs.Common.{◌<◌, ◌≤◌, length, get_or, arith, ap, sym, ◌∙◌, subst}
use Rattle.salt_words.specs.Runs.{run_at, next_of}
use Rattle.salt_words.specs.Tables.{LeadsTo}
use Rattle.salt_words.proofs.Salted.{shorter}
use Rattle.salt_words.proofs.Growing.{leads_on, is_put}
use Rattle.salt_words.proofs.search.free_place.Goals as goal

pub loop-at-smaller : goal.loop-at-smaller
loop-at-smaller g c =
    let words = g.W.Words.words c.args.words.now in
    let there = c.loop-at-test.true in
    let read = c.word.ensures in
    let holes = c.requires.holes in
    let some : 1 ≤ get_or words c.loop-at.at 0 = omega (arith, there, read) in
    let next = ap (λ p. length (run_at words p)) (c.next_place-at.ensures.is ∙ ap (next_of c.loop-at.at) c.count.ensures) in
    let less = shorter words 0 c.loop-at.at c.loop-at.invariant.0 (omega (arith, holes)) some in
    omega (arith, next, less)

pub loop-at-preserved : goal.loop-at-preserved
loop-at-preserved g c =
    let words = g.W.Words.words c.args.words.now in
    let there = c.loop-at-test.true in
    let read = c.word.ensures in (
      subst (λ n. c.next_place-at.result < n) c.count.ensures c.next_place-at.ensures.below,
      subst (LeadsTo words c.args.first) (sym (c.next_place-at.ensures.is ∙ ap (next_of c.loop-at.at) c.count.ensures))
          (leads_on words c.args.first c.loop-at.at c.loop-at.invariant.0 (omega (arith, there, read)) c.loop-at.invariant.1),
    )

pub returns-clause-free : goal.returns-clause-free
returns-clause-free g c = λ word some.
    is_put (g.W.Words.words c.args.words.now) c.args.first c.loop-at.at word c.loop-at.invariant.0 (sym c.word.ensures ∙ c.loop-at-test.false) c.requires.holes some c.loop-at.invariant.1
