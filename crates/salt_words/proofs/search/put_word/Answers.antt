use Rattle.std.proofs.Common.{sym, subst}
use Rattle.salt_words.specs.Tables.{IsPut}
use Rattle.salt_words.proofs.search.put_word.Goals as goal

pub returns : goal.returns
returns g c =
    subst (λ new. IsPut (g.W.Words.words c.args.words.now) new c.args.first c.args.word) (sym c.set_word.ensures)
    (c.free_place-at.ensures.free c.args.word c.requires.some)
