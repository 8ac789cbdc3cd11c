use Rattle.std.proofs.Common.{◌≡◌, get_or, sym, ◌∙◌}
use Rattle.std.specs.Prelude.{slice_get}
use Rattle.std.proofs.lemmas.Option.{slice_get-get_or}
use Rattle.pool_core.specs.declared.state.CorePage.{CorePage}
use Rattle.pool_core.specs.Effects.{marks_left}
use Rattle.pool_core.proofs.Lists.{at_some}
use Rattle.pool_core.proofs.MarksLeft.{left_read, left_gone}
use Rattle.pool_core.proofs.step.drop_unread.Goals as goal

pub returns-then-not-has : goal.returns-then-not-has
returns-then-not-has c =
    let P : CorePage → Type 0 = λ p. c.drop_marks.new.marks.items ≡ marks_left c.args.pages.now c.args.actor c.args.page p.readers c.args.marks.now.items in
    let p = get_or c.args.pages.now c.args.page c.index-pages-page.result in
    let there = slice_get-get_or c.args.pages.now c.args.page c.index-pages-page.result c.requires in
    at_some (slice_get c.args.pages.now c.args.page) P p there
    (c.drop_marks.ensures ∙ sym (left_gone c.args.pages.now c.args.actor c.args.page p.readers c.args.marks.now.items (sym c.has.ensures.value ∙ c.if-not-has.true)))

pub returns-else-not-has : goal.returns-else-not-has
returns-else-not-has c =
    let P : CorePage → Type 0 = λ p. c.args.marks.now.items ≡ marks_left c.args.pages.now c.args.actor c.args.page p.readers c.args.marks.now.items in
    let p = get_or c.args.pages.now c.args.page c.index-pages-page.result in
    let there = slice_get-get_or c.args.pages.now c.args.page c.index-pages-page.result c.requires in
    at_some (slice_get c.args.pages.now c.args.page) P p there
    (sym (left_read c.args.pages.now c.args.actor c.args.page p.readers c.args.marks.now.items (sym c.has.ensures.value ∙ c.if-not-has.false)))
