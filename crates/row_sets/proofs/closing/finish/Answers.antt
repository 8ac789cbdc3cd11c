use Rattle.std.proofs.Common.{sym, subst, refl, ap, ◌∙◌}
use Rattle.row_sets.specs.Holds.{nothing, Unpinned}
use Rattle.row_sets.specs.Changes.{Changes}
use Rattle.row_sets.specs.Sets.{Formed, set_ids, set_holding}
use Rattle.row_sets.specs.Packed.{Fill, fill_of, Packs}
use Rattle.row_sets.proofs.Fills.{written}
use Rattle.row_sets.specs.Closing.{closed_set}
use Rattle.row_sets.specs.Writers.{writer_holding}
use Rattle.row_sets.proofs.Changed.{changes_then, changes_as}
use Rattle.row_sets.proofs.SealedHere.{closed_formed, closed_unpinned, closed_holding}
use Rattle.row_sets.proofs.closing.finish.Goals as goal

pub close_page-requires-clause-writing : goal.close_page-requires-clause-writing
close_page-requires-clause-writing g c = written (Packs c.args.writer) g.P.Pages.terms c.args.writer c.requires.writing

pub returns-in-Ok-clause-asked : goal.returns-in-Ok-clause-asked
returns-in-Ok-clause-asked g c = ap (λ set. set.asked_bytes) c.as_set.ensures ∙ ap (λ (f : Fill). f.asked) c.in-Ok.ensures.fill

pub returns-in-Ok-clause-formed : goal.returns-in-Ok-clause-formed
returns-in-Ok-clause-formed g c =
    let t = g.P.Pages.terms in
    subst (Formed t) (sym c.as_set.ensures) (closed_formed t c.close_page.new.writer c.in-Ok.ensures.closed (fill_of c.args.writer) c.in-Ok.ensures.writing c.requires.writing.packs.packed c.in-Ok.ensures.fill)

pub returns-in-Ok-clause-unpinned : goal.returns-in-Ok-clause-unpinned
returns-in-Ok-clause-unpinned g c =
    let t = g.P.Pages.terms in
    let a = g.P.Pages.view c.close_page.new.pages in
    subst (λ set. Unpinned t a (set_ids t set)) (sym c.as_set.ensures) (closed_unpinned t c.close_page.new.writer c.in-Ok.ensures.closed a c.in-Ok.ensures.here.unpinned)

pub returns-in-Ok-clause-changes : goal.returns-in-Ok-clause-changes
returns-in-Ok-clause-changes g c =
    let t = g.P.Pages.terms in
    let a = g.P.Pages.view c.args.pages.now in
    let b = g.P.Pages.view c.close_page.new.pages in
    let w = c.close_page.new.writer in
    subst (λ set. Changes t (writer_holding t c.args.writer) (set_holding t set) a b) (sym c.as_set.ensures)
    (changes_as t (writer_holding t c.args.writer) (writer_holding t c.args.writer) (writer_holding t w) (set_holding t (closed_set w)) a b
    (record { pages = λ y. refl; pins = λ y. refl; opens = λ y. refl; held = refl })
    (closed_holding t w c.in-Ok.ensures.closed)
    c.close_page.ensures.changes)

pub returns-in-Err-clause-changes : goal.returns-in-Err-clause-changes
returns-in-Err-clause-changes g c =
    let t = g.P.Pages.terms in
    changes_then t (writer_holding t c.args.writer) (writer_holding t c.close_page.new.writer) nothing (g.P.Pages.view c.args.pages.now) (g.P.Pages.view c.close_page.new.pages) (g.P.Pages.view c.give_up.new.pages) c.close_page.ensures.changes c.give_up.ensures
