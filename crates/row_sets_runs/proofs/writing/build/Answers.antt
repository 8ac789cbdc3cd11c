use Rattle.std.proofs.Common.{rules}
use Rattle.row_sets.specs.Holds.{nothing, SameHolding}
use Rattle.row_sets.specs.Given.{set_given}
use Rattle.row_sets.specs.Writers.{writer_holding}
use Rattle.row_sets.proofs.Changed.{changes_then, changes_as}
use Rattle.row_sets.proofs.Fresh.{new_holding, new_writing}
use Rattle.row_sets_runs.proofs.writing.build.Goals as goal

pub fill-requires-clause-writing : goal.fill-requires-clause-writing
fill-requires-clause-writing g c =
    new_writing g.P.Pages.terms c.args.kinds.now c.page_bytes-page.result c.new_writer-writer.result c.new_writer-writer.ensures c.requires.columns.some c.requires.columns.few c.requires.columns.texts (search rules)

pub returns-in-Ok-clause-changes : goal.returns-in-Ok-clause-changes
returns-in-Ok-clause-changes g c =
    let t = g.P.Pages.terms in
    let none = new_holding t c.args.kinds.now c.page_bytes-page.result c.new_writer-writer.result c.new_writer-writer.ensures in
    changes_then t nothing (writer_holding t c.fill.new.writer) (set_given t c.finish.result) (g.P.Pages.view c.args.pages.now) (g.P.Pages.view c.fill.new.pages) (g.P.Pages.view c.finish.new.pages)
    (changes_as t (writer_holding t c.new_writer-writer.result) nothing (writer_holding t c.fill.new.writer) (writer_holding t c.fill.new.writer) (g.P.Pages.view c.args.pages.now) (g.P.Pages.view c.fill.new.pages) none (search rules) c.fill.ensures.changes)
    c.finish.ensures.changes

pub returns-in-Err-clause-changes : goal.returns-in-Err-clause-changes
returns-in-Err-clause-changes g c =
    let t = g.P.Pages.terms in
    let none = new_holding t c.args.kinds.now c.page_bytes-page.result c.new_writer-writer.result c.new_writer-writer.ensures in
    changes_then t nothing (writer_holding t c.fill.new.writer) nothing (g.P.Pages.view c.args.pages.now) (g.P.Pages.view c.fill.new.pages) (g.P.Pages.view c.abandon.new.pages)
    (changes_as t (writer_holding t c.new_writer-writer.result) nothing (writer_holding t c.fill.new.writer) (writer_holding t c.fill.new.writer) (g.P.Pages.view c.args.pages.now) (g.P.Pages.view c.fill.new.pages) none (search rules) c.fill.ensures.changes)
    c.abandon.ensures
