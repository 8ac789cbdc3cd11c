use Rattle.std.proofs.Common.{◌≤◌, length, sym, ◌∙◌, ap, subst, rules, arith}
use Rattle.row_sets.specs.Cells.{text_columns}
use Rattle.row_sets.specs.SetRows.{cell_kinds}
use Rattle.row_sets.specs.Holds.{nothing}
use Rattle.row_sets.specs.Given.{set_given}
use Rattle.row_sets.specs.Writers.{writer_holding}
use Rattle.row_sets.proofs.Changed.{changes_then, changes_as}
use Rattle.row_sets.proofs.Fresh.{new_writing, new_here, new_apart, new_holding}
use Rattle.row_cursors.proofs.copying.copy_of.Goals as goal

pub copy_rows-requires-clause-writing : goal.copy_rows-requires-clause-writing
copy_rows-requires-clause-writing g c =
    let set = c.args.set.now in
    let e = c.as_slice.ensures in
    let n = ap length e in
    let columns = c.requires.formed.columns in
    let some = columns.some in
    let few = columns.few in
    let texts = subst (λ kinds. text_columns kinds ≤ 64) (columns.layout_is ∙ sym (ap cell_kinds e)) columns.texts in
    new_writing g.P.Pages.terms c.as_slice.result.now set.page_bytes c.new_writer-writer.result c.new_writer-writer.ensures (omega (arith, n, some)) (omega (arith, n, few)) texts c.requires.formed.is_page

pub copy_rows-requires-clause-writer_here : goal.copy_rows-requires-clause-writer_here
copy_rows-requires-clause-writer_here g c =
    let set = c.args.set.now in
    new_here g.P.Pages.terms c.as_slice.result.now set.page_bytes c.new_writer-writer.result c.new_writer-writer.ensures (g.P.Pages.view c.args.pages.now) c.requires.here.page_bytes

pub copy_rows-requires-clause-apart : goal.copy_rows-requires-clause-apart
copy_rows-requires-clause-apart g c =
    let set = c.args.set.now in
    new_apart g.P.Pages.terms c.as_slice.result.now set.page_bytes c.new_writer-writer.result c.new_writer-writer.ensures set c.requires.formed.differ

pub returns-in-Ok-clause-changes : goal.returns-in-Ok-clause-changes
returns-in-Ok-clause-changes g c =
    let t = g.P.Pages.terms in
    let set = c.args.set.now in
    let none = new_holding t c.as_slice.result.now set.page_bytes c.new_writer-writer.result c.new_writer-writer.ensures in
    changes_then t nothing (writer_holding t c.copy_rows.new.writer) (set_given t c.finish.result) (g.P.Pages.view c.args.pages.now) (g.P.Pages.view c.copy_rows.new.pages) (g.P.Pages.view c.finish.new.pages)
    (changes_as t (writer_holding t c.new_writer-writer.result) nothing (writer_holding t c.copy_rows.new.writer) (writer_holding t c.copy_rows.new.writer) (g.P.Pages.view c.args.pages.now) (g.P.Pages.view c.copy_rows.new.pages) none (search rules) c.copy_rows.ensures.changes)
    c.finish.ensures.changes

pub returns-in-Err-clause-changes : goal.returns-in-Err-clause-changes
returns-in-Err-clause-changes g c =
    let t = g.P.Pages.terms in
    let set = c.args.set.now in
    let none = new_holding t c.as_slice.result.now set.page_bytes c.new_writer-writer.result c.new_writer-writer.ensures in
    changes_then t nothing (writer_holding t c.copy_rows.new.writer) nothing (g.P.Pages.view c.args.pages.now) (g.P.Pages.view c.copy_rows.new.pages) (g.P.Pages.view c.abandon.new.pages)
    (changes_as t (writer_holding t c.new_writer-writer.result) nothing (writer_holding t c.copy_rows.new.writer) (writer_holding t c.copy_rows.new.writer) (g.P.Pages.view c.args.pages.now) (g.P.Pages.view c.copy_rows.new.pages) none (search rules) c.copy_rows.ensures.changes)
    c.abandon.ensures
