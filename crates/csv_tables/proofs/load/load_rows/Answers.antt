use Rattle.std.proofs.Common.{◌∙◌}
use Rattle.row_sets.specs.Holds.{nothing}
use Rattle.row_sets.specs.Sets.{set_holding}
use Rattle.row_sets.specs.Writers.{written_cells, writer_holding}
use Rattle.row_sets.proofs.Changed.{changes_then}
use Rattle.csv_load.specs.Ahead.{told_rows}
use Rattle.csv_tables.proofs.Loaded.{set-loads, set-table, memory-loads, fault-loads, cause-later}
use Rattle.csv_tables.proofs.load.load_rows.Goals as goal

pub returns-in-Ok-finish-clause-loads : goal.returns-in-Ok-finish-clause-loads
returns-in-Ok-finish-clause-loads g c =
    let t = g.P.Pages.terms in
    let r = c.args.rows.now.reading in
    let e = c.in-Ok-finish.ensures in
    set-loads t r.limit r.columns (told_rows c.args.rows.now (g.F.Files.left c.args.files.now)) (written_cells t c.args.writer) (written_cells t c.append_rows.new.writer) c.in-Ok-finish.set
    c.in-Ok.ensures.rows c.requires.empty e.cells (e.kinds ∙ c.in-Ok.ensures.columns.kinds ∙ c.requires.kinds)

pub returns-in-Ok-finish-clause-table : goal.returns-in-Ok-finish-clause-table
returns-in-Ok-finish-clause-table g c =
    let t = g.P.Pages.terms in
    let r = c.args.rows.now.reading in
    let e = c.in-Ok-finish.ensures in
    set-table t r.limit r.columns (told_rows c.args.rows.now (g.F.Files.left c.args.files.now)) (written_cells t c.args.writer) (written_cells t c.append_rows.new.writer) c.in-Ok-finish.set
    c.in-Ok.ensures.rows c.requires.empty e.cells (e.kinds ∙ c.in-Ok.ensures.columns.kinds ∙ c.requires.kinds)

pub returns-in-Ok-finish-clause-changes : goal.returns-in-Ok-finish-clause-changes
returns-in-Ok-finish-clause-changes g c =
    let t = g.P.Pages.terms in
    changes_then t (writer_holding t c.args.writer) (writer_holding t c.append_rows.new.writer) (set_holding t c.in-Ok-finish.set)
    (g.P.Pages.view c.args.pages.now) (g.P.Pages.view c.append_rows.new.pages) (g.P.Pages.view c.finish.new.pages) c.in-Ok.ensures.changes c.in-Ok-finish.ensures.changes

pub returns-in-Err-finish-clause-loads : goal.returns-in-Err-finish-clause-loads
returns-in-Err-finish-clause-loads g c = memory-loads g.P.Pages.terms (told_rows c.args.rows.now (g.F.Files.left c.args.files.now))

pub returns-in-Err-finish-clause-changes : goal.returns-in-Err-finish-clause-changes
returns-in-Err-finish-clause-changes g c =
    let t = g.P.Pages.terms in
    changes_then t (writer_holding t c.args.writer) (writer_holding t c.append_rows.new.writer) nothing
    (g.P.Pages.view c.args.pages.now) (g.P.Pages.view c.append_rows.new.pages) (g.P.Pages.view c.finish.new.pages) c.in-Ok.ensures.changes c.in-Err-finish.ensures.changes

pub returns-in-Err-clause-loads : goal.returns-in-Err-clause-loads
returns-in-Err-clause-loads g c = fault-loads g.P.Pages.terms (told_rows c.args.rows.now (g.F.Files.left c.args.files.now)) c.in-Err.fault c.in-Err.ensures.refused

pub returns-in-Err-clause-cause : goal.returns-in-Err-clause-cause
returns-in-Err-clause-cause g c =
    cause-later (g.F.Files.faults c.args.files.now) (g.F.Files.faults c.append_rows.new.files) (g.P.Pages.view c.args.pages.now).faults (g.P.Pages.view c.append_rows.new.pages).faults (g.P.Pages.view c.abandon.new.pages).faults
    c.in-Err.fault c.abandon.ensures.faults c.in-Err.ensures.cause

pub returns-in-Err-clause-changes : goal.returns-in-Err-clause-changes
returns-in-Err-clause-changes g c =
    let t = g.P.Pages.terms in
    changes_then t (writer_holding t c.args.writer) (writer_holding t c.append_rows.new.writer) nothing
    (g.P.Pages.view c.args.pages.now) (g.P.Pages.view c.append_rows.new.pages) (g.P.Pages.view c.abandon.new.pages) c.in-Err.ensures.changes c.abandon.ensures
